use Rattle.std.proofs.Common.{◌≡◌, ◌<◌, ◌∷◌, ◌++◌, [], length, get_or, lit<, not, sym, ap, ◌∙◌, rules}
use borrow.Author.Tests.{eqb-true}
use Rattle.std.proofs.lemmas.Iterator.Splits.{YieldsList-from_str_split}
use Rattle.std.proofs.lemmas.Iterator.Consumers.{YieldsList-turn, YieldsList-end}
use Rattle.std.proofs.lemmas.List.{length_push}
use Rattle.dns_zone.proofs.Fields.{all_passed, overflows, parts, skips, takes, texts-push, length-texts}
use Rattle.dns_zone.proofs.field.fields_of.Goals as goal
use Rattle.dns_zone.proofs.field.fields_of.Goals.{In-Some, In-None}

-- the part of this turn
turn : (c : In-Some) → (length c.loop-field.yielded < length (parts c.args.line.now))
    × (c.in-Some.field.now ≡ get_or (parts c.args.line.now) (length c.loop-field.yielded) c.in-Some.field.now)
turn c =
    let whole = YieldsList-from_str_split 32 c.args.line.now (lit< tt) (cc) (cc) (cc) in
    YieldsList-turn whole c.loop-field.yielded _ c.loop-field.yielded_by _ _ c.in-Some.field c.in-Some.is c.next.ensures.steps

-- every part had its turn
all_turns : (c : In-None) → length c.loop-field.yielded ≡ length (parts c.args.line.now)
all_turns c =
    let whole = YieldsList-from_str_split 32 c.args.line.now (lit< tt) (cc) (cc) (cc) in
    let all = YieldsList-end whole c.loop-field.yielded _ c.loop-field.yielded_by _ _ c.in-None.is c.next.ensures.steps in
    all.1

pub returns-then-is_full : goal.returns-then-is_full
returns-then-is_full c =
    let l = c.loop-field in
    let this = turn (goal.at.returns-then-is_full c).In-Some in
    overflows c.args.line.now (length l.yielded) c.in-Some.field.now this.0 this.1 (ap not (sym c.if-not-is_empty.ensures))
    (ap length (sym l.invariant.fields) ∙ length-texts l.fields.items ∙ eqb-true _ _ (sym c.if-is_full.ensures.value))

pub loop-field-preserved-then-not-is_empty : goal.loop-field-preserved-then-not-is_empty
loop-field-preserved-then-not-is_empty c =
    let l = c.loop-field in
    let this = turn (goal.at.loop-field-preserved-then-not-is_empty c).In-Some in
    record {
      can_next = search rules;
      is_finite = search rules;
      fields = rw (length_push l.yielded c.in-Some.field, c.push.ensures.items, texts-push l.fields.items c.in-Some.field)
          (ap (λ fields. fields ++ c.in-Some.field.now ∷ []) l.invariant.fields ∙ sym
          (takes c.args.line.now (length l.yielded) c.in-Some.field.now this.0 this.1 (ap not (sym c.if-not-is_empty.ensures))));
    }

pub loop-field-preserved : goal.loop-field-preserved
loop-field-preserved c =
    let l = c.loop-field in
    let this = turn (goal.at.loop-field-preserved c).In-Some in
    record {
      can_next = search rules;
      is_finite = search rules;
      fields = rw (length_push l.yielded c.in-Some.field)
          (l.invariant.fields ∙ sym
          (skips c.args.line.now (length l.yielded) c.in-Some.field.now this.0 this.1 (ap not (sym c.if-not-is_empty.ensures))));
    }

pub returns : goal.returns
returns c = c.loop-field.invariant.fields ∙ all_passed c.args.line.now (length c.loop-field.yielded) (all_turns (goal.at.returns c).In-None)
