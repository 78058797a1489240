use Rattle.std.proofs.Common.{◌≡◌, ◌==◌, ◌<◌, ℕ, length, get_or, rules, tests, arith, sym}
use Rattle.std.proofs.lemmas.Iterator.Splits.{YieldsList-from_slice_split}
use Rattle.std.proofs.lemmas.Iterator.Consumers.{YieldsList-turn, YieldsList-end}
use Rattle.std.proofs.lemmas.List.{length_push}
use Rattle.std.proofs.lemmas.Result.{err_from_is_err_and}
use Rattle.dns_name.specs.Texts.{parted}
use Rattle.dns_name.proofs.TextLabels.{has_fault, goes_on, dotted_short, dotted_long}
use Rattle.dns_name.proofs.text.check_labels.Goals as goal
use Rattle.dns_name.proofs.text.check_labels.Goals.{In-Some, In-None}

-- the label of this turn
turn : (c : In-Some) → (length c.loop-label.yielded < length (parted c.args.text.now))
    × (c.in-Some.label.now ≡ get_or (parted c.args.text.now) (length c.loop-label.yielded) c.in-Some.label.now)
turn c =
    let whole = YieldsList-from_slice_split _ (λ (octet : ℕ). octet == 46) c.args.text.now (cc) (cc) (cc)
    (λ x b q k. search (rules, tests)) in
    YieldsList-turn whole c.loop-label.yielded _ c.loop-label.yielded_by _ _ c.in-Some.label c.in-Some.is c.next.ensures.steps

-- every label had its turn
all_turns : (c : In-None) → length c.loop-label.yielded ≡ length (parted c.args.text.now)
all_turns c =
    let whole = YieldsList-from_slice_split _ (λ (octet : ℕ). octet == 46) c.args.text.now (cc) (cc) (cc)
    (λ x b q k. search (rules, tests)) in
    let all = YieldsList-end whole c.loop-label.yielded _ c.loop-label.yielded_by _ _ c.in-None.is c.next.ensures.steps in
    all.1

pub returns-in_err-check_label : goal.returns-in_err-check_label
returns-in_err-check_label c =
    let l = c.loop-label in
    let this = turn (goal.at.returns-in_err-check_label c).In-Some in
    let e = err_from_is_err_and c.from_residual.result c.from_residual.ensures.1 in
    rw (e.1, e.2)
    (sym (has_fault (parted c.args.text.now)
    (length l.yielded) c.in-Some.label.now this.0 this.1 c.in_err-check_label.field-0.0 l.invariant.faultless
    (sym c.in_err-check_label.ensures)))

pub loop-label-preserved : goal.loop-label-preserved
loop-label-preserved c =
    let l = c.loop-label in
    let this = turn (goal.at.loop-label-preserved c).In-Some in
    let next = length_push l.yielded c.in-Some.label in
    record {
      can_next = search rules;
      is_finite = search rules;
      faultless = rw next
          (goes_on (parted c.args.text.now) (length l.yielded) c.in-Some.label.now this.0 this.1 l.invariant.faultless
          (sym c.in_ok-check_label.ensures));
    }

pub returns-then-text-gt-NAME_LIMIT : goal.returns-then-text-gt-NAME_LIMIT
returns-then-text-gt-NAME_LIMIT c =
    let l = c.loop-label in
    let all = all_turns (goal.at.returns-then-text-gt-NAME_LIMIT c).In-None in
    sym (dotted_long c.args.text.now (length l.yielded) all l.invariant.faultless c.if-text-gt-NAME_LIMIT.true)

pub returns : goal.returns
returns c =
    let l = c.loop-label in
    let all = all_turns (goal.at.returns c).In-None in
    sym (dotted_short c.args.text.now (length l.yielded) all l.invariant.faultless (omega arith))
