use Rattle.std.proofs.Common.{◌≡◌, ◌<◌, ◌+◌, ℕ, length, get_or, Option, inl, inr, refl, ap, ◌∙◌, arith, length-append, rules}
use Rattle.std.specs.Str.Lines.{lines}
use Rattle.std.proofs.lemmas.Iterator.Splits.{YieldsList-from_lines}
use Rattle.std.proofs.lemmas.Iterator.Consumers.{YieldsList-from_enumerate, YieldsList-turn, YieldsList-end}
use Rattle.std.proofs.lemmas.List.{length_push}
use Rattle.std.proofs.lemmas.Result.{err_from_is_err_and}
use Rattle.std.proofs.lemmas.List.FromFn.{length-enumerate_from}
use Rattle.dns_message.specs.declared.resource.Record.{Record}
use Rattle.dns_zone.specs.declared.refusal.ZoneRefusal.TheVariants.{BadLine}
use Rattle.dns_zone.specs.Lines.{LineSays}
use Rattle.dns_zone.proofs.Said.{all_said, among, are_all, none_bad, numbered, one_first_bad, passes, says_entry, says_nothing, stops, takes}
use Rattle.dns_zone.proofs.zone.Zone.read.Goals as goal
use Rattle.dns_zone.proofs.zone.Zone.read.Goals.{In-Some, In-None, In-Err-Bad}

-- the line of this turn, and its place
turn : (c : In-Some) → (c.in-Some.at ≡ length c.loop-at.yielded) × (length c.loop-at.yielded < length (lines c.args.text.now))
    × (c.in-Some.line.now ≡ get_or (lines c.args.text.now) (length c.loop-at.yielded) c.in-Some.line.now)
turn c =
    let whole = YieldsList-from_enumerate (YieldsList-from_lines c.args.text.now (cc)) (cc) in
    let this = YieldsList-turn whole c.loop-at.yielded _ c.loop-at.yielded_by _ _
    (c.in-Some.at, c.in-Some.line) c.in-Some.is c.next.ensures.steps in
    numbered (lines c.args.text.now) (length c.loop-at.yielded) c.in-Some.at c.in-Some.line.now this.0 this.1

-- every line had its turn
all_turns : (c : In-None) → length c.loop-at.yielded ≡ length (lines c.args.text.now)
all_turns c =
    let whole = YieldsList-from_enumerate (YieldsList-from_lines c.args.text.now (cc)) (cc) in
    let all = YieldsList-end whole c.loop-at.yielded _ c.loop-at.yielded_by _ _ c.in-None.is c.next.ensures.steps in
    all.1 ∙ length-enumerate_from 0 (lines c.args.text.now)

-- a bad line says nothing
never : (c : In-Err-Bad) (said : Option Record) → LineSays c.in-Some.line.now said → ⊥
never c said is =
    let no = rw c.in-Err-Bad.field-0-is at c.in-Err-Bad.ensures.read said is in
    absurd cc

pub loop-at-preserved-in-Ok-None : goal.loop-at-preserved-in-Ok-None
loop-at-preserved-in-Ok-None c =
    let l = c.loop-at in
    let this = turn (goal.at.loop-at-preserved-in-Ok-None c).In-Some in
    record {
      can_next = search rules;
      is_finite = search rules;
      drafting = rw (length_push l.yielded (c.in-Some.at, c.in-Some.line))
          (passes (lines c.args.text.now)
          (length l.yielded) c.in-Some.line.now this.1 this.2 l.builder.count l.builder.zone l.invariant.drafting
          (rw c.in-Ok-None.field-0-is at c.in-Ok-None.ensures.found)
          (λ said is. rw c.in-Ok-None.field-0-is at c.in-Ok-None.ensures.read said is));
    }

pub loop-at-preserved : goal.loop-at-preserved
loop-at-preserved c =
    let l = c.loop-at in
    let this = turn (goal.at.loop-at-preserved c).In-Some in
    record {
      can_next = search rules;
      is_finite = search rules;
      drafting = rw (length_push l.yielded (c.in-Some.at, c.in-Some.line))
          (takes (lines c.args.text.now) (length l.yielded) c.in-Some.line.now this.1 this.2 l.builder.count l.builder.zone
          l.invariant.drafting
          c.in-Ok-Some.entry c.add.new.self.count c.add.new.self.zone
          (rw c.in-Ok-Some.field-0-is at c.in-Ok-Some.ensures.found)
          (λ said is. rw c.in-Ok-Some.field-0-is at c.in-Ok-Some.ensures.read said is)
          c.in_ok-add-in-Ok-Some.ensures.count c.in_ok-add-in-Ok-Some.ensures.holds);
    }

pub returns-in-Err-Bad-clause-read : goal.returns-in-Err-Bad-clause-read
returns-in-Err-Bad-clause-read c = λ records says few.
    let l = c.loop-at in
    let this = turn (goal.at.returns-in-Err-Bad-clause-read c).In-Some in
    absurd (says_nothing (lines c.args.text.now)
    (length l.yielded) c.in-Some.line.now this.1 this.2 l.builder.count l.builder.zone l.invariant.drafting
    (never (goal.at.returns-in-Err-Bad-clause-read c).In-Err-Bad) records says)

pub returns-in-Err-Bad-clause-too_many : goal.returns-in-Err-Bad-clause-too_many
returns-in-Err-Bad-clause-too_many c = λ records says many.
    let l = c.loop-at in
    let this = turn (goal.at.returns-in-Err-Bad-clause-too_many c).In-Some in
    absurd (says_nothing (lines c.args.text.now)
    (length l.yielded) c.in-Some.line.now this.1 this.2 l.builder.count l.builder.zone l.invariant.drafting
    (never (goal.at.returns-in-Err-Bad-clause-too_many c).In-Err-Bad) records says)

pub returns-in-Err-Bad-clause-refused : goal.returns-in-Err-Bad-clause-refused
returns-in-Err-Bad-clause-refused c =
    let l = c.loop-at in
    let this = turn (goal.at.returns-in-Err-Bad-clause-refused c).In-Some in
    rw this.0 (stops (lines c.args.text.now)
    (length l.yielded) c.in-Some.line.now this.1 this.2 l.builder.count l.builder.zone l.invariant.drafting
    (never (goal.at.returns-in-Err-Bad-clause-refused c).In-Err-Bad))

pub returns-then-builder-gt-RECORD_LIMIT-clause-refused : goal.returns-then-builder-gt-RECORD_LIMIT-clause-refused
returns-then-builder-gt-RECORD_LIMIT-clause-refused c =
    let l = c.loop-at in
    let drafting = l.invariant.drafting in
    let whole = all_turns (goal.at.returns-then-builder-gt-RECORD_LIMIT-clause-refused c).In-None in (
      drafting.records,
      all_said (lines c.args.text.now) (length l.yielded) l.builder.count l.builder.zone drafting whole,
      omega (arith, drafting.counted),
    )

pub returns-clause-found : goal.returns-clause-found
returns-clause-found c =
    let l = c.loop-at in
    let drafting = l.invariant.drafting in
    let whole = all_turns (goal.at.returns-clause-found c).In-None in (
      drafting.records,
      all_said (lines c.args.text.now) (length l.yielded) l.builder.count l.builder.zone drafting whole,
      omega (arith, drafting.counted),
      drafting.holds (omega arith),
    )

pub returns-clause-read : goal.returns-clause-read
returns-clause-read c = λ records says few.
    let l = c.loop-at in
    let drafting = l.invariant.drafting in
    let whole = all_turns (goal.at.returns-clause-read c).In-None in
    let same = are_all (lines c.args.text.now) (length l.yielded) l.builder.count l.builder.zone drafting whole records says in
    rw same (drafting.holds (omega arith))

pub returns-clause-too_many : goal.returns-clause-too_many
returns-clause-too_many c = λ records says many.
    let l = c.loop-at in
    let drafting = l.invariant.drafting in
    let whole = all_turns (goal.at.returns-clause-too_many c).In-None in
    let same = are_all (lines c.args.text.now) (length l.yielded) l.builder.count l.builder.zone drafting whole records says in
    absurd (omega (arith, drafting.counted, many, ap length same))

pub returns-in-Err-Bad-clause-bad : goal.returns-in-Err-Bad-clause-bad
returns-in-Err-Bad-clause-bad c = λ number is.
    let l = c.loop-at in
    let this = turn (goal.at.returns-in-Err-Bad-clause-bad c).In-Some in
    let here = stops (lines c.args.text.now)
    (length l.yielded) c.in-Some.line.now this.1 this.2 l.builder.count l.builder.zone l.invariant.drafting
    (never (goal.at.returns-in-Err-Bad-clause-bad c).In-Err-Bad) in
    inl (ap BadLine (ap (λ (at : ℕ). at + 1) this.0 ∙ one_first_bad (lines c.args.text.now) (length l.yielded + 1) number here is))

pub returns-then-builder-gt-RECORD_LIMIT-clause-bad : goal.returns-then-builder-gt-RECORD_LIMIT-clause-bad
returns-then-builder-gt-RECORD_LIMIT-clause-bad c = λ number is.
    let l = c.loop-at in
    let drafting = l.invariant.drafting in
    let whole = all_turns (goal.at.returns-then-builder-gt-RECORD_LIMIT-clause-bad c).In-None in
    absurd (none_bad (lines c.args.text.now) drafting.records number
    (all_said (lines c.args.text.now) (length l.yielded) l.builder.count l.builder.zone drafting whole) is)

pub returns-clause-bad : goal.returns-clause-bad
returns-clause-bad c = λ number is.
    let l = c.loop-at in
    let drafting = l.invariant.drafting in
    let whole = all_turns (goal.at.returns-clause-bad c).In-None in
    absurd (none_bad (lines c.args.text.now) drafting.records number
    (all_said (lines c.args.text.now) (length l.yielded) l.builder.count l.builder.zone drafting whole) is)

pub returns-in-Err-Memory-clause-refused : goal.returns-in-Err-Memory-clause-refused
returns-in-Err-Memory-clause-refused c =
    let l = c.loop-at in
    let this = turn (goal.at.returns-in-Err-Memory-clause-refused c).In-Some in
    among (lines c.args.text.now) (length l.yielded) c.in-Some.line.now this.1 this.2
    (c.in-Err-Memory.ensures.memory c.in-Err-Memory.field-0-is)

pub returns-in_err-add-in-Ok-Some-clause-refused : goal.returns-in_err-add-in-Ok-Some-clause-refused
returns-in_err-add-in-Ok-Some-clause-refused c =
    let l = c.loop-at in
    let this = turn (goal.at.returns-in_err-add-in-Ok-Some-clause-refused c).In-Some in
    let said = rw c.in-Ok-Some.field-0-is at c.in-Ok-Some.ensures.found in
    let r = err_from_is_err_and c.from_residual.result c.from_residual.ensures.1 in
    rw (r.1, r.2)
    (among (lines c.args.text.now) (length l.yielded) c.in-Some.line.now this.1 this.2
    (says_entry c.in-Some.line.now c.in-Ok-Some.entry said))

pub returns-then-builder-gt-RECORD_LIMIT-clause-read : goal.returns-then-builder-gt-RECORD_LIMIT-clause-read
returns-then-builder-gt-RECORD_LIMIT-clause-read c = λ records says few.
    let drafting = c.loop-at.invariant.drafting in
    let k = drafting.back records says in
    absurd (omega (arith, drafting.counted, few, ap length k.1, length-append drafting.records k.0))

pub returns-in_err-add-in-Ok-Some-clause-found : goal.returns-in_err-add-in-Ok-Some-clause-found
returns-in_err-add-in-Ok-Some-clause-found c =
    let r = err_from_is_err_and c.from_residual.result c.from_residual.ensures.1 in
    rw r.1 tt

pub returns-in_err-add-in-Ok-Some-clause-read : goal.returns-in_err-add-in-Ok-Some-clause-read
returns-in_err-add-in-Ok-Some-clause-read c = λ records says few.
    let r = err_from_is_err_and c.from_residual.result c.from_residual.ensures.1 in
    rw (r.1, r.2) refl

pub returns-in_err-add-in-Ok-Some-clause-too_many : goal.returns-in_err-add-in-Ok-Some-clause-too_many
returns-in_err-add-in-Ok-Some-clause-too_many c = λ records says many.
    let r = err_from_is_err_and c.from_residual.result c.from_residual.ensures.1 in
    rw (r.1, r.2) (inr refl)

pub returns-in_err-add-in-Ok-Some-clause-bad : goal.returns-in_err-add-in-Ok-Some-clause-bad
returns-in_err-add-in-Ok-Some-clause-bad c = λ number is.
    let r = err_from_is_err_and c.from_residual.result c.from_residual.ensures.1 in
    rw (r.1, r.2) (inr refl)
