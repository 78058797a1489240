use Rattle.std.proofs.Common.{◌≡◌, ◌==◌, ◌<◌, List, ◌∷◌, ◌++◌, ℕ, None, length, get_or, rules, tests, ap, sym, ◌∙◌}
use Rattle.std.proofs.lemmas.Iterator.Splits.{YieldsList-from_slice_split}
use Rattle.std.proofs.lemmas.Iterator.Consumers.{YieldsList-turn, YieldsList-end}
use Rattle.std.proofs.lemmas.List.{length_push}
use Rattle.dns_name.specs.Labels.{small_letters}
use Rattle.dns_name.specs.Texts.{label_fault, parted}
use Rattle.dns_name.proofs.TextLabels.{IsTextLabel-from_none, faultless_labels, good_label, goes_on, spelled-more, spelled-whole, has_room}
use Rattle.dns_name.proofs.TextNames.{IsName-small}
use Rattle.dns_name.proofs.text.builder_of.Goals as goal
use Rattle.dns_name.proofs.text.builder_of.Goals.{In-Some, In-None}

-- the label of this turn
turn : (c : In-Some) → (length c.loop-label.yielded < length (parted c.args.text.now))
    × (c.in-Some.label.now ≡ get_or (parted c.args.text.now) (length c.loop-label.yielded) c.in-Some.label.now)
turn c =
    let whole = YieldsList-from_slice_split _ (λ (octet : ℕ). octet == 46) c.args.text.now (cc) (cc) (cc)
    (λ x b q k. search (rules, tests)) in
    YieldsList-turn whole c.loop-label.yielded _ c.loop-label.yielded_by _ _ c.in-Some.label c.in-Some.is c.next.ensures.steps

-- every label had its turn
all_turns : (c : In-None) → length c.loop-label.yielded ≡ length (parted c.args.text.now)
all_turns c =
    let whole = YieldsList-from_slice_split _ (λ (octet : ℕ). octet == 46) c.args.text.now (cc) (cc) (cc)
    (λ x b q k. search (rules, tests)) in
    let all = YieldsList-end whole c.loop-label.yielded _ c.loop-label.yielded_by _ _ c.in-None.is c.next.ensures.steps in
    all.1

-- the label of this turn has no fault
good : (c : In-Some) → label_fault c.in-Some.label.now ≡ None
good c =
    let this = turn c in
    good_label (parted c.args.text.now) (length c.loop-label.yielded) c.in-Some.label.now this.0 this.1
    (c.loop-label.invariant.faultless ∙ faultless_labels (parted c.args.text.now) c.requires)

pub push-requires-clause-short : goal.push-requires-clause-short
push-requires-clause-short c =
    (IsTextLabel-from_none c.in-Some.label.now (good (goal.at.push-requires-clause-short c).In-Some)).short

pub push-requires-clause-room : goal.push-requires-clause-room
push-requires-clause-room c =
    let labels : List (List ℕ) = parted c.args.text.now in
    let count : ℕ = length c.loop-label.yielded in
    let this = turn (goal.at.push-requires-clause-room c).In-Some in
    rw c.loop-label.invariant.octets
    (has_room labels count c.in-Some.label.now this.0 this.1 255 (IsName-small labels c.requires).short)

pub loop-label-preserved : goal.loop-label-preserved
loop-label-preserved c =
    let labels : List (List ℕ) = parted c.args.text.now in
    let l = c.loop-label in
    let count : ℕ = length l.yielded in
    let label : List ℕ = c.in-Some.label.now in
    let this = turn (goal.at.loop-label-preserved c).In-Some in
    let next = length_push l.yielded c.in-Some.label in
    record {
      can_next = search rules;
      is_finite = search rules;
      faultless = rw next (goes_on labels count label this.0 this.1 l.invariant.faultless (good (goal.at.loop-label-preserved c).In-Some));
      octets = rw next
          (c.push.ensures ∙ ap (λ (front : List ℕ). front ++ length label ∷ small_letters label) l.invariant.octets
          ∙ sym (spelled-more labels count label this.0 this.1));
    }

pub returns : goal.returns
returns c =
    let all = all_turns (goal.at.returns c).In-None in
    spelled-whole (parted c.args.text.now) (length c.loop-label.yielded) c.loop-label.builder.octets.items all
    c.loop-label.invariant.octets
