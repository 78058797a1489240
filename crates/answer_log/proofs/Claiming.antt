-- A seat that knows its count knows that its next name is new.
use Rattle.std.proofs.Common.{◌≡◌, ℕ, ◌<◌, ◌⊎◌, inl, inr, List, sym, ◌∙◌, subst, arith}
use mathlib.Core.List.{IsPrefix}
use Rattle.answer_log.specs.declared.store.Store.{Store}
use Rattle.answer_log.specs.declared.event.Event.{Event}
use Rattle.answer_log.specs.declared.event.Counted.{Counted}
use Rattle.answer_log.specs.declared.event.Event.TheVariants.{Named}
use Rattle.answer_log.specs.Counts.{count}
use Rattle.answer_log.specs.Logs.{seat_of, In}
use Rattle.answer_log.specs.Rules.{node_at}
use Rattle.answer_log.specs.Steps.{NamesBelow, Rose, Kept, IsTaken, linked_to, node_of}
use Rattle.answer_log.proofs.Logs.{Quiet, in-cases, quiet-in}
use Rattle.answer_log.proofs.Counting.{count-same}

abbrev Was : Event → List Event → Counted → Type 0
Was a w r = Kept (seat_of a) w r × IsTaken (node_of a) w

was-not : (v w : List Event) (n node_count : ℕ) (x : Store) (r : Counted) → NamesBelow x.seat node_count v → n ≡ node_at x.seat node_count
    → x.seat < 64 → count x.seat v ≡ r.before → IsPrefix v w → Was (Named n x 0) w r → ⊥
was-not v w n node_count x r low num some counted pre was =
    let y : Store = was.1.0 in
    let quiet : Quiet x.seat pre.0 = count-same x.seat v pre.0 w pre.1 (sym was.0.0 ∙ sym counted) in
    let below : y.seat < 64 = was.1.3 in
    let its : n ≡ node_at y.seat was.1.4.0 = was.1.4.1 in
    let same : y.seat ≡ x.seat = omega (arith, below, its) in
    let I : List Event → Type 0 = λ l. In (Named n y was.1.1) l in
    elim (in-cases (Named n y was.1.1) v pre.0 (subst I (sym pre.1) was.1.2)) [
      | inl j ↦ (let lt = low n y was.1.1 j same in absurd (omega (arith, lt)))
      | inr j ↦ absurd (quiet-in x.seat pre.0 (Named n y was.1.1) quiet j same)
    ]

pub claim_told : (v w : List Event) (a : Event) (n node_count : ℕ) (x : Store) (k : ℕ) (r : Counted) → a ≡ Named n x 0
    → NamesBelow x.seat node_count v → n ≡ node_at x.seat node_count → x.seat < 64 → count x.seat v ≡ r.before → IsPrefix v w
    → Rose (linked_to a k) v w r ⊎ Was a w r → Rose (Named n x k) v w r
claim_told v w a n node_count x k r is low num some counted pre alt =
    let P : Event → Type 0 = λ e. Rose (linked_to e k) v w r ⊎ Was e w r in
    elim (subst P is alt) [ inl h ↦ h | inr h ↦ absurd (was-not v w n node_count x r low num some counted pre h) ]
