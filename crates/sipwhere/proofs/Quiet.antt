-- Seats that go on without a store, and what comes first in a list.
use Rattle.std.proofs.Common.{◌≡◌, ◌++◌, ◌∷◌, [], List, refl, sym, ap, ◌∙◌, append_assoc}
use Rattle.std.proofs.lemmas.List.{append-nil}
use Rattle.std.specs.Prelude.{OnOk, Result, Ok, Err, Some, slice_get}
use mathlib.Core.List.{IsPrefix}
use Rattle.resolution_paths.specs.Sources.{Went, here, onward}
use Rattle.answer_cache.specs.Seats.{GoesOn, SeatView, StoresNothing}
use Rattle.sip_selection.specs.declared.target.Target.{Target}

pub prefix-through : {X : Type 0} (first middle last : List X) → IsPrefix first middle → IsPrefix middle last → IsPrefix first last
prefix-through first middle last front back =
    (front.0 ++ back.0, sym (append_assoc first front.0 back.0) ∙ ap (λ l. l ++ back.0) front.1 ∙ back.1)

pub goes-not : (seat : SeatView) → GoesOn seat seat
goes-not seat = record { number = refl; seen = ([], append-nil seat.seen); groups = refl }

pub goes-through : (old middle new : SeatView) → GoesOn old middle → GoesOn middle new → GoesOn old new
goes-through old middle new front back = record {
  number = back.number ∙ front.number;
  seen = prefix-through old.seen middle.seen new.seen front.seen back.seen;
  groups = back.groups ∙ front.groups;
}

pub nothing-not : (seat : SeatView) → StoresNothing seat seat
nothing-not seat = record { own = refl; offered = refl }

pub nothing-through : (old middle new : SeatView) → StoresNothing old middle → StoresNothing middle new → StoresNothing old new
nothing-through old middle new front back = record { own = back.own ∙ front.own; offered = back.offered ∙ front.offered }

-- a seat that went by calls that store nothing
pub went-quietly : {Seat : Type 0} (shown : Seat → SeatView) (start : Seat) (seat : Seat)
    → Went (λ before after. GoesOn (shown before) (shown after) × StoresNothing (shown before) (shown after)) start seat
    → GoesOn (shown start) (shown seat) × StoresNothing (shown start) (shown seat)
went-quietly shown start seat here = (goes-not (shown start), nothing-not (shown start))
went-quietly shown start seat (onward {seat = middle} next went goes) =
    let before = went-quietly shown start middle went in (
      goes-through (shown start) (shown middle) (shown seat) before.0 goes.0,
      nothing-through (shown start) (shown middle) (shown seat) before.1 goes.1,
    )

-- what a result that is good has follows from what it has
pub ok-map : {T E A B : Type 0} (result : Result T E) → (A → B) → OnOk result A → OnOk result B
ok-map (Ok it) f a = f a
ok-map (Err refusal) f a = tt

-- a list whose first item is there begins with it
pub begins-with : (items : List Target) (target : Target) → slice_get items 0 ≡ Some target
    → (others : List Target) × (items ≡ target ∷ others)
begins-with [] target is = absurd (cc (is))
begins-with (item ∷ items) target is = (items, ap (λ one. one ∷ items) (cc (is)))
