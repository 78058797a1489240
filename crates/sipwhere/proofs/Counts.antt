-- Which targets are counted.
use Rattle.std.proofs.Common.{◌≡◌, ◌⊎◌, ℕ, zero, suc, ◌+◌, ◌<◌, List, [], ◌∷◌, Some, refl, ap, subst, ◌∙◌, length, take, get_or, slice_get, arith}
use Rattle.std.proofs.lemmas.List.{map-append, take_more}
use Rattle.std.proofs.lemmas.List.Elements.{Contains-push_cases}
use Rattle.std.specs.List.{Contains}
use Rattle.sipwhere.specs.Accounts.{targets_of}
use Rattle.sip_report.specs.declared.account.FirstCount.{FirstCount}
use Rattle.sip_selection.specs.declared.target.Target.{Target}

-- a place in front of the end has an item
pub item-at : {X : Type 0} (items : List X) (place : ℕ) → place < length items → (it : X) × (slice_get items place ≡ Some it)
item-at [] place inside = absurd (omega (arith, inside))
item-at (item ∷ items) zero inside = (item, refl)
item-at (item ∷ items) (suc place) inside = item-at items place (omega (arith, inside))

-- the item at a place
pub get-of : {X : Type 0} (items : List X) (place : ℕ) (it d : X) → slice_get items place ≡ Some it → get_or items place d ≡ it
get-of [] place it d is = absurd (cc (is))
get-of (item ∷ items) zero it d is = cc (is)
get-of (item ∷ items) (suc place) it d is = get-of items place it d is

-- a target is among those that were counted before a place, or at it
pub contains-more : (firsts : List FirstCount) (place : ℕ) (target : Target) (d : FirstCount) → place < length firsts
    → Contains (targets_of (take (place + 1) firsts)) target
    → Contains (targets_of (take place firsts)) target ⊎ ((get_or firsts place d).target ≡ target)
contains-more firsts place target d inside has =
    let before = take place firsts in
    let here = get_or firsts place d in
    let same = ap targets_of (take_more firsts place d inside)
    ∙ map-append (λ (first : FirstCount). first.target) before (here ∷ []) in
    Contains-push_cases (targets_of before) here.target target (subst (λ l. Contains l target) same has)
