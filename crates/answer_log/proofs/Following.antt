-- A step along the link of a placed node.
use Rattle.std.proofs.Common.{◌≡◌, ℕ, ◌++◌, ◌∷◌, List, sym, subst}
use mathlib.Core.List.{IsPrefix}
use Rattle.logbook.specs.Pages.{Cell}
use Rattle.answer_log.specs.Logs.{In}
use Rattle.answer_log.specs.Rules.{IsKept}
use Rattle.answer_log.specs.declared.event.Event.{Event}
use Rattle.answer_log.specs.declared.event.Event.TheVariants.{Named, Placed}
use Rattle.answer_log.specs.declared.store.Store.{Store}
use Rattle.answer_log.proofs.Logs.{in-here, in-left}
use Rattle.answer_log.proofs.Moving.{longer}

-- what a node was named is what was placed
pub as_named : (cells : List Cell) (log old its before after : List Event) (node : ℕ) (store placed : Store) (link key : ℕ)
    → IsKept cells log
    → IsPrefix old log → IsPrefix its log → old ≡ before ++ Placed node placed key ∷ after → In (Named node store link) its
    → (placed ≡ store) × (key ≡ link)
as_named cells log old its before after node store placed link key kept pre pre' split named =
    let P : List Event → Type 0 = λ events. In (Placed node placed key) events in
    let N : List Event → Type 0 = λ events. In (Named node store link) events in
    let there : In (Placed node placed key) log = subst P pre.1
    (in-left (Placed node placed key) old pre.0 (subst P (sym split) (in-here (Placed node placed key) before after))) in
    kept.unique node placed store key link (kept.twins node placed key there)
    (subst N pre'.1 (in-left (Named node store link) its pre'.0 named))

-- where a node was placed in a longer log, with its link
pub placed_on : (old log before after : List Event) (node : ℕ) (placed : Store) (link key : ℕ) → (pre : IsPrefix old log)
    → old ≡ before ++ Placed node placed key ∷ after → key ≡ link → log ≡ before ++ Placed node placed link ∷ (after ++ pre.0)
placed_on old log before after node placed link key pre split same =
    let L : ℕ → Type 0 = λ k. log ≡ before ++ Placed node placed k ∷ (after ++ pre.0) in
    subst L same (longer old pre.0 log before after (Placed node placed key) pre.1 split)
