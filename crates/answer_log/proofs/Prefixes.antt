-- Of two fronts of one list, one is a front of the other.
use Rattle.std.proofs.Common.{◌≡◌, ◌⊎◌, inl, inr, List, [], ◌∷◌, ◌++◌, refl, ap, sym, ◌∙◌}
use mathlib.Core.List.{IsPrefix}

split-front : {X : Type 0} (xs more ys others : List X) → xs ++ more ≡ ys ++ others → IsPrefix xs ys ⊎ IsPrefix ys xs
split-front [] more ys others same = inl (ys, refl)
split-front (x ∷ xs) more [] others same = inr (x ∷ xs, refl)
split-front (x ∷ xs) more (y ∷ ys) others same =
    elim (split-front xs more ys others (cc (same))) [
      | inl p ↦ inl (p.0, ap (λ l. x ∷ l) p.1 ∙ ap (λ z. z ∷ ys) (cc (same)))
      | inr p ↦ inr (p.0, ap (λ l. y ∷ l) p.1 ∙ ap (λ z. z ∷ xs) (cc (same)))
    ]

pub one-front : {X : Type 0} (xs ys zs : List X) → IsPrefix xs zs → IsPrefix ys zs → IsPrefix xs ys ⊎ IsPrefix ys xs
one-front xs ys zs p q = split-front xs p.0 ys q.0 (p.1 ∙ sym q.1)
