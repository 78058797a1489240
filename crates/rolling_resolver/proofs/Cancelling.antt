-- What is found in one generation or the other, and taken out of it.
use Rattle.std.proofs.Common.{◌≡◌, inl, inr, ℕ, Option, Some, None, IfSome, refl, ap, ◌∙◌, subst}
use Rattle.std.specs.Prelude.{Bool, true, false, IsSomeAnd, IsTrue, ◌↔◌, ◌⊎◌}
use Rattle.std.specs.Bool.{OnFalse}
use Rattle.std.specs.List.{Contains}
use Rattle.sip_resolver.specs.Requests.{numbers_of}
use Rattle.rolling_resolver.specs.Rolling.{GenerationView, HasRequest, RollingView}

-- it is in the older one
pub found-older : {Younger Older : Type 0} (older : Bool) → (IsTrue older ↔ Older) → older ≡ true
    → IsTrue true ↔ (Younger ⊎ Older)
found-older older found is = (λ _. inr (found.0 is), λ _. refl)

-- it is not in the older one
pub found-younger : {Younger Older : Type 0} (younger older : Bool) → (IsTrue younger ↔ Younger) → (IsTrue older ↔ Older)
    → older ≡ false → IsTrue younger ↔ (Younger ⊎ Older)
found-younger {Younger} {Older} younger older found its is = (λ yes. inl (found.0 yes), back)
  where
    back : Younger ⊎ Older → IsTrue younger
    back (inl it) = found.1 it
    back (inr it) = let yes = its.1 it in cc

none-older : (number : ℕ) (draining : Option GenerationView)
    → IfSome draining (λ older. Contains (numbers_of older.core.requests) number → ⊥)
    → IsSomeAnd draining (λ older. Contains (numbers_of older.core.requests) number) → ⊥
none-older number (Some older) gone it = gone it
none-older number None gone it = it

-- it is in neither any more
pub none-inside : (number : ℕ) (after : GenerationView) (new : RollingView) → new.current ≡ after
    → (Contains (numbers_of after.core.requests) number → ⊥)
    → IfSome new.draining (λ older. Contains (numbers_of older.core.requests) number → ⊥) → HasRequest number new → ⊥
none-inside number after new is gone older-gone (inl it) =
    gone (subst (λ (g : GenerationView). Contains (numbers_of g.core.requests) number) is it)
none-inside number after new is gone older-gone (inr it) = none-older number new.draining older-gone it

-- where neither had it all is as it was
pub unchanged-after : (younger older : Bool) (old : RollingView) (after : GenerationView) (new : RollingView) → older ≡ false
    → OnFalse younger (after ≡ old.current) → OnFalse older (new ≡ record old { current = after }) → OnFalse younger (new ≡ old)
unchanged-after true older old after new is younger-same older-same = tt
unchanged-after false true old after new is younger-same older-same = absurd cc
unchanged-after false false old after new is younger-same older-same =
    older-same ∙ ap (λ (g : GenerationView). record old { current = g }) younger-same

pub unchanged-then : (younger older : Bool) (old : RollingView) (after : GenerationView) (new : RollingView) → younger ≡ false
    → OnFalse younger (after ≡ old.current) → OnFalse older (new ≡ record old { current = after }) → OnFalse older (new ≡ old)
unchanged-then younger true old after new is younger-same older-same = tt
unchanged-then true false old after new is younger-same older-same = absurd cc
unchanged-then false false old after new is younger-same older-same =
    older-same ∙ ap (λ (g : GenerationView). record old { current = g }) younger-same
