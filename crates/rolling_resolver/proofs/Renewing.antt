-- What a request that comes in leaves.
use Rattle.std.proofs.Common.{◌≡◌, ◌⊎◌, inl, inr, ℕ, Some, None, refl, sym, ap, ◌∙◌, subst}
use Rattle.std.specs.Option.{option_map}
use Rattle.rolling_resolver.specs.Rests.{AllRestOn, KeepsAnswers}
use Rattle.rolling_resolver.specs.Rolling.{Begins, CarriesOn, GenerationView, IsMark, Renews, RollingView, begins, older_seat, other_mark, stays}
use Rattle.rolling_resolver.proofs.Resting.{begun-keeps}

-- the older generation may be let go of, and then one may begin
pub renews-by : (old middle new : RollingView) → middle.current ≡ old.current → (middle.draining ≡ old.draining) ⊎ (middle.draining ≡ None)
    → (new ≡ middle) ⊎ Begins middle new → Renews old new
renews-by old middle new same (inl older) (inl is) =
    subst (Renews old) (sym is)
    (stays (ap (λ (it : GenerationView). it.seat) same) (inl (ap (option_map (λ (it : GenerationView). it.seat)) older)))
renews-by old middle new same (inr older) (inl is) =
    subst (Renews old) (sym is)
    (stays (ap (λ (it : GenerationView). it.seat) same) (inr (ap (option_map (λ (it : GenerationView). it.seat)) older)))
renews-by old middle new same older (inr it) = begins (record {
  carries = subst (λ (was : GenerationView). CarriesOn was.seat new.current.seat) same it.carries;
  older = it.older ∙ ap (λ (was : GenerationView). Some was.seat) same;
})

-- and the answers rest on what they did
pub renewed-keeps : (old middle new : RollingView) → KeepsAnswers old middle → (new ≡ middle) ⊎ Begins middle new → KeepsAnswers old new
renewed-keeps old middle new before (inl is) given it = subst (AllRestOn given) (sym is) (before given it)
renewed-keeps old middle new before (inr begun) given it = begun-keeps middle new begun given (before given it)

-- the younger generation takes the request, and its seat stays
pub renews-still : (old middle new : RollingView) → Renews old middle → new.current.seat ≡ middle.current.seat
    → older_seat new ≡ older_seat middle → Renews old new
renews-still old middle new (stays seat (inl older)) same before = stays (same ∙ seat) (inl (before ∙ older))
renews-still old middle new (stays seat (inr older)) same before = stays (same ∙ seat) (inr (before ∙ older))
renews-still old middle new (begins it) same before = begins (record {
  carries = subst (CarriesOn old.current.seat) (sym same) it.carries;
  older = before ∙ it.older;
})

-- the other mark of the other one is the mark
pub mark-back : (mark : ℕ) → IsMark mark → mark ≡ other_mark (other_mark mark)
mark-back mark (inl is) = rw is refl
mark-back mark (inr is) = rw is refl
