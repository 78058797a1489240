-- Names that are kept.
use Rattle.std.proofs.Common.{◌≡◌, ◌⊎◌, ℕ, List, [], ◌∷◌, ◌++◌, inl, inr, set}
use Rattle.std.specs.List.{All}
use Rattle.std.proofs.lemmas.List.Elements.{All-push, All-same, All-set}

-- what holds of each that was kept, and of one more, holds of each
pub kept-more : {X : Type 0} (P : X → Type 0) (old new : List X) (x : X) → All P old → P x
    → (new ≡ old) ⊎ (new ≡ old ++ x ∷ []) → All P new
kept-more P old new x all it is = elim is [
  | inl same ↦ All-same P new old same all
  | inr more ↦ All-same P new (old ++ x ∷ []) more (All-push P old x all it)
]

-- the same of one that takes the place of another
pub kept-set : {X : Type 0} (P : X → Type 0) (old new : List X) (at : ℕ) (x : X) → All P old → P x
    → new ≡ set old at x → All P new
kept-set P old new at x all it is = All-same P new (set old at x) is (All-set P old at x it all)
