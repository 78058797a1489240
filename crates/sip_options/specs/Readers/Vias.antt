-- What the readers of Vias find.
use Rattle.std.specs.Prelude.{◌≡◌, ℕ, Bool, true, List, [], ◌∷◌, ◌++◌}
use Rattle.sip_options.specs.Vias.{IsPart, PartEnds, is_mark}

-- a part ends in front of a text
abbrev pub ends_part : List ℕ → Bool
ends_part [] = true
ends_part (octet ∷ text) = is_mark octet

-- a part is in front of a text, and then comes its end
pub record BeginsPart (text part rest : List ℕ) : Type 0 where
  pub is : IsPart part
  pub ends : PartEnds rest
  pub joined : text ≡ part ++ rest

-- `;` and a part are in front of a text, and then comes its end
abbrev pub BeginsParam : List ℕ → List ℕ → List ℕ → Type 0
BeginsParam text param rest =
    (behind : List ℕ) × (text ≡ 59 ∷ behind) × BeginsPart behind param rest
