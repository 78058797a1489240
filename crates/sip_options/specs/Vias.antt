-- The branch of the first Via in a value of Via (RFC 3261 17.1.3, 20.42, 25.1).
use Rattle.std.specs.Prelude.{◌≡◌, ℕ, ◌==◌, Bool, not, ◌||◌, IsTrue, List, [], ◌∷◌, ◌++◌, codes, ⊤}
use Rattle.sip_options.specs.Texts.{Many, IsWhite, IsWord}

-- a piece of a quoted string: an octet other than `"` and `\`, or `\` and any octet
pub data IsQuotedPiece : List ℕ → Type 0 where
  inside : (octet : ℕ) → IsTrue (not (octet == 34 || octet == 92)) → IsQuotedPiece (octet ∷ [])
  escaped : (octet : ℕ) → IsQuotedPiece (92 ∷ octet ∷ [])

-- an octet parts two Vias, or two parameters of one: `,` or `;`
abbrev pub is_mark : ℕ → Bool
is_mark octet = octet == 44 || octet == 59

-- a piece of a part: an octet other than `"`, `,` and `;`, or a quoted string
pub data IsPartPiece : List ℕ → Type 0 where
  outside : (octet : ℕ) → IsTrue (not (octet == 34 || is_mark octet)) → IsPartPiece (octet ∷ [])
  quoted : (inner : List ℕ) → Many IsQuotedPiece inner → IsPartPiece (34 ∷ inner ++ 34 ∷ [])

-- a text is part of a Via: what stands before its parameters, or one of these
abbrev pub IsPart : List ℕ → Type 0
IsPart text = Many IsPartPiece text

-- a part ends here: the text does, or `,` or `;` is next
abbrev pub PartEnds : List ℕ → Type 0
PartEnds [] = ⊤
PartEnds (octet ∷ text) = IsTrue (is_mark octet)

-- a text is a parameter named `branch`, in letters of any case, and what follows its `=`
pub record IsNamedBranch (text value : List ℕ) : Type 0 where
  pub front : List ℕ
  pub name : List ℕ
  pub back : List ℕ
  pub joined : text ≡ front ++ (name ++ (back ++ 61 ∷ value))
  pub is_name : IsWord (codes "branch") name
  pub front_white : IsWhite front
  pub back_white : IsWhite back

-- a text is a branch, in letters of any case, with white space around it
pub record IsBranchValue (branch text : List ℕ) : Type 0 where
  pub front : List ℕ
  pub value : List ℕ
  pub back : List ℕ
  pub joined : text ≡ front ++ (value ++ back)
  pub is_value : IsWord branch value
  pub front_white : IsWhite front
  pub back_white : IsWhite back

-- a text begins with parameters, each with `;` in front, of which the first that is named `branch`
-- has this value
pub data HasBranch (branch : List ℕ) : List ℕ → Type 0 where
  here : (text param rest value : List ℕ) → IsPart param → PartEnds rest
      → IsNamedBranch param value → IsBranchValue branch value → text ≡ 59 ∷ param ++ rest
      → HasBranch branch text
  later : (text param rest : List ℕ) → IsPart param
      → ((value : List ℕ) → IsNamedBranch param value → ⊥) → HasBranch branch rest
      → text ≡ 59 ∷ param ++ rest → HasBranch branch text

-- the first Via of a value has this branch
pub record FirstHasBranch (branch value : List ℕ) : Type 0 where
  pub front : List ℕ
  pub params : List ℕ
  pub joined : value ≡ front ++ params
  pub is_front : IsPart front
  pub has : HasBranch branch params
