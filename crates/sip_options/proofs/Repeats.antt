-- Repetitions of pieces, which end where no further piece stands.
use Rattle.std.proofs.Common.{◌≡◌, ℕ, List, [], ◌++◌, refl, sym, ap, ◌∙◌, append_assoc}
use Rattle.std.proofs.lemmas.List.{append-nil}
use Rattle.sip_options.specs.Texts.{Many, none, more, Ends}

pub many-push : {IsOne : List ℕ → Type 0} (text one : List ℕ) → Many IsOne text → IsOne one → Many IsOne (text ++ one)
many-push text one none is = more one one [] is none (sym (append-nil one))
many-push text one (more t first others is_first many e) is =
    more (text ++ one) first (others ++ one) is_first (many-push others one many is)
    (ap (λ (x : List ℕ). x ++ one) e ∙ append_assoc first others one)

pub many-one : {IsOne : List ℕ → Type 0} (one : List ℕ) → IsOne one → Many IsOne one
many-one one is = more one one [] is none (sym (append-nil one))

-- no two pieces stand in front of one text
abbrev pub Apart : (List ℕ → Type 0) → Type 0
Apart IsOne = (a b x y : List ℕ) → IsOne a → IsOne b → a ++ x ≡ b ++ y → (a ≡ b) × (x ≡ y)

module _ (IsOne : List ℕ → Type 0) (apart : Apart IsOne) where
  pub same_fronts : (a b x y : List ℕ) → Many IsOne a → Ends IsOne x → Many IsOne b → Ends IsOne y → a ++ x ≡ b ++ y
      → (a ≡ b) × (x ≡ y)
  same_fronts a b x y none ends none ends' e = (refl, e)
  same_fronts a b x y none ends (more t one others is many joined) ends' e =
      absurd (ends one (others ++ y) is (e ∙ ap (λ (u : List ℕ). u ++ y) joined ∙ append_assoc one others y))
  same_fronts a b x y (more t one others is many joined) ends none ends' e =
      absurd (ends' one (others ++ x) is (sym e ∙ ap (λ (u : List ℕ). u ++ x) joined ∙ append_assoc one others x))
  same_fronts a b x y (more t one others is many joined) ends (more t' one' others' is' many' joined') ends' e =
      let first : a ++ x ≡ one ++ (others ++ x) = ap (λ (u : List ℕ). u ++ x) joined ∙ append_assoc one others x in
      let second : b ++ y ≡ one' ++ (others' ++ y) = ap (λ (u : List ℕ). u ++ y) joined' ∙ append_assoc one' others' y in
      let k = apart one one' (others ++ x) (others' ++ y) is is' (sym first ∙ e ∙ second) in
      let l = same_fronts others others' x y many ends many' ends' k.1 in
      let whole : one ++ others ≡ one' ++ others' = cc (k.0, l.0) in
      (joined ∙ whole ∙ sym joined', l.1)
