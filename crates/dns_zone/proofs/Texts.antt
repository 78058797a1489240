-- Texts by their places.
use Rattle.std.proofs.Common.{◌≡◌, ℕ, zero, suc, ◌-◌, ◌≤◌, List, [], ◌∷◌, length, take, drop, get_or, Option, Some, None, refl, sym, ap, subst, ◌∙◌, arith}
use Rattle.std.proofs.lemmas.List.{take_all}
use Rattle.std.specs.Borrow.{Bor}
use Rattle.dns_zone.specs.Lines.{OneField}
use Rattle.dns_zone.specs.Views.{texts}

-- what a place past the last one has
abbrev pub nothing : Bor (List ℕ)
nothing = record { ref_ptr = (0, 0); now = [] }

-- the octets of the text at a place
pub text_at : (fields : List (Bor (List ℕ))) (place : ℕ) → (get_or fields place nothing).now ≡ get_or (texts fields) place []
text_at [] place = refl
text_at (field ∷ fields) zero = refl
text_at (field ∷ fields) (suc place) = text_at fields place

-- of one alone
pub one_text : (fields : List (Bor (List ℕ))) → length fields ≡ 1 → texts fields ≡ (get_or fields 0 nothing).now ∷ []
one_text [] one = absurd (omega arith)
one_text (field ∷ []) one = refl
one_text (field ∷ other ∷ others) one = absurd (omega arith)

-- what is so of the one text is so of the first
pub one_is : (Is : List ℕ → Type 0) (fields : List (Bor (List ℕ))) → OneField Is (texts fields) → Is (get_or fields 0 nothing).now
one_is Is fields is = subst Is (sym (text_at fields 0 ∙ ap (λ (l : List (List ℕ)). get_or l 0 []) is.1)) is.2

-- of three and others
pub three_texts : (fields : List (Bor (List ℕ))) → 3 ≤ length fields
    → texts fields
    ≡ (get_or fields 0 nothing).now ∷ (get_or fields 1 nothing).now ∷ (get_or fields 2 nothing).now ∷
    texts (take (length fields - 3) (drop 3 fields))
three_texts [] three = absurd (omega arith)
three_texts (a ∷ []) three = absurd (omega arith)
three_texts (a ∷ b ∷ []) three = absurd (omega arith)
three_texts (a ∷ b ∷ c ∷ others) three =
    let count : ℕ = length (a ∷ b ∷ c ∷ others) - 3 in
    let whole : take count others ≡ others = take_all count others (omega arith) in
    ap (λ (l : List (Bor (List ℕ))). a.now ∷ b.now ∷ c.now ∷ texts l) (sym whole)

-- of four
pub four_texts : (fields : List (Bor (List ℕ))) → length fields ≡ 4
    → texts fields
    ≡ (get_or fields 0 nothing).now ∷ (get_or fields 1 nothing).now ∷ (get_or fields 2 nothing).now ∷ (get_or fields 3 nothing).now ∷ []
four_texts [] four = absurd (omega arith)
four_texts (a ∷ []) four = absurd (omega arith)
four_texts (a ∷ b ∷ []) four = absurd (omega arith)
four_texts (a ∷ b ∷ c ∷ []) four = absurd (omega arith)
four_texts (a ∷ b ∷ c ∷ d ∷ []) four = refl
four_texts (a ∷ b ∷ c ∷ d ∷ e ∷ others) four = absurd (omega arith)

-- of six
pub six_texts : (fields : List (Bor (List ℕ))) → length fields ≡ 6
    → texts fields
    ≡ (get_or fields 0 nothing).now ∷ (get_or fields 1 nothing).now ∷ (get_or fields 2 nothing).now ∷ (get_or fields 3 nothing).now ∷
    (get_or fields 4 nothing).now ∷ (get_or fields 5 nothing).now ∷ []
six_texts [] six = absurd (omega arith)
six_texts (a ∷ []) six = absurd (omega arith)
six_texts (a ∷ b ∷ []) six = absurd (omega arith)
six_texts (a ∷ b ∷ c ∷ []) six = absurd (omega arith)
six_texts (a ∷ b ∷ c ∷ d ∷ []) six = absurd (omega arith)
six_texts (a ∷ b ∷ c ∷ d ∷ e ∷ []) six = absurd (omega arith)
six_texts (a ∷ b ∷ c ∷ d ∷ e ∷ f ∷ []) six = refl
six_texts (a ∷ b ∷ c ∷ d ∷ e ∷ f ∷ g ∷ others) six = absurd (omega arith)

-- of seven
pub seven_texts : (fields : List (Bor (List ℕ))) → length fields ≡ 7
    → texts fields
    ≡ (get_or fields 0 nothing).now ∷ (get_or fields 1 nothing).now ∷ (get_or fields 2 nothing).now ∷ (get_or fields 3 nothing).now ∷
    (get_or fields 4 nothing).now ∷ (get_or fields 5 nothing).now ∷ (get_or fields 6 nothing).now ∷ []
seven_texts [] seven = absurd (omega arith)
seven_texts (a ∷ []) seven = absurd (omega arith)
seven_texts (a ∷ b ∷ []) seven = absurd (omega arith)
seven_texts (a ∷ b ∷ c ∷ []) seven = absurd (omega arith)
seven_texts (a ∷ b ∷ c ∷ d ∷ []) seven = absurd (omega arith)
seven_texts (a ∷ b ∷ c ∷ d ∷ e ∷ []) seven = absurd (omega arith)
seven_texts (a ∷ b ∷ c ∷ d ∷ e ∷ f ∷ []) seven = absurd (omega arith)
seven_texts (a ∷ b ∷ c ∷ d ∷ e ∷ f ∷ g ∷ []) seven = refl
seven_texts (a ∷ b ∷ c ∷ d ∷ e ∷ f ∷ g ∷ h ∷ others) seven = absurd (omega arith)

-- what is read of one text is one value
pub same_some : {X : Type 0} {x y : X} → Some x ≡ Some y → x ≡ y
same_some e = cc

-- a text of which no number is read is none
pub no_number : (number : ℕ) → ◌≡◌ {A = Option ℕ} None (Some number) → ⊥
no_number number e = absurd cc
