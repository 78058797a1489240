-- Octets of a class, one after the other.
use Rattle.std.proofs.Common.{◌≡◌, ℕ, ◌<◌, Bool, true, false, List, [], ◌∷◌, ◌++◌, length, sym, ap, ◌∙◌, arith}
use Rattle.std.proofs.lemmas.List.{append-nil}
use Rattle.sip_options.specs.Texts.{Many, none, more, Ends, IsOctet}
use Rattle.sip_options.proofs.Repeats.{Apart, same_fronts}

pub octets_apart : (class : ℕ → Bool) → Apart (IsOctet class)
octets_apart class a b x y is is' e =
    let first : is.0 ∷ x ≡ is'.0 ∷ y = sym (ap (λ (u : List ℕ). u ++ x) is.2) ∙ e ∙ ap (λ (u : List ℕ). u ++ y) is'.2 in
    let head : is.0 ≡ is'.0 = cc in
    let tail : x ≡ y = cc in
    (is.2 ∙ ap (λ (o : ℕ). o ∷ []) head ∙ sym is'.2, tail)

pub no_octet-nil : (class : ℕ → Bool) → Ends (IsOctet class) []
no_octet-nil class = λ one rest is e. absurd (let no : [] ≡ is.0 ∷ rest = e ∙ ap (λ (u : List ℕ). u ++ rest) is.2 in cc)

pub no_octet : (class : ℕ → Bool) (octet : ℕ) (text : List ℕ) → class octet ≡ false → Ends (IsOctet class) (octet ∷ text)
no_octet class octet text other = λ one rest is e.
    let whole : octet ∷ text ≡ is.0 ∷ rest = e ∙ ap (λ (u : List ℕ). u ++ rest) is.2 in
    let same : octet ≡ is.0 = cc in
    let no : class is.0 ≡ false = ap class (sym same) ∙ other in
    let yes : class is.0 ≡ true = is.1 in
    absurd (let differ : true ≡ false = sym yes ∙ no in cc)

-- where one class ends, so does what another class goes on with
pub ends_behind : (class other : ℕ → Bool) → ((x : ℕ) → other x ≡ true → class x ≡ false) → (front rest : List ℕ)
    → Many (IsOctet other) front → Ends (IsOctet class) rest → Ends (IsOctet class) (front ++ rest)
ends_behind class other apart front rest none ends = ends
ends_behind class other apart front rest (more t one others is many joined) ends =
    let first : front ≡ is.0 ∷ others = joined ∙ ap (λ (u : List ℕ). u ++ others) is.2 in
    let away : class is.0 ≡ false = apart is.0 is.1 in
    rw first (no_octet class is.0 (others ++ rest) away)

-- what stands first, and what follows it, are the same in two cuts of a text
pub same_cut : (class : ℕ → Bool) (text front rest a x : List ℕ) → text ≡ front ++ rest → Many (IsOctet class) front
    → Ends (IsOctet class) rest → text ≡ a ++ x → Many (IsOctet class) a → Ends (IsOctet class) x → (front ≡ a) × (rest ≡ x)
same_cut class text front rest a x e many ends e' many' ends' =
    same_fronts (IsOctet class) (octets_apart class) front a rest x many ends many' ends' (sym e ∙ e')

-- a text of octets of one class alone
pub whole_cut : (class : ℕ → Bool) (text front rest : List ℕ) → text ≡ front ++ rest → Many (IsOctet class) front
    → Ends (IsOctet class) rest → Many (IsOctet class) text → rest ≡ []
whole_cut class text front rest e many ends all =
    (same_cut class text front rest text [] e many ends (sym (append-nil text)) all (no_octet-nil class)).1

-- the octets of a repetition, where some stand there
pub first_of : (class : ℕ → Bool) (front : List ℕ) → Many (IsOctet class) front → 0 < length front
    → (x : ℕ) × (others : List ℕ) × (front ≡ x ∷ others) × (class x ≡ true)
first_of class front none some = absurd (omega arith)
first_of class front (more t one others is many joined) some =
    (is.0, others, joined ∙ ap (λ (u : List ℕ). u ++ others) is.2, is.1)
