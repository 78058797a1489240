-- A writer of groups of octets that has come to a place.
use Rattle.std.proofs.Common.{◌≡◌, ℕ, ◌+◌, ◌-◌, ◌*◌, ◌<◌, ◌≤◌, true, false, List, [], ◌∷◌, ◌++◌, length, take, drop, get_or, refl, sym, ap, ◌∙◌, arith, eqb, append_assoc}
use Rattle.std.proofs.lemmas.List.{take_all}
use Rattle.ip_text.specs.Shown.{hexadecimal_text, groups_text}

pub colon_is_ascii : 58 < 128
colon_is_ascii = omega arith

more_groups : (rest : List ℕ) → 2 ≤ length rest → false ≡ eqb (length (take (length rest - 2) (drop 2 rest))) 0
    → groups_text rest
    ≡ hexadecimal_text (get_or rest 0 0 * 256 + get_or rest 1 0) ++ 58 ∷ groups_text (take (length rest - 2) (drop 2 rest))
more_groups [] two some = absurd (omega arith)
more_groups (high ∷ []) two some = absurd (omega arith)
more_groups (high ∷ low ∷ []) two some = absurd (let no : false ≡ true = some in cc)
more_groups (high ∷ low ∷ next ∷ octets) two some =
    let left : take (length (high ∷ low ∷ next ∷ octets) - 2) (next ∷ octets) ≡ next ∷ octets = take_all _ (next ∷ octets) (omega arith) in
    rw left refl

-- a group is written behind a text, and then a colon
pub group_written : (rest : List ℕ) → 2 ≤ length rest → false ≡ eqb (length (take (length rest - 2) (drop 2 rest))) 0
    → (text written longer whole : List ℕ) (high low : ℕ) → high ≡ get_or rest 0 0 → low ≡ get_or rest 1 0
    → written ≡ text ++ hexadecimal_text (high * 256 + low) → longer ≡ written ++ 58 ∷ [] → text ++ groups_text rest ≡ whole
    → longer ++ groups_text (take (length rest - 2) (drop 2 rest)) ≡ whole
group_written rest two some text written longer whole high low is-high is-low e e' so_far =
    let left : List ℕ = groups_text (take (length rest - 2) (drop 2 rest)) in
    let group : List ℕ = hexadecimal_text (high * 256 + low) in
    let here : groups_text rest ≡ group ++ 58 ∷ left = rw (is-high, is-low) (more_groups rest two some) in
    ap (λ (t : List ℕ). t ++ left) e' ∙ append_assoc written (58 ∷ []) left ∙ ap
    (λ (t : List ℕ). t ++ 58 ∷ left) e ∙ append_assoc text group (58 ∷ left)
    ∙ ap (λ (t : List ℕ). text ++ t) (sym here) ∙ so_far
