-- A reader of groups that has come to a place.
use Rattle.std.proofs.Common.{◌≡◌, ℕ, ◌+◌, ◌<◌, ◌≤◌, Bool, List, [], ◌∷◌, ◌++◌, length, drop, replicate, ◌-◌, Option, Some, None, refl, sym, ap, ◌∙◌, arith, append_assoc}
use Rattle.std.specs.Option.{option_map, option_and_then}
use Rattle.std.proofs.lemmas.Bool.Decides.{nat_tests}
use Rattle.std.proofs.lemmas.List.{length-append, drop-replicate, length-replicate}
use Rattle.ip_text.specs.Parts.{before, behind, parted}
use Rattle.ip_text.specs.Readers.{group, last_group, groups, filled}
use Rattle.ip_text.proofs.Cutting.{others, parts_are}

-- the groups here complete those of the text
abbrev pub Complete : Bool → List ℕ → List ℕ → List ℕ → Type 0
Complete closing text octets rest =
    groups closing (parted 58 text) ≡ option_map (λ (more : List ℕ). octets ++ more) (groups closing (parted 58 rest))

pub first_group : (closing : Bool) (rest more : List ℕ) → behind 58 rest ≡ Some more
    → groups closing (parted 58 rest)
    ≡ option_and_then
    (λ (octets : List ℕ). option_map (λ (more : List ℕ). octets ++ more) (groups closing (parted 58 more))) (group (before 58 rest))
first_group closing rest more e =
    let parts : parted 58 rest ≡ before 58 rest ∷ before 58 more ∷ others 58 (behind 58 more) =
    parts_are 58 rest ∙ rw e (ap (λ (l : List (List ℕ)). before 58 rest ∷ l) (parts_are 58 more)) in
    rw (parts, parts_are 58 more) refl

pub one_group : (closing : Bool) (rest : List ℕ) → behind 58 rest ≡ None → groups closing (parted 58 rest)
    ≡ last_group closing (before 58 rest)
one_group closing rest e =
    let parts : parted 58 rest ≡ before 58 rest ∷ [] = parts_are 58 rest ∙ rw e refl in
    rw parts refl

pub longer : (octets : List ℕ) (r : Option (List ℕ)) (all : List ℕ) → option_map (λ (more : List ℕ). octets ++ more) r ≡ Some all
    → (more : List ℕ) × (r ≡ Some more) × (octets ++ more ≡ all)
longer octets None all e = absurd cc
longer octets (Some more) all e = (more, refl, cc)

pub appended : (a b : List ℕ) (r : Option (List ℕ))
    → option_map (λ (more : List ℕ). a ++ more) (option_map (λ (more : List ℕ). b ++ more) r)
    ≡ option_map (λ (more : List ℕ). (a ++ b) ++ more) r
appended a b None = refl
appended a b (Some more) = ap Some (sym (append_assoc a b more))

module _ (closing : Bool) (text octets rest : List ℕ) (so_far : Complete closing text octets rest) where
  module _ (more : List ℕ) (e : behind 58 rest ≡ Some more) where
    pub no_group : group (before 58 rest) ≡ None → groups closing (parted 58 text) ≡ None
    no_group none = rw (so_far, first_group closing rest more e, none) refl

    whole : (g : List ℕ) → group (before 58 rest) ≡ Some g
        → groups closing (parted 58 text) ≡ option_map (λ (more : List ℕ). (octets ++ g) ++ more) (groups closing (parted 58 more))
    whole g is = rw (so_far, first_group closing rest more e, is) (appended octets g (groups closing (parted 58 more)))

    pub no_room : (g : List ℕ) → group (before 58 rest) ≡ Some g → 16 < length octets + length g → (all : List ℕ)
        → groups closing (parted 58 text) ≡ Some all → 16 < length all
    no_room g is full all read =
        let k = longer (octets ++ g) (groups closing (parted 58 more)) all (sym (whole g is) ∙ read) in
        omega (arith, ap length k.2, length-append (octets ++ g) k.0, length-append octets g)

    pub goes_on : (g octets' : List ℕ) → group (before 58 rest) ≡ Some g → octets' ≡ octets ++ g → Complete closing text octets' more
    goes_on g octets' is pushed = rw pushed (whole g is)

  pub ends : behind 58 rest ≡ None
      → groups closing (parted 58 text) ≡ option_map (λ (more : List ℕ). octets ++ more) (last_group closing (before 58 rest))
  ends e = rw (so_far, one_group closing rest e) refl

  pub no_room_at_end : behind 58 rest ≡ None
      → ((more : List ℕ) → last_group closing (before 58 rest) ≡ Some more → 16 < length octets + length more)
      → (all : List ℕ) → groups closing (parted 58 text) ≡ Some all → 16 < length all
  no_room_at_end e full all read =
      let k = longer octets (last_group closing (before 58 rest)) all (sym (ends e) ∙ read) in
      omega (arith, ap length k.2, length-append octets k.0, full k.0 k.1)

-- ---- zeros between two sides

pub with_zeros : (front end first all : List ℕ) → length front + length end ≤ 14
    → first ≡ front ++ drop (length front + length end) (replicate 16 0)
    → all ≡ first ++ end → (length all ≡ 16) × (Some all ≡ filled front end)
with_zeros front end first all short f a =
    let zeros : drop (length front + length end) (replicate 16 0) ≡ replicate (16 - (length front + length end)) 0 =
    drop-replicate {X = ℕ} (length front + length end) 16 0 in
    let gap : List ℕ = replicate (16 - (length front + length end)) 0 in
    let is : all ≡ front ++ gap ++ end = rw (a, f, zeros) refl in
    let len : length all ≡ 16 =
    omega (
      arith,
      ap length is,
      length-append (front ++ gap) end,
      length-append front gap,
      length-replicate {A = ℕ} (16 - (length front + length end)) 0,
    ) in
    (len, rw is (grind (arith, nat_tests)))
