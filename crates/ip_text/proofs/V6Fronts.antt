-- The reader of groups in front of a text that has come to a place.
use Rattle.std.proofs.Common.{◌≡◌, ℕ, ◌+◌, ◌/◌, ◌%◌, ◌<◌, ◌≤◌, Bool, true, false, not, List, [], ◌∷◌, ◌++◌, length, Option, Some, None, refl, sym, ap, ◌∙◌, inl, inr, arith, eqb, append_assoc}
use Rattle.std.specs.List.{list_all}
use Rattle.std.specs.Option.{option_map, option_and_then}
use Rattle.std.specs.Char.{is_ascii_digit, is_ascii_hexdigit}
use Rattle.std.proofs.lemmas.Bool.{cases_Bool}
use Rattle.std.proofs.lemmas.Bool.Decides.{nat_tests}
use Rattle.std.proofs.lemmas.Option.{same_Some}
use Rattle.std.proofs.lemmas.List.{append-nil, length-append}
use Rattle.ip_text.specs.Numbers.{hexadecimal}
use Rattle.ip_text.specs.Addresses.{V4Text, numbers, AreGroups, V6Text, whole, shortened}
use Rattle.ip_text.specs.Parts.{row, behind_row, behind_front, before, behind, parted}
use Rattle.ip_text.specs.Readers.{hexadecimal_group, group, group_in_front, last_group, groups, side, filled, sixteen, ipv4, ipv6, behind_colons, around_colons, with_front, IsFront, NoFront}
use Rattle.ip_text.proofs.Colons.{colons_are, front_nothing, front_twice}
use Rattle.ip_text.proofs.Cutting.{lacks, back, joined, alone, at_first}
use Rattle.ip_text.proofs.Groups.{first_group, one_group, longer, appended}
use Rattle.ip_text.proofs.Lists.{mapped_from, all_weaker, all_of-append}
use Rattle.ip_text.proofs.Rows.{Ends, row_all, row_and, row_of}
use Rattle.ip_text.proofs.V4Texts.{ipv4_read, four_octets}
use Rattle.ip_text.proofs.V4Fronts.{behind_mark}
use Rattle.ip_text.proofs.V6Texts.{group_read, last_again, text_read, groups_read, part_of_ipv4, digits_lack, past_part, colon_alone, colons_read, colons_again, text_again, side_again, no_colons, behind_read, ipv6_read}

pub no_some : {A : Type 0} (o : Option A) → ((x : A) → o ≡ Some x → ⊥) → o ≡ None
no_some None no' = refl
no_some (Some x) no' = absurd (no' x refl)

no_mark : (mark : ℕ) (text rest : List ℕ) → None ≡ behind_front mark text → text ≡ mark ∷ rest → ⊥
no_mark mark text rest none is =
    let same : eqb mark mark ≡ true = grind (arith, nat_tests) in
    let some : behind_front mark text ≡ Some rest = ap (behind_front mark) is ∙ rw same refl in
    let no : None ≡ Some rest = none ∙ some in cc

-- ---- a group in front

pub record GroupRead (rest : List ℕ) (number : ℕ) (more : List ℕ) : Type 0 where
  pub text : List ℕ
  pub joined : rest ≡ text ++ more
  pub is : group text ≡ Some (number / 256 ∷ number % 256 ∷ [])
  pub lack : lacks 58 text ≡ true

pub group_front : (rest : List ℕ) (number : ℕ) (more : List ℕ) → Some (number, more) ≡ group_in_front rest → GroupRead rest number more
group_front rest number more e =
    let k = mapped_from (λ (n : ℕ). (n, behind_row is_ascii_hexdigit rest)) (hexadecimal_group (row is_ascii_hexdigit rest))
    (number, more) (sym e) in
    let n : k.0 ≡ number = ap (λ (p : ℕ × List ℕ). p.0) k.2 in
    let m : behind_row is_ascii_hexdigit rest ≡ more = ap (λ (p : ℕ × List ℕ). p.1) k.2 in
    let read : hexadecimal_group (row is_ascii_hexdigit rest) ≡ Some number = k.1 ∙ ap Some n in
    record {
      text = row is_ascii_hexdigit rest;
      joined = sym (row_and is_ascii_hexdigit rest) ∙ ap (λ (l : List ℕ). row is_ascii_hexdigit rest ++ l) m;
      is = rw read refl;
      lack = digits_lack 58 (row is_ascii_hexdigit rest) refl (row_all is_ascii_hexdigit rest);
    }

back_ends : (o : Option (List ℕ)) → Ends is_ascii_hexdigit (back 58 o)
back_ends None = tt
back_ends (Some rest) = refl

-- digits before a colon, or before the end, are those in front
group_first : (rest octets : List ℕ) → group (before 58 rest) ≡ Some octets
    → (number : ℕ) × (group_in_front rest ≡ Some (number, back 58 (behind 58 rest)))
group_first rest octets e =
    let k = mapped_from (λ (number : ℕ). number / 256 ∷ number % 256 ∷ []) (hexadecimal_group (before 58 rest)) octets e in
    let digits = (group_read (before 58 rest) octets e).digits in
    let r = row_of is_ascii_hexdigit (before 58 rest) (back 58 (behind 58 rest)) digits (back_ends (behind 58 rest)) in
    let front : row is_ascii_hexdigit rest ≡ before 58 rest =
    ap (row is_ascii_hexdigit) (sym (joined 58 rest)) ∙ r.0 in
    let end : behind_row is_ascii_hexdigit rest ≡ back 58 (behind 58 rest) =
    ap (behind_row is_ascii_hexdigit) (sym (joined 58 rest)) ∙ r.1 in (
      k.0,
      ap (option_map (λ (number : ℕ). (number, behind_row is_ascii_hexdigit rest))) (ap hexadecimal_group front ∙ k.1)
          ∙ ap (λ (l : List ℕ). Some (k.0, l)) end,
    )

-- the first number of an IPv4 text is read as a group
number_first : (rest octets : List ℕ) → V4Text rest octets
    → (number : ℕ) × (more : List ℕ) × (group_in_front rest ≡ Some (number, 46 ∷ more))
number_first rest octets (numbers first second third fourth a b c d is one two three four octets-is) =
    let digits : list_all is_ascii_hexdigit first ≡ true =
    all_weaker is_ascii_digit is_ascii_hexdigit (λ x k. grind (arith, nat_tests)) first one.digits in
    let r = row_of is_ascii_hexdigit first (46 ∷ (second ++ 46 ∷ (third ++ 46 ∷ fourth))) digits refl in
    let k : hexadecimal_group first ≡ Some (hexadecimal first) = grind (arith, nat_tests, one.some, one.short, digits) in
    (hexadecimal first, second ++ 46 ∷ (third ++ 46 ∷ fourth), rw is (rw (r.0, r.1, k) refl))

-- neither a group nor an IPv4 text
abbrev pub NoFirst : List ℕ → Type 0
NoFirst rest = (group (before 58 rest) ≡ None) × (ipv4 rest ≡ None)

pub none_first : (rest : List ℕ) → None ≡ group_in_front rest → NoFirst rest
none_first rest e = (
  no_some (group (before 58 rest)) (λ octets is.
      let k = group_first rest octets is in let no : None ≡ Some (k.0, back 58 (behind 58 rest)) = e ∙ k.1 in cc),
  no_some (ipv4 rest) (λ octets is.
      let k = number_first rest octets (ipv4_read rest octets is) in let no : None ≡ Some (k.0, 46 ∷ k.1) = e ∙ k.2 in cc),
)

same_more : (n m : ℕ) (more others : List ℕ) → ◌≡◌ {A = Option (ℕ × List ℕ)} (Some (n, more)) (Some (m, others)) → more ≡ others
same_more n m more others e = ap (λ (p : ℕ × List ℕ). p.1) (same_Some (n, more) (m, others) e)

no_back : (x : ℕ) (more : List ℕ) (o : Option (List ℕ)) → x ∷ more ≡ back 58 o → (x ≡ 58 → ⊥) → ⊥
no_back x more None e other = cc
no_back x more (Some rest) e other = other (cc)

pub dot_first : (rest : List ℕ) (number : ℕ) (more : List ℕ) → Some (number, 46 ∷ more) ≡ group_in_front rest
    → group (before 58 rest) ≡ None
dot_first rest number more e = no_some (group (before 58 rest)) (λ octets is.
    let k = group_first rest octets is in
    no_back 46 more (behind 58 rest) (same_more number k.0 (46 ∷ more) (back 58 (behind 58 rest)) (e ∙ k.1)) (λ no. omega (arith, no)))

pub other_first : (rest : List ℕ) (number x : ℕ) (more : List ℕ) → Some (number, x ∷ more) ≡ group_in_front rest
    → (x ≡ 58 → ⊥) → (x ≡ 46 → ⊥) → NoFirst rest
other_first rest number x more e no_colon no_dot = (
  no_some (group (before 58 rest)) (λ octets is.
      let k = group_first rest octets is in
      no_back x more (behind 58 rest) (same_more number k.0 (x ∷ more) (back 58 (behind 58 rest)) (e ∙ k.1)) no_colon),
  no_some (ipv4 rest) (λ octets is.
      let k = number_first rest octets (ipv4_read rest octets is) in
      let same : x ∷ more ≡ 46 ∷ k.1 = same_more number k.0 (x ∷ more) (46 ∷ k.1) (e ∙ k.2) in no_dot (cc)),
)

pub other_octet : (rest : List ℕ) (number : ℕ) (more : List ℕ) → Some (number, more) ≡ group_in_front rest → 0 < length more
    → None ≡ behind_front 58 more → None ≡ behind_front 46 more → NoFirst rest
other_octet rest number [] e some no_colon no_dot = absurd (omega (arith, some))
other_octet rest number (x ∷ more) e some no_colon no_dot =
    other_first rest number x more e (λ is. no_mark 58 (x ∷ more) more no_colon (rw is refl))
    (λ is. no_mark 46 (x ∷ more) more no_dot (rw is refl))

-- ---- the groups of a text, by its first part

last_none : (rest : List ℕ) → NoFirst rest → (o : Option (List ℕ)) → behind 58 rest ≡ o → groups true (parted 58 rest) ≡ None
last_none rest none None e =
    let whole : before 58 rest ≡ rest = sym (append-nil (before 58 rest)) ∙ rw e at (joined 58 rest) in
    one_group true rest e ∙ rw whole (rw (none.1) (rw whole at none.0))
last_none rest none (Some more) e = first_group true rest more e ∙ rw (none.0) refl

left_none : (left : List ℕ) → group (before 58 left) ≡ None → (o : Option (List ℕ)) → behind 58 left ≡ o
    → groups false (parted 58 left) ≡ None
left_none left none None e = one_group false left e ∙ none
left_none left none (Some more) e = first_group false left more e ∙ rw none refl

before_left : (left right : List ℕ) → before 58 (left ++ 58 ∷ right) ≡ before 58 left
before_left [] right = refl
before_left (x ∷ left) right =
    elim (cases_Bool (eqb x 58)) [
      | inl is ↦ rw is refl
      | inr no' ↦ rw no' (ap (λ (l : List ℕ). x ∷ l) (before_left left right))
    ]

two_at_least : (closing : Bool) (texts : List (List ℕ)) (octets : List ℕ) → AreGroups closing texts octets → 2 ≤ length octets
two_at_least closing [] octets are = absurd are
two_at_least closing (text ∷ []) octets (inl is) = omega (arith, ap length is.is)
two_at_least closing (text ∷ []) octets (inr are) = omega (arith, four_octets text octets are.1)
two_at_least closing (text ∷ next ∷ texts) octets are =
    omega (arith, ap length are.2.is, ap length are.4, length-append are.0 are.1)

two_octets : (closing : Bool) (text octets : List ℕ) → groups closing (parted 58 text) ≡ Some octets → 2 ≤ length octets
two_octets closing text octets e = two_at_least closing (parted 58 text) octets (groups_read closing (parted 58 text) octets e)

-- ---- the groups so far

pub record FrontSoFar (text octets rest : List ℕ) : Type 0 where
  pub done : List ℕ
  pub joined : text ≡ done ++ rest
  pub colons : around_colons text ≡ option_map (with_front done) (around_colons rest)
  pub complete : (closing : Bool) (more : List ℕ) → groups closing (parted 58 (done ++ more))
      ≡ option_map (λ (others : List ℕ). octets ++ others) (groups closing (parted 58 more))

no_octets : (o : Option (List ℕ)) → o ≡ option_map (λ (others : List ℕ). [] ++ others) o
no_octets None = refl
no_octets (Some others) = refl

pub nothing_done : (text : List ℕ) → FrontSoFar text [] text
nothing_done text = record {
  done = [];
  joined = refl;
  colons = sym (front_nothing (around_colons text));
  complete = λ closing more. no_octets (groups closing (parted 58 more));
}

colon_passed : (text : List ℕ) → ((more : List ℕ) → text ≡ 58 ∷ more → ⊥)
    → around_colons (58 ∷ text) ≡ option_map (with_front (58 ∷ [])) (around_colons text)
colon_passed [] other = refl
colon_passed (x ∷ text) other =
    elim (cases_Bool (eqb x 58)) [
      | inl is ↦ absurd (other text (let same : x ≡ 58 = grind (arith, nat_tests) in rw same refl))
      | inr no' ↦ colons_are 58 (x ∷ text) ∙ rw (colon_alone x text no') refl
    ]

module _ (text octets rest : List ℕ) (so_far : FrontSoFar text octets rest) where
  ends_with : (four : List ℕ) → groups true (parted 58 rest) ≡ Some four → groups true (parted 58 text) ≡ Some (octets ++ four)
  ends_with four e = ap (λ (l : List ℕ). groups true (parted 58 l)) so_far.joined ∙ so_far.complete true rest ∙ rw e refl

  pub closes_with_ipv4 : (four : List ℕ) → ipv4 rest ≡ Some four → IsFront text (octets ++ four) None
  closes_with_ipv4 four e =
      let k = alone 58 rest (part_of_ipv4 rest four (ipv4_read rest four e)).1 in
      ends_with four (one_group true rest k.1 ∙ rw (k.0) (rw e refl))

  module _ (number : ℕ) (more : List ℕ) (read : Some (number, more) ≡ group_in_front rest) where
    closes : more ≡ [] → IsFront text (octets ++ (number / 256 ∷ number % 256 ∷ [])) None
    closes none =
        let g = group_front rest number more read in
        let whole : rest ≡ g.text =
        g.joined ∙ ap (λ (l : List ℕ). g.text ++ l) none ∙ append-nil g.text in
        let k = alone 58 g.text g.lack in
        let last : last_group true g.text ≡ Some (number / 256 ∷ number % 256 ∷ []) =
        last_again true g.text _ (inl (group_read g.text _ g.is)) in
        ends_with _
        (ap (λ (l : List ℕ). groups true (parted 58 l)) whole ∙ one_group true g.text k.1 ∙ ap (last_group true) k.0 ∙ last)

    before_colons : (right : List ℕ) → more ≡ 58 ∷ 58 ∷ right
        → IsFront text (octets ++ (number / 256 ∷ number % 256 ∷ [])) (Some right)
    before_colons right e =
        let g = group_front rest number more read in
        let k = alone 58 g.text g.lack in
        let one : groups false (parted 58 g.text) ≡ Some (number / 256 ∷ number % 256 ∷ []) =
        one_group false g.text k.1 ∙ ap group k.0 ∙ g.is in (
          so_far.done ++ g.text,
          so_far.joined ∙ ap (λ (t : List ℕ). so_far.done ++ t) (g.joined ∙ ap (λ (l : List ℕ). g.text ++ l) e)
              ∙ sym (append_assoc so_far.done g.text (58 ∷ 58 ∷ right)),
          so_far.complete false g.text ∙ rw one refl,
        )

    goes_on : (others : List ℕ) → more ≡ 58 ∷ others → ((right : List ℕ) → others ≡ 58 ∷ right → ⊥)
        → FrontSoFar text (octets ++ (number / 256 ∷ number % 256 ∷ [])) others
    goes_on others e other =
        let g = group_front rest number more read in
        let rest_is : rest ≡ g.text ++ 58 ∷ others = g.joined ∙ ap (λ (l : List ℕ). g.text ++ l) e in
        let seam : (l : List ℕ) → so_far.done ++ (g.text ++ 58 ∷ l) ≡ (so_far.done ++ (g.text ++ 58 ∷ [])) ++ l =
        λ l. ap (λ (t : List ℕ). so_far.done ++ t) (sym (append_assoc g.text (58 ∷ []) l))
        ∙ sym (append_assoc so_far.done (g.text ++ 58 ∷ []) l) in
        let passed : around_colons rest ≡ option_map (with_front (g.text ++ 58 ∷ [])) (around_colons others) =
        ap around_colons rest_is ∙ past_part g.text (58 ∷ others) g.lack ∙ ap (option_map (with_front g.text)) (colon_passed others other)
        ∙ front_twice g.text (58 ∷ []) (around_colons others) in
        record {
          done = so_far.done ++ (g.text ++ 58 ∷ []);
          joined = so_far.joined ∙ ap (λ (t : List ℕ). so_far.done ++ t) rest_is ∙ seam others;
          colons = so_far.colons ∙ ap (option_map (with_front so_far.done)) passed
              ∙ front_twice so_far.done (g.text ++ 58 ∷ []) (around_colons others);
          complete = λ closing l.
              let k = at_first 58 g.text l g.lack in
              let first : groups closing (parted 58 (g.text ++ 58 ∷ l))
              ≡ option_map (λ (more' : List ℕ). (number / 256 ∷ number % 256 ∷ []) ++ more') (groups closing (parted 58 l)) =
              first_group closing (g.text ++ 58 ∷ l) l k.1 ∙ rw (k.0, g.is) refl in
              ap (λ (t : List ℕ). groups closing (parted 58 t)) (sym (seam l)) ∙ so_far.complete closing (g.text ++ 58 ∷ l)
              ∙ ap (option_map (λ (more' : List ℕ). octets ++ more')) first
              ∙ appended octets (number / 256 ∷ number % 256 ∷ []) (groups closing (parted 58 l));
        }

    shorter : (others : List ℕ) → more ≡ 58 ∷ others → length others < length rest
    shorter others e =
        let g = group_front rest number more read in
        omega (arith, ap length g.joined, length-append g.text more, ap length e)

  -- ---- no groups, or too many

  no_front : ((more : List ℕ) → groups true (parted 58 rest) ≡ Some more → 16 < length octets + length more)
      → ((left right more : List ℕ) → rest ≡ left ++ 58 ∷ 58 ∷ right → groups false (parted 58 left) ≡ Some more
      → 16 < length octets + length more) → NoFront text
  no_front many many_left = record {
    whole = λ all e.
        let k = longer octets (groups true (parted 58 rest)) all
        (sym (ap (λ (l : List ℕ). groups true (parted 58 l)) so_far.joined ∙ so_far.complete true rest) ∙ e) in
        omega (arith, many k.0 k.1, ap length k.2, length-append octets k.0);
    left = λ left right all is e.
        let around' : around_colons text ≡ Some (left, right) =
        ap around_colons is ∙ colons_again left all right (inr (text_read false left all e)) in
        let k = mapped_from (with_front so_far.done) (around_colons rest) (left, right) (sym so_far.colons ∙ around') in
        let left_is : so_far.done ++ k.0.0 ≡ left = ap (λ (s : List ℕ × List ℕ). s.0) k.2 in
        let m = longer octets (groups false (parted 58 k.0.0)) all
        (sym (so_far.complete false k.0.0) ∙ ap (λ (l : List ℕ). groups false (parted 58 l)) left_is ∙ e) in
        omega (arith, many_left k.0.0 k.0.1 m.0 (colons_read rest k.0.0 k.0.1 k.1) m.1, ap length m.2, length-append octets m.0);
  }

  no_first : NoFirst rest → NoFront text
  no_first none =
      no_front (λ more e. absurd (let no : None ≡ Some more = sym (last_none rest none (behind 58 rest) refl) ∙ e in cc))
      (λ left right more is e. absurd (
      let here : group (before 58 left) ≡ None =
      ap group (sym (before_left left (58 ∷ right)) ∙ ap (before 58) (sym is)) ∙ none.0 in
      let no : None ≡ Some more = sym (left_none left here (behind 58 left) refl) ∙ e in cc))

  pub no_room : 16 < length octets + 2 → NoFront text
  no_room full =
      no_front (λ more e. omega (arith, full, two_octets true rest more e)) (λ left right more is e.
      omega (arith, full, two_octets false left more e))

  pub no_room_for_ipv4 : (four : List ℕ) → ipv4 rest ≡ Some four → 16 < length octets + length four → NoFront text
  no_room_for_ipv4 four e full =
      let part = (part_of_ipv4 rest four (ipv4_read rest four e)).1 in
      let k = alone 58 rest part in
      let last : groups true (parted 58 rest) ≡ Some four = one_group true rest k.1 ∙ rw (k.0) (rw e refl) in
      no_front (λ more is. omega (arith, full, ap length (same_Some four more (sym last ∙ is))))
      (λ left right more is e'. absurd (
      let m = all_of-append (λ (x : ℕ). not (eqb x 58)) left (58 ∷ 58 ∷ right) (rw is at part) in
      let no : false ≡ true = m.1 in cc))

nothing : (text : List ℕ) → length text ≡ 0 → text ≡ []
nothing [] e = refl
nothing (x ∷ text) e = absurd (omega (arith, e))

module _ (text octets rest : List ℕ) (so_far : FrontSoFar text octets rest) where
  pub none_in_front : None ≡ group_in_front rest → NoFront text
  none_in_front e = no_first text octets rest so_far (none_first rest e)

  module _ (number : ℕ) (more : List ℕ) (read : Some (number, more) ≡ group_in_front rest) where
    pub no_address_here : (behind : List ℕ) → Some behind ≡ behind_front 46 more → None ≡ ipv4 rest → NoFront text
    no_address_here behind dot none =
        let e : more ≡ 46 ∷ behind = behind_mark 46 more behind (sym dot) in
        no_first text octets rest so_far
        (dot_first rest number behind (ap (λ (l : List ℕ). Some (number, l)) (sym e) ∙ read), sym none)

    pub closes_here : length more ≡ 0 → IsFront text (octets ++ (number / 256 ∷ number % 256 ∷ [])) None
    closes_here e = closes text octets rest so_far number more read (nothing more e)

    pub colons_here : (right : List ℕ) → Some right ≡ behind_colons more
        → IsFront text (octets ++ (number / 256 ∷ number % 256 ∷ [])) (Some right)
    colons_here right e = before_colons text octets rest so_far number more read right (behind_read more right (sym e))

    pub goes_on_here : (others : List ℕ) → Some others ≡ behind_front 58 more → None ≡ behind_colons more
        → FrontSoFar text (octets ++ (number / 256 ∷ number % 256 ∷ [])) others
    goes_on_here others colon no_colons =
        let e : more ≡ 58 ∷ others = behind_mark 58 more others (sym colon) in
        goes_on text octets rest so_far number more read others e (λ right second.
        let two : behind_colons more ≡ Some right = ap behind_colons (e ∙ ap (λ (l : List ℕ). 58 ∷ l) second) in
        let no : None ≡ Some right = no_colons ∙ two in cc)

    pub shorter_here : (others : List ℕ) → Some others ≡ behind_front 58 more → length others < length rest
    shorter_here others colon = shorter text octets rest so_far number more read others (behind_mark 58 more others (sym colon))

    pub other_here : 0 < length more → None ≡ behind_front 58 more → None ≡ behind_front 46 more → NoFront text
    other_here some no_colon no_dot =
        no_first text octets rest so_far (other_octet rest number more read some no_colon no_dot)

-- ---- the whole text

no_text : (text octets : List ℕ) → NoFront text → None ≡ behind_colons text → V6Text text octets → ⊥
no_text text octets none no_colons' (whole is len) = omega (arith, none.whole octets (text_again true text octets is), len)
no_text text octets none no_colons' (shortened left right front end is (inl left_is) two short same) =
    let here : behind_colons text ≡ Some right = ap behind_colons (is ∙ ap (λ (l : List ℕ). l ++ 58 ∷ 58 ∷ right) left_is.0) in
    let no : None ≡ Some right = no_colons' ∙ here in cc
no_text text octets none no_colons' (shortened left right front end is (inr groups') two short same) =
    omega (arith, none.left left right front is (text_again false left front groups'), short)

too_much : (octets : List ℕ) (o : Option (List ℕ)) → ((end : List ℕ) → o ≡ Some end → 16 < length end)
    → option_and_then (λ (end : List ℕ). filled octets end) o ≡ None
too_much octets None large = refl
too_much octets (Some end) large =
    let k : 16 < length end = large end refl in
    grind (arith, nat_tests, k)

pub no_front_no_address : (text : List ℕ) → NoFront text → None ≡ behind_colons text → None ≡ ipv6 text
no_front_no_address text none no_colons =
    sym (no_some (ipv6 text) (λ octets e. no_text text octets none no_colons (ipv6_read text octets e)))

around_of : (text octets left right : List ℕ) → text ≡ left ++ 58 ∷ 58 ∷ right → groups false (parted 58 left) ≡ Some octets
    → ipv6 text ≡ option_and_then (λ (end : List ℕ). filled octets end) (side true right)
around_of text octets left right is e =
    let around' : around_colons text ≡ Some (left, right) =
    ap around_colons is ∙ colons_again left octets right (inr (text_read false left octets e)) in
    let one : side false left ≡ Some octets = side_again false left octets (inr (text_read false left octets e)) in
    rw around' (rw one refl)

pub whole_read : (text octets : List ℕ) → IsFront text octets None → sixteen octets ≡ ipv6 text
whole_read text octets is =
    let none : around_colons text ≡ None = no_colons true text octets (text_read true text octets is) in
    sym (rw none (rw is refl))

pub no_colons_in_side : (text octets right : List ℕ) → IsFront text octets (Some right) → (others : List ℕ)
    → side true text ≡ Some others → 0 < length text → ⊥
no_colons_in_side text octets right is others e some =
    let some' : eqb (length text) 0 ≡ false = grind (arith, nat_tests, some) in
    let whole' : groups true (parted 58 text) ≡ Some others = rw some' at e in
    let none : around_colons text ≡ None = no_colons true text others (text_read true text others whole') in
    let around' : around_colons text ≡ Some (is.0, right) =
    ap around_colons is.1 ∙ colons_again is.0 octets right (inr (text_read false is.0 octets is.2)) in
    let no : None ≡ Some (is.0, right) = sym none ∙ around' in cc

pub filled_read : (text octets right end : List ℕ) → IsFront text octets (Some right) → side true right ≡ Some end
    → filled octets end ≡ ipv6 text
filled_read text octets right end is e = sym (around_of text octets is.0 right is.1 is.2 ∙ rw e refl)

pub not_filled : (text octets right : List ℕ) → IsFront text octets (Some right)
    → ((end : List ℕ) → side true right ≡ Some end → 16 < length end) → None ≡ ipv6 text
not_filled text octets right is large = sym (around_of text octets is.0 right is.1 is.2 ∙ too_much octets (side true right) large)
