-- Parameters of a Via are what their readers read.
use Rattle.std.proofs.Common.{◌≡◌, ℕ, suc, ◌+◌, ◌-◌, ◌<◌, Bool, true, false, ◌||◌, List, [], ◌∷◌, ◌++◌, length, drop, slice_index, Option, Some, None, refl, sym, ap, ◌∙◌, inl, inr, ◌⊎◌, arith, eqb, nat_lt, append_assoc}
use Rattle.std.specs.List.{list_all}
use Rattle.std.specs.Str.{str_eq_ignore_ascii_case}
use Rattle.std.proofs.lemmas.Bool.{cases_Bool}
use Rattle.std.proofs.lemmas.Bool.Decides.{nat_tests}
use Rattle.std.proofs.lemmas.Option.{same_Some}
use Rattle.std.proofs.lemmas.List.{append-nil, length-append}
use Rattle.dns_name.specs.Labels.{small_letters}
use Rattle.sip_uri.specs.ViaClasses.{is_blank, is_token_octet, is_value_octet, row, behind_row}
use Rattle.sip_uri.specs.Readers.Vias.{behind_mark, quoted_from, behind_quoted, some_value, behind_value, valued, behind_valued, named, next_param, names, stands_in}
use Rattle.sip_uri.specs.Vias.{IsBlanks, IsToken, IsQuoted, done, character, pair, IsValue, word, quoted, ValueText, without, ParamsText, nothing, param}
use Rattle.sip_uri.specs.Vias as via
use Rattle.ip_text.proofs.Lists.{steps_of, mapped_from}
use Rattle.sip_uri.proofs.ViaRows.{Ends, row_and, row_all, row_again, mark_read, mark_again, Differs, no_mark, begins_apart}

-- ---- a name among the first parameters

abbrev pub NamedSoFar : List ℕ → List ℕ → ℕ → List ℕ → ℕ → Type 0
NamedSoFar params name count rest at = stands_in (names (count - at) rest) name ≡ stands_in (names count params) name

pub named_further : (params name rest earlier more : List ℕ) (count at : ℕ) → NamedSoFar params name count rest at → at < count
    → next_param rest ≡ Some (earlier, more)
    → str_eq_ignore_ascii_case earlier name ≡ false → NamedSoFar params name count more (at + 1)
named_further params name rest earlier more count at so_far within e other =
    let left : count - at ≡ suc (count - (at + 1)) = omega arith in
    let one : stands_in (names (suc (count - (at + 1))) rest) name ≡ stands_in (names (count - (at + 1)) more) name =
    rw e (rw other refl) in
    sym one ∙ rw left at so_far

-- ---- values

-- what is left of a quoted string, after a `\` or not
abbrev QuotedFrom : Bool → List ℕ → Type 0
QuotedFrom false inner = IsQuoted inner
QuotedFrom true [] = ⊥
QuotedFrom true (x ∷ inner) = (x < 128) × (x ≡ 13 → ⊥) × (x ≡ 10 → ⊥) × IsQuoted inner

record QuotedRead (escaped : Bool) (text rest : List ℕ) : Type 0 where
  inner : List ℕ
  is : QuotedFrom escaped inner
  joined : text ≡ inner ++ 34 ∷ rest

after_escape : (inner : List ℕ) → QuotedFrom true inner → IsQuoted (92 ∷ inner)
after_escape [] is = absurd is
after_escape (x ∷ inner) is = pair x inner is.0 is.1 is.2 is.3

quoted_read : (escaped : Bool) (text rest : List ℕ) → quoted_from escaped text ≡ Some rest → QuotedRead escaped text rest
quoted_read false [] rest e = absurd cc
quoted_read true [] rest e = absurd cc
quoted_read false (x ∷ text) rest e =
    elim (cases_Bool (eqb x 13 || eqb x 10)) [
      | inl line ↦ (let no : None ≡ Some rest = rw line at e in absurd cc)
      | inr other ↦ elim (cases_Bool (eqb x 92)) [
        | inl back ↦ (
            let k = quoted_read true text rest (rw (other, back) at e) in
            let same : x ≡ 92 = grind (arith, nat_tests) in
            record {
              inner = 92 ∷ k.inner;
              is = after_escape k.inner k.is;
              joined =
                  ap (λ (y : ℕ). y ∷ text) same ∙ ap (λ (t : List ℕ). 92 ∷ t) k.joined;
            })
        | inr no_back ↦ elim (cases_Bool (eqb x 34)) [
          | inl quote ↦ (
              let same : x ≡ 34 = grind (arith, nat_tests) in
              let found : text ≡ rest = same_Some text rest (rw (other, no_back, quote) at e) in
              record { inner = []; is = done; joined = ap (λ (y : ℕ). y ∷ text) same ∙ ap (λ (t : List ℕ). 34 ∷ t) found })
          | inr no_quote ↦ (
              let k = quoted_read false text rest (rw (other, no_back, no_quote) at e) in
              record {
                inner = x ∷ k.inner;
                is = character x k.inner (λ s. grind (arith, nat_tests, no_quote, s)) (λ s. grind (arith, nat_tests, no_back, s))
                    (λ s. grind (arith, nat_tests, other, s)) (λ s. grind (arith, nat_tests, other, s)) k.is;
                joined = ap (λ (t : List ℕ). x ∷ t) k.joined;
              })
        ]
      ]
    ]
quoted_read true (x ∷ text) rest e =
    elim (cases_Bool (eqb x 13 || eqb x 10)) [
      | inl line ↦ (let no : None ≡ Some rest = rw line at e in absurd cc)
      | inr other ↦ elim (cases_Bool (nat_lt x 128)) [
        | inl ascii ↦ (
            let k = quoted_read false text rest (rw (other, ascii) at e) in
            record {
              inner = x ∷ k.inner;
              is = (
                grind (arith, nat_tests, ascii),
                (λ s. grind (arith, nat_tests, other, s)),
                (λ s. grind (arith, nat_tests, other, s)),
                k.is,
              );
              joined = ap (λ (t : List ℕ). x ∷ t) k.joined;
            })
        | inr high ↦ (let no : None ≡ Some rest = rw (other, high) at e in absurd cc)
      ]
    ]

quoted_again : (inner rest : List ℕ) → IsQuoted inner → behind_quoted (inner ++ 34 ∷ rest) ≡ Some rest
quoted_again inner rest done = refl
quoted_again inner rest (character x text a b c d is) =
    let line : eqb x 13 || eqb x 10 ≡ false = grind (arith, nat_tests, c, d) in
    let back : eqb x 92 ≡ false = grind (arith, nat_tests, b) in
    let quote : eqb x 34 ≡ false = grind (arith, nat_tests, a) in
    rw (line, back, quote) (quoted_again text rest is)
quoted_again inner rest (pair x text low c d is) =
    let line : eqb x 13 || eqb x 10 ≡ false = grind (arith, nat_tests, c, d) in
    let ascii : nat_lt x 128 ≡ true = grind (arith, nat_tests, low) in
    rw (line, ascii) (quoted_again text rest is)

-- ---- a value, and what follows it

pub record ValueRead (text rest : List ℕ) : Type 0 where
  pub value : List ℕ
  pub is : IsValue value
  pub joined : text ≡ value ++ rest

some_read : (value rest after : List ℕ) → some_value value rest ≡ Some after → (0 < length value) × (rest ≡ after)
some_read [] rest after e = absurd cc
some_read (x ∷ value) rest after e = (omega arith, same_Some rest after e)

first_quote : (text : List ℕ) → eqb (slice_index text 0) 34 ≡ true → text ≡ 34 ∷ drop 1 text
first_quote [] e = absurd (let no : false ≡ true = e in cc)
first_quote (x ∷ text) e = let is : x ≡ 34 = grind (arith, nat_tests) in rw is refl

pub value_read : (text rest : List ℕ) → behind_value text ≡ Some rest → ValueRead text rest
unfolding behind_value
value_read text rest e =
    elim (cases_Bool (eqb (slice_index text 0) 34)) [
      | inl is ↦ (
          let k = quoted_read false (drop 1 text) rest (rw is at e) in
          record {
            value = 34 ∷ k.inner ++ 34 ∷ [];
            is = quoted k.inner k.is refl;
            joined = first_quote text is ∙ ap (λ (t : List ℕ). 34 ∷ t) k.joined ∙ sym (append_assoc (34 ∷ k.inner) (34 ∷ []) rest);
          })
      | inr no' ↦ (
          let k = some_read (row is_value_octet text) (behind_row is_value_octet text) rest (rw no' at e) in
          record {
            value = row is_value_octet text;
            is = word k.0 (row_all is_value_octet text);
            joined = sym (row_and is_value_octet text) ∙ ap (λ (t : List ℕ). row is_value_octet text ++ t) k.1;
          })
    ]

first_no_quote : (value rest : List ℕ) → 0 < length value → list_all is_value_octet value ≡ true
    → eqb (slice_index (value ++ rest) 0) 34 ≡ false
first_no_quote [] rest some all = absurd (omega arith)
first_no_quote (x ∷ value) rest some all =
    elim (cases_Bool (is_value_octet x)) [
      | inl is ↦ grind (arith, nat_tests, is)
      | inr no' ↦ (let no : false ≡ true = rw no' at all in absurd cc)
    ]

some_again : (value rest : List ℕ) → 0 < length value → some_value value rest ≡ Some rest
some_again [] rest some = absurd (omega arith)
some_again (x ∷ value) rest some = refl

pub value_again : (value rest : List ℕ) → IsValue value → Ends is_value_octet rest → behind_value (value ++ rest) ≡ Some rest
unfolding behind_value
value_again value rest (word some all) ends =
    let k = row_again is_value_octet value rest all ends in
    rw (first_no_quote value rest some all) (rw (k.0, k.1) (some_again value rest some))
value_again value rest (quoted inner is e) ends =
    let whole : value ++ rest ≡ 34 ∷ (inner ++ 34 ∷ rest) = ap (λ (t : List ℕ). t ++ rest) e ∙ append_assoc (34 ∷ inner) (34 ∷ []) rest in
    rw whole (quoted_again inner rest is)

pub value_starts : (value rest : List ℕ) → IsValue value → Ends is_blank (value ++ rest)
value_starts value rest (word some all) = begins_apart is_value_octet is_blank (λ x e. grind (arith, nat_tests, e)) value rest some all
value_starts value rest (quoted inner is e) = rw e refl

-- ---- `=` and a value, or neither

record ValuedRead (text rest : List ℕ) : Type 0 where
  value : List ℕ
  is : ValueText value
  joined : text ≡ value ++ rest

valued_read : (text rest : List ℕ) (o : Option (List ℕ)) → behind_mark 61 text ≡ o → valued text o ≡ Some rest → ValuedRead text rest
valued_read text rest None e read = record { value = []; is = without refl; joined = same_Some text rest read }
valued_read text rest (Some inner) e read =
    let mark = mark_read 61 text inner e in
    let k = value_read inner rest read in
    record {
      value = mark.front ++ 61 ∷ (mark.behind ++ k.value);
      is = via.valued mark.front mark.behind k.value mark.front_blank mark.behind_blank k.is refl;
      joined = mark.joined ∙ ap (λ (t : List ℕ). mark.front ++ 61 ∷ (mark.behind ++ t)) k.joined ∙ ap
          (λ (t : List ℕ). mark.front ++ 61 ∷ t) (sym (append_assoc mark.behind k.value rest)) ∙ sym
          (append_assoc mark.front (61 ∷ (mark.behind ++ k.value)) rest);
    }

-- what may follow a parameter: blanks, and then `;` or the end
pub record Follows (rest : List ℕ) : Type 0 where
  pub blanks : List ℕ
  pub more : List ℕ
  pub are : IsBlanks blanks
  pub joined : rest ≡ blanks ++ more
  pub mark : (more ≡ []) ⊎ ((text : List ℕ) × (more ≡ 59 ∷ text))

pub follows : (rest : List ℕ) (keys : List (List ℕ)) → ParamsText rest keys → Follows rest
follows rest keys (nothing text blank) = record { blanks = rest; more = []; are = blank; joined = sym (append-nil rest); mark = inl refl }
follows rest keys (param text further front behind name value after front_blank behind_blank is_name is_value others e) = record {
  blanks = front;
  more = 59 ∷ (behind ++ (name ++ (value ++ after)));
  are = front_blank;
  joined = e;
  mark = inr (behind ++ (name ++ (value ++ after)), refl);
}

module _ (class : ℕ → Bool) (no_mark' : class 59 ≡ false) where
  pub more_ends : (more : List ℕ) → (more ≡ []) ⊎ ((text : List ℕ) × (more ≡ 59 ∷ text)) → Ends class more
  more_ends more (inl e) = rw e tt
  more_ends more (inr e) = rw e.1 no_mark'

  pub blanks_end : ((x : ℕ) → is_blank x ≡ true → class x ≡ false) → (blanks more : List ℕ) → IsBlanks blanks → Ends class more
      → Ends class (blanks ++ more)
  blanks_end apart [] more are ends = ends
  blanks_end apart (x ∷ blanks) more are ends =
      elim (cases_Bool (is_blank x)) [
        | inl is ↦ apart x is
        | inr no' ↦ (let no : false ≡ true = rw no' at are in absurd cc)
      ]

  pub rest_ends : ((x : ℕ) → is_blank x ≡ true → class x ≡ false) → (rest : List ℕ) → Follows rest → Ends class rest
  rest_ends apart rest f = rw f.joined (blanks_end apart f.blanks f.more f.are (more_ends f.more f.mark))

pub more_differs : (mark : ℕ) → eqb 59 mark ≡ false → (more : List ℕ) → (more ≡ []) ⊎ ((text : List ℕ) × (more ≡ 59 ∷ text))
    → Differs mark more
more_differs mark other more (inl e) = rw e tt
more_differs mark other more (inr e) = rw e.1 other

pub no_mark_follows : (mark : ℕ) → eqb 59 mark ≡ false → (rest : List ℕ) → Follows rest → behind_mark mark rest ≡ None
no_mark_follows mark other rest f =
    rw f.joined (no_mark mark f.blanks f.more f.are (more_ends is_blank refl f.more f.mark) (more_differs mark other f.more f.mark))

-- ---- the parameter in front

named_read : (found rest name after : List ℕ) → named found rest ≡ Some (name, after) → (0 < length found) × (found ≡ name)
    × (behind_valued rest ≡ Some after)
named_read [] rest name after e = absurd cc
named_read (x ∷ found) rest name after e =
    let k = mapped_from (λ (t : List ℕ). (x ∷ found, t)) (behind_valued rest) (name, after) e in
    (omega arith, ap (λ (p : List ℕ × List ℕ). p.0) k.2, k.1 ∙ ap (λ (p : List ℕ × List ℕ). Some p.1) k.2)

behind_valued_read : (text rest : List ℕ) → behind_valued text ≡ Some rest → ValuedRead text rest
unfolding behind_valued
behind_valued_read text rest e = valued_read text rest (behind_mark 61 text) refl e

renamed : (text : List ℕ) (keys : List (List ℕ)) (found name : List ℕ) → found ≡ name → ParamsText text (small_letters found ∷ keys)
    → ParamsText text (small_letters name ∷ keys)
renamed text keys found name e are = rw e at are

pub next_read : (text name after : List ℕ) → next_param text ≡ Some (name, after) → (keys : List (List ℕ)) → ParamsText after keys
    → ParamsText text (small_letters name ∷ keys)
unfolding next_param
next_read text name after e keys are =
    let k = steps_of
    (λ (rest : List ℕ). named (row is_token_octet rest) (behind_row is_token_octet rest)) (behind_mark 59 text) (name, after) e in
    let rest : List ℕ = k.0 in
    let mark = mark_read 59 text rest k.1 in
    let n = named_read (row is_token_octet rest) (behind_row is_token_octet rest) name after k.2 in
    let v = behind_valued_read (behind_row is_token_octet rest) after n.2 in
    let is_name : IsToken (row is_token_octet rest) = record { some = n.0; octets = row_all is_token_octet rest } in
    let cut : rest ≡ row is_token_octet rest ++ (v.value ++ after) =
    sym (row_and is_token_octet rest) ∙ ap (λ (t : List ℕ). row is_token_octet rest ++ t) v.joined in
    let whole : text ≡ mark.front ++ 59 ∷ (mark.behind ++ (row is_token_octet rest ++ (v.value ++ after))) =
    mark.joined ∙ ap (λ (t : List ℕ). mark.front ++ 59 ∷ (mark.behind ++ t)) cut in
    renamed text keys (row is_token_octet rest) name n.1
    (param text keys mark.front mark.behind
    (row is_token_octet rest) v.value after mark.front_blank mark.behind_blank is_name v.is are whole)

pub valued_again : (value rest : List ℕ) → ValueText value → Follows rest → (behind_valued (value ++ rest) ≡ Some rest)
    × Ends is_token_octet (value ++ rest)
unfolding behind_valued
valued_again value rest (without e) f =
    rw e (rw (no_mark_follows 61 refl rest f) refl, rest_ends is_token_octet refl (λ x e. grind (arith, nat_tests, e)) rest f)
valued_again value rest (via.valued front behind inner front_blank behind_blank is e) f =
    let whole : value ++ rest ≡ front ++ 61 ∷ (behind ++ (inner ++ rest)) =
    ap (λ (t : List ℕ). t ++ rest) e ∙ append_assoc front (61 ∷ (behind ++ inner)) rest ∙ ap
    (λ (t : List ℕ). front ++ 61 ∷ t) (append_assoc behind inner rest) in
    let mark = mark_again 61 refl front behind (inner ++ rest) front_blank behind_blank (value_starts inner rest is) in
    let read = value_again inner rest is (rest_ends is_value_octet refl (λ x e. grind (arith, nat_tests, e)) rest f) in
    rw whole (
      rw mark read,
      blanks_end is_token_octet refl (λ x e. grind (arith, nat_tests, e)) front (61 ∷ (behind ++ (inner ++ rest))) front_blank refl,
    )

some_name : (name rest after : List ℕ) → 0 < length name → behind_valued rest ≡ Some after → named name rest ≡ Some (name, after)
some_name [] rest after some e = absurd (omega arith)
some_name (x ∷ name) rest after some e = rw e refl

pub next_again : (text front behind name value rest : List ℕ) → IsBlanks front → IsBlanks behind → IsToken name → ValueText value
    → Follows rest
    → text ≡ front ++ 59 ∷ (behind ++ (name ++ (value ++ rest))) → next_param text ≡ Some (name, rest)
unfolding next_param
next_again text front behind name value rest front_blank behind_blank is_name is_value f e =
    let v = valued_again value rest is_value f in
    let starts = begins_apart is_token_octet is_blank
    (λ x e. grind (arith, nat_tests, e)) name (value ++ rest) is_name.some is_name.octets in
    let mark = mark_again 59 refl front behind (name ++ (value ++ rest)) front_blank behind_blank starts in
    let r = row_again is_token_octet name (value ++ rest) is_name.octets v.1 in
    rw e (rw mark (rw (r.0, r.1) (some_name name (value ++ rest) rest is_name.some v.0)))

-- what follows a parameter is shorter
pub shorter_read : (text name after : List ℕ) → next_param text ≡ Some (name, after) → length after < length text
unfolding next_param
shorter_read text name after e =
    let k = steps_of
    (λ (rest : List ℕ). named (row is_token_octet rest) (behind_row is_token_octet rest)) (behind_mark 59 text) (name, after) e in
    let rest : List ℕ = k.0 in
    let mark = mark_read 59 text rest k.1 in
    let n = named_read (row is_token_octet rest) (behind_row is_token_octet rest) name after k.2 in
    let v = behind_valued_read (behind_row is_token_octet rest) after n.2 in
    omega (
      arith,
      ap length mark.joined,
      length-append mark.front (59 ∷ (mark.behind ++ rest)),
      length-append mark.behind rest,
      ap length (row_and is_token_octet rest),
      length-append (row is_token_octet rest)
          (behind_row is_token_octet rest),
      ap length v.joined,
      length-append v.value after,
    )
