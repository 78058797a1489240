-- Parameters of a Via and their values are what their readers read.
use Rattle.std.proofs.Common.{◌≡◌, ℕ, ◌-◌, ◌<◌, ◌≤◌, true, false, List, [], ◌∷◌, ◌++◌, length, take, Option, Some, None, refl, sym, ap, ◌∙◌, inl, inr, arith, append_assoc}
use Rattle.std.specs.Str.{str_eq_ignore_ascii_case}
use Rattle.std.proofs.lemmas.Bool.Decides.{nat_tests}
use Rattle.std.proofs.lemmas.Option.{same_Some}
use Rattle.std.proofs.lemmas.List.{append-nil, length-append}
use Rattle.sip_uri.specs.Uris.{Param}
use Rattle.sip_uri.specs.ViaClasses.{is_blank, is_token_octet, is_value_octet, row, behind_row}
use Rattle.sip_uri.specs.Readers.Vias.{behind_mark, behind_value}
use Rattle.sip_uri.specs.Readers.ViaRoutes.{Front, value_before, value_in_front, valued, value_behind_name, front_with, named, param_in_front}
use Rattle.sip_uri.specs.Vias.{IsBlanks, IsToken, IsValue, ValueText, ParamsText}
use Rattle.sip_uri.specs.Vias as via
use Rattle.sip_uri.specs.ViaRoutes.{ValueOf, ListText, nothing, another, found_at}
use Rattle.ip_text.proofs.Lists.{steps_of, mapped_from}
use Rattle.sip_uri.proofs.ViaRows.{Ends, length_behind_row, row_again, mark_read, mark_again, begins_apart}
use Rattle.sip_uri.proofs.ViaSteps.{value_read, value_again, value_starts, valued_again, Follows, no_mark_follows, rest_ends}
use Rattle.sip_uri.proofs.ViaLists.{blanks_no_mark}

-- ---- what a text has parameters for

valued_there : (text : List ℕ) → ValueText text → (value : Option (List ℕ)) × ValueOf text value
valued_there text (via.without e) = (None, e)
valued_there text (via.valued front behind value front_blank behind_blank is e) =
    (Some value, (front, behind, front_blank, behind_blank, is, e))

pub list_there : (text : List ℕ) (keys : List (List ℕ)) → ParamsText text keys → (params : List Param) × ListText text params
list_there text keys (via.nothing t blank) = ([], nothing text blank)
list_there text keys (via.param t others front behind name value rest front_blank behind_blank is_name is_value are joined) =
    let k = list_there rest others are in
    let v = valued_there value is_value in (
      record { name = name; value = v.0 } ∷ k.0,
      another text k.0 front behind name value rest v.0 front_blank behind_blank is_name v.1 k.1 joined,
    )

value_text : (text : List ℕ) (value : Option (List ℕ)) → ValueOf text value → ValueText text
value_text text None e = via.without e
value_text text (Some value) is = via.valued is.0 is.1 value is.2 is.3 is.4 is.5

list_follows : (text : List ℕ) (params : List Param) → ListText text params → Follows text
list_follows text params (nothing t blank) =
    record { blanks = text; more = []; are = blank; joined = sym (append-nil text); mark = inl refl }
list_follows text params (another t others front behind name written rest value front_blank behind_blank is_name is_value are e) = record {
  blanks = front;
  more = 59 ∷ (behind ++ (name ++ (written ++ rest)));
  are = front_blank;
  joined = e;
  mark = inr (behind ++ (name ++ (written ++ rest)), refl);
}

-- ---- the value in front

front_taken : (value rest : List ℕ) → take (length value) (value ++ rest) ≡ value
front_taken [] rest = refl
front_taken (x ∷ value) rest = ap (λ (t : List ℕ). x ∷ t) (front_taken value rest)

cut_again : (value rest : List ℕ) → take (length (value ++ rest) - length rest) (value ++ rest) ≡ value
cut_again value rest =
    let k : length (value ++ rest) - length rest ≡ length value = omega (arith, length-append value rest) in
    rw k (front_taken value rest)

value_front : (value rest : List ℕ) → IsValue value → Ends is_value_octet rest → value_in_front (value ++ rest) ≡ Some (value, rest)
unfolding value_in_front
value_front value rest is ends =
    rw (value_again value rest is ends) (ap (λ (v : List ℕ). Some (v, rest)) (cut_again value rest))

pub value_within : (text rest : List ℕ) → behind_value text ≡ Some rest → length rest ≤ length text
value_within text rest e =
    let k = value_read text rest e in
    omega (arith, ap length k.joined, length-append k.value rest)

value_behind : (written rest : List ℕ) (value : Option (List ℕ)) → ValueOf written value → Follows rest
    → value_behind_name (written ++ rest) ≡ Some (value, rest)
unfolding value_behind_name
value_behind written rest None e f = rw e (rw (no_mark_follows 61 refl rest f) refl)
value_behind written rest (Some value) is f =
    let whole : written ++ rest ≡ is.0 ++ 61 ∷ (is.1 ++ (value ++ rest)) =
    ap (λ (t : List ℕ). t ++ rest) is.5 ∙ append_assoc is.0 (61 ∷ (is.1 ++ value)) rest ∙ ap
    (λ (t : List ℕ). is.0 ++ 61 ∷ t) (append_assoc is.1 value rest) in
    let mark = mark_again 61 refl is.0 is.1 (value ++ rest) is.2 is.3 (value_starts value rest is.4) in
    let read = value_front value rest is.4 (rest_ends is_value_octet refl (λ x e. grind (arith, nat_tests, e)) rest f) in
    rw whole (rw mark (rw read refl))

-- ---- the parameter in front

some_front : (name text rest : List ℕ) (value : Option (List ℕ)) → 0 < length name → value_behind_name text ≡ Some (value, rest)
    → named name text ≡ Some (record { name = name; value = value; behind = rest })
some_front [] text rest value some e = absurd (omega arith)
some_front (x ∷ name) text rest value some e = rw e refl

param_again : (text front behind name written rest : List ℕ) (value : Option (List ℕ)) → IsBlanks front → IsBlanks behind → IsToken name
    → ValueOf written value → Follows rest
    → text ≡ front ++ 59 ∷ (behind ++ (name ++ (written ++ rest)))
    → param_in_front text ≡ Some (record { name = name; value = value; behind = rest })
unfolding param_in_front
param_again text front behind name written rest value front_blank behind_blank is_name is_value f e =
    let v = value_behind written rest value is_value f in
    let ends = (valued_again written rest (value_text written value is_value) f).1 in
    let starts = begins_apart is_token_octet is_blank
    (λ x e. grind (arith, nat_tests, e)) name (written ++ rest) is_name.some is_name.octets in
    let mark = mark_again 59 refl front behind (name ++ (written ++ rest)) front_blank behind_blank starts in
    let r = row_again is_token_octet name (written ++ rest) is_name.octets ends in
    rw e (rw mark (rw (r.0, r.1) (some_front name (written ++ rest) rest value is_name.some v)))

blank_again : (text : List ℕ) → IsBlanks text → param_in_front text ≡ None
unfolding param_in_front
blank_again text blank = rw (blanks_no_mark text blank) refl

-- parameters are the one in front and the others, or none
abbrev pub AreFronted : List Param → Option Front → Type 0
AreFronted params None = params ≡ []
AreFronted params (Some found) = (others : List Param) × (params ≡ record { name = found.name; value = found.value } ∷ others)
    × ListText found.behind others

pub fronted : (text : List ℕ) (params : List Param) → ListText text params → AreFronted params (param_in_front text)
fronted text params (nothing t blank) = rw (blank_again text blank) refl
fronted text params (another t others front behind name written rest value front_blank behind_blank is_name is_value are e) =
    rw (param_again text front behind name written rest value front_blank behind_blank is_name is_value (list_follows rest others are) e)
    (others, refl, are)

fronted_at : (text : List ℕ) (params : List Param) (found : Option Front) → param_in_front text ≡ found → ListText text params
    → AreFronted params found
fronted_at text params found e are = rw e at (fronted text params are)

-- ---- what follows a parameter is shorter

named_read : (name text : List ℕ) (found : Front) → named name text ≡ Some found
    → (value : Option (List ℕ)) × (value_behind_name text ≡ Some (value, found.behind))
named_read [] text found e = absurd cc
named_read (x ∷ name) text found e =
    let k = mapped_from (front_with (x ∷ name)) (value_behind_name text) found e in
    (k.0.0, k.1 ∙ ap (λ (f : Front). Some (k.0.0, f.behind)) k.2)

valued_within : (text rest : List ℕ) (value o : Option (List ℕ)) → behind_mark 61 text ≡ o → valued text o ≡ Some (value, rest)
    → length rest ≤ length text
unfolding value_in_front
valued_within text rest value None mark e =
    let same : text ≡ rest = ap (λ (p : Option (List ℕ) × List ℕ). p.1) (same_Some (None, text) (value, rest) e) in
    omega (arith, ap length same)
valued_within text rest value (Some inner) mark e =
    let m = mark_read 61 text inner mark in
    let k = mapped_from (λ (f : List ℕ × List ℕ). (Some f.0, f.1)) (value_in_front inner) (value, rest) e in
    let l = mapped_from (value_before inner) (behind_value inner) k.0 k.1 in
    let same : l.0 ≡ rest =
    ap (λ (p : List ℕ × List ℕ). p.1) l.2 ∙ ap (λ (p : Option (List ℕ) × List ℕ). p.1) k.2 in
    let within = value_within inner l.0 l.1 in
    omega (
      arith,
      within,
      ap length same,
      ap length m.joined,
      length-append m.front (61 ∷ (m.behind ++ inner)),
      length-append m.behind inner,
    )

behind_within : (text rest : List ℕ) (value : Option (List ℕ)) → value_behind_name text ≡ Some (value, rest) → length rest ≤ length text
unfolding value_behind_name
behind_within text rest value e = valued_within text rest value (behind_mark 61 text) refl e

pub front_shorter : (text : List ℕ) (found : Front) → param_in_front text ≡ Some found → length found.behind < length text
unfolding param_in_front
front_shorter text found e =
    let k = steps_of
    (λ (rest : List ℕ). named (row is_token_octet rest) (behind_row is_token_octet rest)) (behind_mark 59 text) found e in
    let m = mark_read 59 text k.0 k.1 in
    let n = named_read (row is_token_octet k.0) (behind_row is_token_octet k.0) found k.2 in
    omega (
      arith,
      behind_within (behind_row is_token_octet k.0) found.behind n.0 n.1,
      length_behind_row is_token_octet k.0,
      ap length m.joined,
      length-append m.front (59 ∷ (m.behind ++ k.0)),
      length-append m.behind k.0,
    )

-- ---- a reader that looks for a parameter, and has come to a place

abbrev pub FoundSoFar : List ℕ → List ℕ → List ℕ → Type 0
FoundSoFar params name rest = (list : List Param) → ListText params list
    → (more : List Param) × ListText rest more × (found_at name list ≡ found_at name more)

pub found_from_start : (params name : List ℕ) → FoundSoFar params name params
found_from_start params name list are = (list, are, refl)

module _ (params name rest : List ℕ) (so_far : FoundSoFar params name rest) (list : List Param) (are : ListText params list) where
  pub none_found : param_in_front rest ≡ None → None ≡ found_at name list
  none_found e =
      let k = so_far list are in
      let none : k.0 ≡ [] = fronted_at rest k.0 None e k.1 in
      sym (k.2 ∙ ap (found_at name) none)

  module _ (found : Front) (e : param_in_front rest ≡ Some found) where
    pub found_here : str_eq_ignore_ascii_case found.name name ≡ true → Some found.value ≡ found_at name list
    found_here same =
        let k = so_far list are in
        let f = fronted_at rest k.0 (Some found) e k.1 in
        let here : found_at name (record { name = found.name; value = found.value } ∷ f.0) ≡ Some found.value = rw same refl in
        sym (k.2 ∙ ap (found_at name) f.1 ∙ here)

    pub found_further : str_eq_ignore_ascii_case found.name name ≡ false
        → (more : List Param) × ListText found.behind more × (found_at name list ≡ found_at name more)
    found_further other =
        let k = so_far list are in
        let f = fronted_at rest k.0 (Some found) e k.1 in
        let on : found_at name (record { name = found.name; value = found.value } ∷ f.0) ≡ found_at name f.0 = rw other refl in
        (f.0, f.2, k.2 ∙ ap (found_at name) f.1 ∙ on)

-- ---- a text is one list of parameters

pub one_list : (text : List ℕ) (params others : List Param) → ListText text params → ListText text others → params ≡ others
one_list text params others (nothing t blank) are' = sym (fronted_at text others None (blank_again text blank) are')
one_list text params others (another t more front behind name written rest value front_blank behind_blank is_name is_value are e) are' =
    let again = param_again text front behind name written rest value front_blank behind_blank is_name is_value
    (list_follows rest more are) e in
    let f = fronted_at text others (Some (record { name = name; value = value; behind = rest })) again are' in
    ap (λ (l : List Param). record { name = name; value = value } ∷ l) (one_list rest more f.0 are f.2) ∙ sym f.1
