-- All parameters of a Via are what their reader reads.
use Rattle.std.proofs.Common.{◌≡◌, ℕ, zero, suc, ◌+◌, ◌-◌, ◌<◌, ◌≤◌, true, false, List, [], ◌∷◌, ◌++◌, length, map, get_or, Some, None, refl, sym, ap, ◌∙◌, inl, inr, arith, append_assoc, add_assoc}
use Rattle.std.specs.List.{AllPairs}
use Rattle.std.specs.Str.{str_eq_ignore_ascii_case}
use Rattle.std.proofs.lemmas.Bool.{cases_Bool}
use Rattle.std.proofs.lemmas.Option.{same_Some}
use Rattle.std.proofs.lemmas.List.{append-nil, length-append, map-append, get_or_append_left, get_or_at}
use Rattle.std.proofs.lemmas.List.Quantifiers.{all_pairs_push}
use Rattle.dns_name.specs.Labels.{small_letters}
use Rattle.sip_uri.specs.ViaClasses.{is_blank, row, behind_row}
use Rattle.sip_uri.specs.Readers.Vias.{behind_mark, next_param, names, stands_in, AreNamesApart}
use Rattle.sip_uri.specs.Vias.{IsBlanks, ParamsText, nothing, param, ViaParams}
use Rattle.sip_uri.proofs.ParamTexts.{names_same, names_other}
use Rattle.sip_uri.proofs.ParamLists.{Differ}
use Rattle.sip_uri.proofs.ViaRows.{row_and, row_all, row_alone, no_mark}
use Rattle.sip_uri.proofs.ViaSteps.{follows, next_read, next_again}

abbrev pub keys_of : List (List ℕ) → List (List ℕ)
keys_of texts = map small_letters texts

-- ---- names

new_key : (earlier : List (List ℕ)) (name : List ℕ) → stands_in earlier name ≡ false → (k : ℕ) (d : List ℕ) → k < length (keys_of earlier)
    → Differ (get_or (keys_of earlier) k d) (small_letters name)
new_key [] name e k d within same = omega arith
new_key (other ∷ earlier) name e zero d within same =
    let is = names_same other name same in
    let no : true ≡ false = rw is at e in
    cc
new_key (other ∷ earlier) name e (suc k) d within same =
    elim (cases_Bool (str_eq_ignore_ascii_case other name)) [
      | inl is ↦ (let no : true ≡ false = rw is at e in cc)
      | inr no' ↦ new_key earlier name (rw no' at e) k d (omega arith) same
    ]

key_new : (earlier : List (List ℕ)) (name : List ℕ)
    → ((k : ℕ) (d : List ℕ) → k < length (keys_of earlier) → Differ (get_or (keys_of earlier) k d) (small_letters name))
    → stands_in earlier name ≡ false
key_new [] name new = refl
key_new (other ∷ earlier) name new =
    let first = names_other other name (λ same. new 0 [] (omega arith) same) in
    rw first (key_new earlier name (λ k d within same. new (suc k) d (omega arith) same))

not_in : (earlier : List (List ℕ)) (name : List ℕ) (keys : List (List ℕ)) → AllPairs Differ (keys_of earlier ++ small_letters name ∷ keys)
    → stands_in earlier name ≡ false
not_in earlier name keys apart =
    key_new earlier name (λ k d within same.
    let long : length (keys_of earlier) < length (keys_of earlier ++ small_letters name ∷ keys) =
    omega (arith, length-append (keys_of earlier) (small_letters name ∷ keys)) in
    let one = get_or_append_left (keys_of earlier) (small_letters name ∷ keys) d k within in
    let two = get_or_at (keys_of earlier) (small_letters name) keys d (length (keys_of earlier)) refl in
    apart k (length (keys_of earlier)) d within long (one ∙ same ∙ sym two))

-- ---- what parameters go on with

pub blanks_no_mark : (text : List ℕ) → IsBlanks text → behind_mark 59 text ≡ None
blanks_no_mark text blank = rw append-nil at (no_mark 59 text [] blank tt tt)

next_blank : (text : List ℕ) → IsBlanks text → next_param text ≡ None
unfolding next_param
next_blank text blank = rw (blanks_no_mark text blank) refl

-- the parameters of a text, from what is read of it
moved : (a b : List ℕ) (keys : List (List ℕ)) → a ≡ b → ParamsText a keys → ParamsText b keys
moved a b keys e are = rw e at are

apart_at : (a b : List (List ℕ)) → a ≡ b → AllPairs Differ a → AllPairs Differ b
apart_at a b e apart = rw e at apart

from_next : (text : List ℕ) (keys : List (List ℕ)) (name after : List ℕ) → next_param text ≡ Some (name, after) → ParamsText text keys
    → (others : List (List ℕ)) × (keys ≡ small_letters name ∷ others) × ParamsText after others
from_next text keys name after e (nothing t blank) = absurd (let no : None ≡ Some (name, after) = sym (next_blank text blank) ∙ e in cc)
from_next text keys name after e (param t others front behind found value rest front_blank behind_blank is_name is_value are joined) =
    let k : next_param text ≡ Some (found, rest) =
    next_again text front behind found value rest front_blank behind_blank is_name is_value (follows rest others are) joined in
    let same = same_Some (found, rest) (name, after) (sym k ∙ e) in
    let name_is : found ≡ name = ap (λ (p : List ℕ × List ℕ). p.0) same in
    let rest_is : rest ≡ after = ap (λ (p : List ℕ × List ℕ). p.1) same in
    (others, ap (λ (n : List ℕ). small_letters n ∷ others) name_is, moved rest after others rest_is are)

from_none : (text : List ℕ) (keys : List (List ℕ)) → next_param text ≡ None → ParamsText text keys → IsBlanks text
from_none text keys e (nothing t blank) = blank
from_none text keys e (param t others front behind found value rest front_blank behind_blank is_name is_value are joined) =
    let k : next_param text ≡ Some (found, rest) =
    next_again text front behind found value rest front_blank behind_blank is_name is_value (follows rest others are) joined in
    absurd (let no : None ≡ Some (found, rest) = sym e ∙ k in cc)

no_names : (count : ℕ) (text : List ℕ) → next_param text ≡ None → names count text ≡ []
no_names zero text e = refl
no_names (suc count) text e = rw e refl

-- ---- a reader that has come to a place

pub record WalkedSoFar (text rest : List ℕ) (count : ℕ) : Type 0 where
  pub forth : (keys : List (List ℕ)) → ParamsText rest keys → ParamsText text (keys_of (names count text) ++ keys)
  pub back : (all : List (List ℕ)) → ParamsText text all → (keys : List (List ℕ)) × ParamsText rest keys
      × (all ≡ keys_of (names count text) ++ keys)
  pub apart : AllPairs Differ (keys_of (names count text))
  pub further : (m : ℕ) → names (count + m) text ≡ names count text ++ names m rest
  pub bound : count + length rest ≤ length text

module _ (text rest : List ℕ) (count : ℕ) (so_far : WalkedSoFar text rest count) where
  pub all_read : behind_row is_blank rest ≡ [] → ViaParams text
  all_read e =
      let whole : row is_blank rest ≡ rest = sym (append-nil (row is_blank rest)) ∙ rw e at (row_and is_blank rest) in
      let blank : IsBlanks rest = rw whole at (row_all is_blank rest) in
      let are = so_far.forth [] (nothing rest blank) in
      record {
        keys = keys_of (names count text);
        are = rw append-nil at are;
        apart = so_far.apart;
      }

  pub bad_here : 0 < length (behind_row is_blank rest) → next_param rest ≡ None → ViaParams text → ⊥
  bad_here some none is =
      let k = so_far.back is.keys is.are in
      let blank = from_none rest k.0 none k.1 in
      omega (arith, some, ap length (row_alone is_blank rest blank).1)

  pub apart_here : next_param rest ≡ None → AreNamesApart text
  apart_here none =
      let more : ℕ = length text - count in
      let all : count + more ≡ length text = omega (arith, so_far.bound) in
      let whole : names (length text) text ≡ names count text =
      ap (λ (n : ℕ). names n text) (sym all) ∙ so_far.further more ∙ ap
      (λ (x : List (List ℕ)). names count text ++ x) (no_names more rest none) ∙ append-nil (names count text) in
      rw whole so_far.apart

  module _ (name after : List ℕ) (e : next_param rest ≡ Some (name, after)) where
    pub again_here : stands_in (names count text) name ≡ true → ViaParams text → ⊥
    again_here again is =
        let k = so_far.back is.keys is.are in
        let l = from_next rest k.0 name after e k.1 in
        let whole : is.keys ≡ keys_of (names count text) ++ small_letters name ∷ l.0 =
        k.2 ∙ ap (λ (x : List (List ℕ)). keys_of (names count text) ++ x) l.1 in
        let new = not_in (names count text) name l.0
        (apart_at is.keys (keys_of (names count text) ++ small_letters name ∷ l.0) whole is.apart) in
        let no : true ≡ false = sym again ∙ new in
        cc

    pub repeated_here : stands_in (names count text) name ≡ true → length after < length rest → AreNamesApart text → ⊥
    repeated_here again shorter apart =
        let more : ℕ = length text - (count + 1) in
        let all : count + suc more ≡ length text = omega (arith, so_far.bound) in
        let step : names (suc more) rest ≡ name ∷ names more after = rw e refl in
        let whole : names (length text) text ≡ names count text ++ name ∷ names more after =
        ap (λ (n : ℕ). names n text) (sym all) ∙ so_far.further (suc more) ∙ ap (λ (x : List (List ℕ)). names count text ++ x) step in
        let keys : keys_of (names (length text) text) ≡ keys_of (names count text) ++ small_letters name ∷ keys_of (names more after) =
        ap keys_of whole ∙ map-append small_letters (names count text) (name ∷ names more after) in
        let new = not_in (names count text) name (keys_of (names more after))
        (apart_at (keys_of (names (length text) text))
        (keys_of (names count text) ++ small_letters name ∷ keys_of (names more after)) keys apart) in
        let no : true ≡ false = sym again ∙ new in
        cc

    pub walked_more : stands_in (names count text) name ≡ false → length after < length rest → WalkedSoFar text after (count + 1)
    walked_more new shorter =
        let one : names 1 rest ≡ name ∷ [] = rw e refl in
        let longer : names (count + 1) text ≡ names count text ++ name ∷ [] =
        so_far.further 1 ∙ ap (λ (x : List (List ℕ)). names count text ++ x) one in
        let keys_longer : keys_of (names (count + 1) text) ≡ keys_of (names count text) ++ small_letters name ∷ [] =
        ap keys_of longer ∙ map-append small_letters (names count text) (name ∷ []) in
        record {
          forth = λ keys are. rw (keys_longer, append_assoc)
              (so_far.forth (small_letters name ∷ keys) (next_read rest name after e keys are));
          back = λ all are.
              let k = so_far.back all are in
              let l = from_next rest k.0 name after e k.1 in
              (l.0, l.2, rw (keys_longer, append_assoc) (k.2 ∙ ap (λ (x : List (List ℕ)). keys_of (names count text) ++ x) l.1));
          apart = rw keys_longer
              (all_pairs_push Differ (keys_of (names count text)) (small_letters name) so_far.apart (new_key (names count text) name new));
          further = λ m.
              let next : 1 + m ≡ suc m = omega arith in
              let step : names (1 + m) rest ≡ name ∷ names m after = ap (λ (n : ℕ). names n rest) next ∙ rw e refl in
              ap (λ (n : ℕ). names n text) (add_assoc count 1 m) ∙ so_far.further (1 + m) ∙ ap
              (λ (x : List (List ℕ)). names count text ++ x) step ∙ rw longer
              (sym (append_assoc (names count text) (name ∷ []) (names m after)));
          bound = omega (arith, so_far.bound);
        }
