-- Words, and what each says.
use Rattle.std.proofs.Common.{◌≡◌, ℕ, ◌+◌, ◌<◌, List, [], ◌∷◌, ◌++◌, map, take, length, slice_index_or, Bor, subst, ap, sym, ◌∙◌}
use Rattle.std.specs.Prelude.{Option, Some, None, option_map, unwrap_or, Result, Ok, Err, IfOk, IfErr, OnOk}
use Rattle.std.specs.Option.{option_map_or}
use Rattle.clap.specs.Matches.{raw_values}
use Rattle.clap.specs.declared.parser.matches.MatchedArg.{MatchedArg}
use Rattle.std.specs.List.{AllZip, Any}
use Rattle.std.proofs.lemmas.List.{take_more, get_or_default, get_or-map, length-map}
use Rattle.std.proofs.lemmas.Slice.Zip.{all_zipped_more}

-- what holds of the words before an index holds of one more
pub one_more : {A B : Type 0} (R : A → B → Type 0) (xs : List A) (ys : List B) (i : ℕ) (d : A) (y : B) → i < length xs
    → AllZip R (take i xs) ys → R (slice_index_or xs i d) y → AllZip R (take (i + 1) xs) (ys ++ y ∷ [])
one_more R xs ys i d y lt h r =
    subst (λ l. AllZip R l (ys ++ y ∷ [])) (sym (take_more xs i d lt)) (all_zipped_more R (take i xs) ys (slice_index_or xs i d) y h r)

-- what holds of the word at an index holds of some word
pub some_at : {A : Type 0} (P : A → Type 0) (xs : List A) (k : ℕ) (d : A) → k < length xs → P (slice_index_or xs k d) → Any P xs
some_at P xs k d lt p = (k, slice_index_or xs k d, lt, get_or_default xs k (slice_index_or xs k d) d lt, p)

-- what holds of each word holds of each text
pub of_texts : {B : Type 0} (R : List ℕ → B → Type 0) (words : List (Bor (List ℕ))) (ys : List B)
    → AllZip (λ word y. R word.now y) words ys → AllZip R (map (λ word. word.now) words) ys
of_texts R [] [] h = tt
of_texts R [] (y ∷ ys) h = absurd h
of_texts R (word ∷ words) [] h = absurd h
of_texts R (word ∷ words) (y ∷ ys) h = (h.0, of_texts R words ys h.1)

-- what holds of a word holds of a text
pub some_of_texts : (P : List ℕ → Type 0) (words : List (Bor (List ℕ))) → Any (λ word. P word.now) words
    → Any P (map (λ word. word.now) words)
some_of_texts P words (k, word, within, is, holds) = (
  k,
  word.now,
  rw (length-map words (λ word. word.now)) within,
  get_or-map (λ word. word.now) words k word word.now within ∙ ap (λ word. word.now) is,
  holds,
)

-- what follows of each value follows of a result, and so of each refusal
pub if_ok : {T E : Type 0} (P Q : T → Type 0) (r : Result T E) → ((x : T) → P x → Q x) → IfOk r P → IfOk r Q
if_ok P Q (Ok x) f h = f x h
if_ok P Q (Err e) f h = h

pub if_err : {T E : Type 0} (P Q : E → Type 0) (r : Result T E) → ((e : E) → P e → Q e) → IfErr r P → IfErr r Q
if_err P Q (Ok x) f h = h
if_err P Q (Err e) f h = f e h

-- the words of an option that may be absent
pub words_are : (given : Option (Bor (List (Bor (List ℕ))))) (found : Option MatchedArg) (nothing : Bor (List (Bor (List ℕ))))
    → nothing.now ≡ [] → option_map (λ words. map (λ word. word.now) words.now) given ≡ option_map raw_values found
    → map (λ word. word.now) (unwrap_or given nothing).now ≡ option_map_or raw_values found []
words_are None None nothing none is = ap (map (λ word. word.now)) none
words_are None (Some entry) nothing none is = absurd (cc (is))
words_are (Some words) None nothing none is = absurd (cc (is))
words_are (Some words) (Some entry) nothing none is = cc (is)
