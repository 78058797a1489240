use Rattle.std.proofs.Common.{codes, inl, inr, refl, sym, ap, ◌∙◌, ◌∷◌, [], List, ℕ}
use Rattle.std.specs.String.{string_bytes}
use Rattle.std.proofs.lemmas.Slice.Eq.{bytes_eq-Decides}
use Rattle.siplocate.specs.Commands.{families_of}
use Rattle.siplocate.proofs.Commands.{one_word, two_words}
use Rattle.siplocate.proofs.arguments.arguments.Goals as goal

pub returns-in-len1 : goal.returns-in-len1
returns-in-len1 c =
    let word = (bytes_eq-Decides c.as_str.result.now (codes "one")).0 (sym c.eq.ensures ∙ c.if-eq.true) in
    inl (
      one_word string_bytes c.args.words.now c.one-item.result c.in-len1.len_at_least c.in-len1.len_below c.one-item.is
          ∙ ap (λ (word : List ℕ). word ∷ []) (sym c.as_str.ensures.value ∙ word),
      refl,
    )

pub returns-in-Some : goal.returns-in-Some
returns-in-Some c =
    let word = (bytes_eq-Decides c.as_str-then-words-lt3.result.now (codes "one")).0 (sym c.eq-then-words-lt3.ensures ∙ c.if-eq-2.true) in
    let words = two_words string_bytes c.args.words.now c.one-item-then-words-lt3.result c.families-item.result
    c.in-len2.len_at_least c.in-len2.len_below c.one-item-then-words-lt3.is c.families-item.is in
    inr (
      string_bytes c.families-item.result,
      words ∙ ap (λ (word : List ℕ). word ∷ string_bytes c.families-item.result ∷ []) (sym c.as_str-then-words-lt3.ensures.value ∙ word),
      ap families_of (sym c.deref.ensures) ∙ sym c.families_of.ensures ∙ c.in-Some.is,
    )

pub returns-in-Some-workers_of : goal.returns-in-Some-workers_of
returns-in-Some-workers_of c =
    let word = (bytes_eq-Decides c.as_str-then-words-lt3-2.result.now (codes "run")).0 (sym c.eq-then-words-lt3-2.ensures ∙ c.if-eq-3.true)
    in
    let words = two_words string_bytes c.args.words.now c.run-item.result c.workers-item.result
    c.in-len2.len_at_least c.in-len2.len_below c.run-item.is c.workers-item.is in
    record {
      word = string_bytes c.workers-item.result;
      are = words ∙ ap (λ (word : List ℕ). word ∷ string_bytes c.workers-item.result ∷ []) (sym c.as_str-then-words-lt3-2.ensures.value
          ∙ word);
      count = rw (sym c.deref-in-len2-2.ensures) c.in-Some-workers_of.ensures.found;
    }
