-- How the log is opened.
use Rattle.std.proofs.Common.{◌≡◌, ◌≤◌, ◌+◌, ℕ, length, inl, inr, true, [], ◌∷◌, false, replicate, arith, rules}
use Rattle.std.proofs.lemmas.List.{get_or-replicate}
use Rattle.std.proofs.lemmas.List.FromFn.{length-map-range_with_len}
use Rattle.logbook.specs.Pages.{Book}
use Rattle.answer_log.specs.Rules.{IsKept, heads_of, word_at}
use Rattle.answer_log.specs.declared.event.Event.TheVariants.{Opened}
use Rattle.answer_log.specs.Histories.{IsSound}
use Rattle.std.proofs.lemmas.List.Elements.{All-nil}

-- the rule holds of so many heads and an idle word, which hold 0
pub kept_open : (seats groups : ℕ) → seats ≤ 64 → 64 ≤ groups → groups ≤ 65536
    → IsKept (replicate (groups + 1) (0, true)) (Opened seats groups ∷ [])
kept_open seats groups few least most = record {
  seats = few;
  groups = (least, most);
  heads = λ group low. get_or-replicate (groups + 1) group (0, true) (0, false) (omega arith);
  idle = get_or-replicate (groups + 1) groups (0, true) (0, false) (omega arith);
  linked = λ group. tt;
  twins = λ node store link i. elim i [ inl q ↦ absurd (cc (q)) | inr z ↦ absurd z ];
  named = λ node store link i. elim i [ inl q ↦ absurd (cc (q)) | inr z ↦ absurd z ];
  unique = λ node store other link link' i j. elim i [ inl q ↦ absurd (cc (q)) | inr z ↦ absurd z ];
  once = tt;
  history = record { sound = All-nil IsSound; few = λ group. search rules };
}

-- there are as many heads as there are groups
pub heads-length : (book : Book) (count : ℕ) → length (heads_of book count) ≡ count
heads-length book count = length-map-range_with_len (word_at book) 0 count
