-- What is put next.
use Rattle.std.proofs.Common.{◌≡◌, ℕ, ◌+◌, ◌<◌, List, [], ◌∷◌, ◌++◌, get_or, length, replicate, take, refl, sym, ap, ◌∙◌, append_assoc}
use Rattle.std.proofs.lemmas.List.{append-nil, take_more}
use Rattle.std.proofs.lemmas.Grind.{replicate_next}
use Rattle.std.proofs.lemmas.List.Elements.{All-append, All-nil, All-replicate}
use Rattle.sip_workers.specs.Rules.{IsEnd, IsPut}
use Rattle.sip_workers.specs.Deals.{no_more}
use Rattle.sip_workers.specs.declared.batch.Batch.{Batch}

-- none yet
pub put-none : (batches own : List Batch) → own ≡ [] → IsPut batches own
put-none batches own none = record { some_of = 0; ends = []; is = none; end = All-nil IsEnd }

-- some of them, and no end
pub put-some : (batches : List Batch) (k : ℕ) (own : List Batch) → own ≡ take k batches → IsPut batches own
put-some batches k own is = record { some_of = k; ends = []; is = is ∙ sym (append-nil (take k batches)); end = All-nil IsEnd }

-- one more of them
pub put-next : (batches all own : List Batch) (k : ℕ) → all ≡ batches → own ≡ take k all → k < length all
    → IsPut batches (own ++ get_or all k no_more ∷ [])
put-next batches all own k same is inside =
    let more : own ++ get_or all k no_more ∷ [] ≡ take (k + 1) all =
    ap (λ l. l ++ get_or all k no_more ∷ []) is ∙ sym (take_more all k no_more inside) in
    put-some batches (k + 1) (own ++ get_or all k no_more ∷ []) (more ∙ ap (take (k + 1)) same)

-- so many ends
pub put-ends : (batches own : List Batch) (count : ℕ) → IsPut batches own → IsPut batches (own ++ replicate count no_more)
put-ends batches own count it = record {
  some_of = it.some_of;
  ends = it.ends ++ replicate count no_more;
  is = ap (λ l. l ++ replicate count no_more) it.is ∙ append_assoc (take it.some_of batches) it.ends (replicate count no_more);
  end = All-append IsEnd it.ends (replicate count no_more) it.end (All-replicate IsEnd count no_more refl);
}

-- one end more
pub end-next : (batches own : List Batch) (count : ℕ) → IsPut batches own → IsPut batches ((own ++ replicate count no_more) ++ no_more ∷ [])
end-next batches own count it =
    rw (append_assoc own (replicate count no_more) (no_more ∷ []), ← replicate_next count no_more) (put-ends batches own (count + 1) it)
