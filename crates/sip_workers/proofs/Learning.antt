-- What a seat has seen once it learned what notices tell and other seats have seen.
use Rattle.std.proofs.Common.{◌≡◌, ℕ, ◌+◌, ◌<◌, ◌≤◌, List, [], ◌∷◌, get_or, length, take, subst, sym}
use Rattle.std.proofs.lemmas.List.{take_all, take_more}
use Rattle.std.proofs.lemmas.List.Elements.{All-cons, All-nil, All-push, All-weaker}
use Rattle.std.specs.List.{All, AllZip}
use mathlib.Core.List.{IsPrefix}
use Rattle.answer_log.specs.declared.store.Store.{Store}
use Rattle.answer_cache.specs.Shared.{CacheView, NoticeView, SharedView}
use Rattle.sip_workers.proofs.Storing.{prefix-through}
use Rattle.sip_workers.specs.Runs.{IsMade}
use Rattle.sip_worker.specs.declared.job.Job.{Job}
use Rattle.sip_resolver.specs.declared.outcome.Outcome.{Outcome}

-- what each of these tells is a beginning of this history
module _ {X : Type 0} (told : X → List Store) where
  abbrev pub HasLearned : List Store → List X → Type 0
  HasLearned seen items = All (λ it. IsPrefix (told it) seen) items

  pub learned-more : (items : List X) (count : ℕ) (old new : List Store) (it : X)
      → count < length items → it ≡ get_or items count it → IsPrefix old new → IsPrefix (told it) new
      → HasLearned old (take count items) → HasLearned new (take (count + 1) items)
  learned-more items count old new it inside is on here before =
      let next = subst (λ (x : X). IsPrefix (told x) new) is here in
      let still = All-weaker (λ x. IsPrefix (told x) old) (λ x. IsPrefix (told x) new)
      (λ x first. prefix-through (told x) old new first on) (take count items) before in
      subst (HasLearned new) (sym (take_more items count it inside))
      (All-push (λ x. IsPrefix (told x) new) (take count items) (get_or items count it) still next)

  pub learned-all : (items : List X) (count : ℕ) (seen : List Store) → length items ≤ count
      → HasLearned seen (take count items) → HasLearned seen items
  learned-all items count seen long all = subst (HasLearned seen) (take_all count items long) all

  pub learned-on : (items : List X) (old new : List Store) → IsPrefix old new → HasLearned old items → HasLearned new items
  learned-on items old new on all =
      All-weaker (λ it. IsPrefix (told it) old) (λ it. IsPrefix (told it) new)
      (λ it first. prefix-through (told it) old new first on) items all

-- what the notice of an outcome tells
abbrev pub told_by : Outcome × NoticeView → List Store
told_by it = it.1.seen

-- what a seat has seen
abbrev pub seen_by : SharedView → List Store
seen_by it = it.seat.seen

-- what became of jobs comes with notices of this cache
pub made-here : (gives : List ℕ → Type 0) (shows : ℕ → Type 0) (cache : CacheView) (jobs : List Job)
    (made : List (Outcome × NoticeView)) → AllZip (IsMade gives shows cache) jobs made → All (λ it. it.1.cache ≡ cache) made
made-here gives shows cache [] [] are = All-nil (λ it. it.1.cache ≡ cache)
made-here gives shows cache [] (it ∷ made) are = absurd are
made-here gives shows cache (job ∷ jobs) [] are = absurd are
made-here gives shows cache (job ∷ jobs) (it ∷ made) are =
    All-cons (λ x. x.1.cache ≡ cache) it made are.0.1 (made-here gives shows cache jobs made are.1)
