-- What a run of many workers is, and what it gives.
use Rattle.std.specs.Prelude.{◌≡◌, ◌≢◌, ℕ, ◌+◌, ◌<◌, ◌≤◌, List, ◌++◌, length, slice_index_or}
use Rattle.std.specs.List.{All, AllZip}
use mathlib.Core.List.{IsPrefix}
use Rattle.answer_log.specs.Histories.{IsHistory, mine}
use Rattle.answer_log.specs.declared.store.Store.{Store}
use Rattle.answer_cache.specs.Seats.{SeatView}
use Rattle.answer_cache.specs.Shared.{CacheView, NoticeView, SharedView}
use Rattle.sip_resolver.specs.Works.{IsHeard, offer_in}
use Rattle.sip_worker.specs.Outcomes.{IsOutcome}
use Rattle.sip_worker.specs.declared.job.Job.{Job}
use Rattle.sip_resolver.specs.declared.outcome.Outcome.{Outcome}
use Rattle.sip_workers.specs.declared.refusal.RunRefusal.{RunRefusal}
use Rattle.sip_workers.specs.declared.gather_refusal.GatherRefusal.{GatherRefusal}
use Rattle.sip_workers.specs.declared.gather_refusal.GatherRefusal.TheVariants as gather
use Rattle.sip_workers.specs.declared.refusal.RunRefusal.TheVariants.{BadCount, NoThread, Memory, Gathering}

-- ---- what may run

-- the number of each job is below the number of the next
abbrev pub Rises : List Job → Type 0
Rises jobs = (k : ℕ) (job : Job) → k + 1 < length jobs
    → (slice_index_or jobs k job).number < (slice_index_or jobs (k + 1) job).number

-- the counts of a run are good: seats, a wire for each, batches of 1 to 8 jobs, and at most 10,000
-- jobs, whose numbers rise
pub record MayRun (seats wires : ℕ) (jobs : List Job) (batch : ℕ) : Type 0 where
  pub some : 0 < seats
  pub alike : wires ≡ seats
  pub full : 0 < batch
  pub small : batch ≤ 8
  pub rises : Rises jobs
  pub few : length jobs ≤ 10000

-- A refusal says that the counts are bad exactly where they are not good. A thread and memory are
-- needed, and results are put in order, only where they are good.
abbrev pub RefusesRun : Type 0 → RunRefusal → Type 0
RefusesRun good BadCount = good → ⊥
RefusesRun good NoThread = good
RefusesRun good Memory = good
RefusesRun good (Gathering refusal) = good × (refusal ≢ gather.Memory)

-- a refusal of `gather`, as one of a run
abbrev pub of_gather : GatherRefusal → RunRefusal
of_gather gather.Stranger = Gathering gather.Stranger
of_gather gather.Double = Gathering gather.Double
of_gather gather.Missing = Gathering gather.Missing
of_gather gather.Memory = Memory

-- ---- what it gives

-- what became of a job, with a notice of this cache
module _ (gives : List ℕ → Type 0) (shows : ℕ → Type 0) (cache : CacheView) where
  -- what became of a job, with a notice of this cache
  abbrev pub IsMade : Job → Outcome × NoticeView → Type 0
  IsMade job made = IsOutcome gives shows made.1.seen job made.0 × (made.1.cache ≡ cache)

  -- what became of each job, in their order
  abbrev pub AreMade : List Job → List (Outcome × NoticeView) → Type 0
  AreMade jobs made = AllZip IsMade jobs made

-- ---- the history of it

-- a history of this cache, by its groups: its stores are sound, and of the cache's seats alone
pub record IsHistoryOf (cache : CacheView) (history : List Store) : Type 0 where
  pub sound : IsHistory cache.groups history
  pub seats : All (λ store. store.seat < cache.seats) history

-- over a wire and a clock
module _ (gives : List ℕ → Type 0) (shows : ℕ → Type 0) where
  -- a store is the answer of a reply that the wire gave, at a moment that the clock showed
  abbrev pub IsOfReply : Store → Type 0
  IsOfReply store = IsHeard gives shows (offer_in store)

  -- What a history has of a seat that took part in a run: the stores that the seat had made before,
  -- once each and in their order, and then answers of replies alone.
  pub record HasStoresOf (history : List Store) (seat : SeatView) : Type 0 where
    pub stores : List Store
    pub are : mine history seat.number ≡ seat.own ++ stores
    pub replies : All IsOfReply stores

  -- There is one history of this cache. What each of these notices tells is its beginning, and of
  -- each seat it has what the seat stored.
  pub record HaveOneHistory (cache : CacheView) (seats : List SharedView)
      (made : List (Outcome × NoticeView)) : Type 0 where
    pub history : List Store
    pub is : IsHistoryOf cache history
    pub begin : All (λ it. IsPrefix it.1.seen history) made
    pub stores : All (λ seat. HasStoresOf history seat.seat) seats
