-- The rule of a run's channel.
use Rattle.std.specs.Prelude.{◌≡◌, ◌⊎◌, ℕ, ◌+◌, ◌^◌, Bool, true, List, [], ◌++◌, take}
use Rattle.std.specs.List.{All, Contains, sum_by}
use mathlib.Core.Option.{some}
use lib.ListN.{get_elem?}
use Rattle.sip_workers.specs.declared.batch.Batch.{Batch}
use Rattle.sip_workers.specs.declared.queue.PassView.{PassView}

-- what contracts see of a pass of the channel: whether it deals, its parts, what was put, and what
-- it took
abbrev pub pass_view : Bool → ℕ → List Batch → List Batch → PassView
pass_view deals parts put taken = record { deals = deals; parts = parts; put = put; taken = taken }

-- how many parts there are in all, which is more than there are workers
abbrev pub all_parts : ℕ
all_parts = 2 ^ 64

-- a batch of none says that no more come
abbrev pub IsEnd : Batch → Type 0
IsEnd batch = batch.count ≡ 0

-- some of the batches, in order from the first one on, each once, and then ends alone
pub record IsPut (batches put : List Batch) : Type 0 where
  pub some_of : ℕ
  pub ends : List Batch
  pub is : put ≡ take some_of batches ++ ends
  pub end : All IsEnd ends

-- an end, or one of the batches
abbrev pub Stands : List Batch → Batch → Type 0
Stands batches batch = IsEnd batch ⊎ Contains batches batch

-- who deals knows what was put
abbrev pub Deals : ℕ → List Batch → ℕ → PassView → Type 0
Deals dealer put port v = v.deals ≡ true → (port ≡ dealer) × (v.put ≡ put)

-- without a part nothing was taken
abbrev pub IdleTookNone : PassView → Type 0
IdleTookNone v = v.parts ≡ 0 → v.taken ≡ []

-- What was taken, followed by what is in the channel, is what was put: some of the batches, in
-- order, each once, and then ends alone. And what was taken is what the passes took.
pub record IsDealt (batches items : List Batch) (views : List PassView) : Type 0 where
  pub dealer : ℕ
  pub gone : List Batch
  pub put : IsPut batches (gone ++ items)
  pub deals : (port : ℕ) (v : PassView) → get_elem? views port ≡ some v
      → Deals dealer (gone ++ items) port v
  pub parts : sum_by (λ v. v.parts) views ≡ all_parts
  pub taken : (h : Batch → ℕ) → sum_by (λ v. sum_by h v.taken) views ≡ sum_by h gone
  pub idle : (port : ℕ) (v : PassView) → get_elem? views port ≡ some v → IdleTookNone v

-- What was put is what was taken, as often, and what is left, which was put last.
pub record IsWhole (put taken items : List Batch) : Type 0 where
  pub as_often : (h : Batch → ℕ) → sum_by h put ≡ sum_by h taken + sum_by h items
  pub gone : List Batch
  pub last : put ≡ gone ++ items
