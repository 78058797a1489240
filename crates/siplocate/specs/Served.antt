-- A run to a server on this host, which answers from a zone.
use Rattle.std.specs.Prelude.{◌≡◌, ◌≢◌, ◌≤◌, ◌⊎◌, ⊤, ℕ, List, [], ◌∷◌, ◌++◌, codes}
use Rattle.std.specs.Fmt.{decimal}
use Rattle.std.specs.List.{All}
use Rattle.std.specs.Str.Lines.{lines}
use Rattle.std.specs.declared.io.ErrorKind.{ErrorKind}
use Rattle.std.specs.declared.io.ErrorKind.TheVariants.{OutOfMemory}
use Rattle.answer_cache.specs.Shared.{CacheView, SharedView}
use Rattle.answer_cache.specs.declared.refusal.CacheRefusal.{CacheRefusal}
use Rattle.answer_cache.specs.declared.refusal.CacheRefusal.TheVariants as cache
use Rattle.dns_message.specs.declared.resource.Record.{Record}
use Rattle.dns_zone.specs.Lines.{LinesSay}
use Rattle.dns_zone.specs.Refusals.{RefusedFor}
use Rattle.dns_zone.specs.declared.refusal.ZoneRefusal.{ZoneRefusal}
use Rattle.dns_zone.specs.declared.refusal.ZoneRefusal.TheVariants as zone
use Rattle.sip_workers.specs.declared.refusal.RunRefusal.{RunRefusal}
use Rattle.sip_workers.specs.declared.refusal.RunRefusal.TheVariants as run
use Rattle.sip_workers.specs.Runs.{IsOfReply}
use Rattle.siplocate.specs.Parts.{AreParts}
use Rattle.siplocate.specs.Runs.{HasTooMany, IsRun}
use Rattle.siplocate.specs.declared.server.RunFault.{RunFault}
use Rattle.siplocate.specs.declared.server.RunFault.TheVariants.{Workers, Requests, Memory, Thread, Gathering, Net}

-- ---- why nothing becomes of a run, by what refused it

abbrev pub of_io : ErrorKind → RunFault
of_io OutOfMemory = Memory
of_io kind = Net

abbrev pub of_cache : CacheRefusal → RunFault
of_cache cache.BadCount = Workers
of_cache cache.Memory = Memory

abbrev pub of_run : RunRefusal → RunFault
of_run run.BadCount = Requests
of_run run.NoThread = Thread
of_run run.Memory = Memory
of_run (run.Gathering refusal) = Gathering

-- a run can have this number of workers: 1 to 64
abbrev pub IsCountOfWorkers : ℕ → Type 0
IsCountOfWorkers workers = (1 ≤ workers) × (workers ≤ 64)

-- only a wrong number of workers is refused as one, and only too many requests are
abbrev pub Faults : ℕ → List ℕ → RunFault → Type 0
Faults workers requests Workers = IsCountOfWorkers workers → ⊥
Faults workers requests Requests = HasTooMany requests
Faults workers requests Memory = ⊤
Faults workers requests Thread = ⊤
Faults workers requests Gathering = ⊤
Faults workers requests Net = ⊤

-- ---- what is printed

-- What is printed of requests, over one history of a cache of their own and a network of which
-- nothing is known. Each store of that history is the answer that a reply has to its question.
pub record IsAsked (requests printed : List ℕ) (status : ℕ) : Type 0 where
  pub few : HasTooMany requests → ⊥
  pub cache : CacheView
  pub seats : List SharedView
  pub run : IsRun (λ _. ⊤) (λ _. ⊤) cache seats requests printed status
  pub replies : All (IsOfReply (λ _. ⊤) (λ _. ⊤)) run.history

-- the requests of a text are too many
pub record IsOverfull (text : List ℕ) : Type 0 where
  pub zone : List ℕ
  pub requests : List ℕ
  pub parts : AreParts text zone requests
  pub many : HasTooMany requests

-- the line that is printed for a text that is no zone
abbrev pub bad_zone_line : ZoneRefusal → List ℕ
bad_zone_line (zone.BadLine number) = codes "bad zone " ++ decimal number ++ 10 ∷ []
bad_zone_line zone.TooMany = codes "bad zone TooMany\n"
bad_zone_line zone.Memory = []

-- a text is no zone, and that is printed
pub record IsBadZone (text printed : List ℕ) : Type 0 where
  pub refusal : ZoneRefusal
  pub refused : RefusedFor refusal (lines text)
  pub said : refusal ≢ zone.Memory
  pub is : printed ≡ bad_zone_line refusal

-- what is printed for a zone and requests: that the zone can't be read (`IsBadZone`), or what
-- becomes of the requests (`IsAsked`)
pub record IsServed (text printed : List ℕ) (status : ℕ) : Type 0 where
  pub zone : List ℕ
  pub requests : List ℕ
  pub parts : AreParts text zone requests
  pub printed_is :
      ((status ≡ 3) × IsBadZone zone printed)
      ⊎ (((records : List Record) × LinesSay (lines zone) records)
      × IsAsked requests printed status)
