-- What the program prints for a job, and its status.
use Rattle.std.specs.Prelude.{◌≡◌, ◌≤◌, ◌⊎◌, ⊤, ℕ, List, Option, Ok, Err, codes}
use Rattle.std.specs.Io.KnownBytes.{Appends}
use Rattle.std.specs.String.{string_bytes}
use Rattle.sip_selection.specs.declared.caps.Families.{Families}
use Rattle.siplocate.specs.declared.input.InputRefusal.{InputRefusal}
use Rattle.siplocate.specs.declared.input.InputRefusal.TheVariants.{Input, Memory}
use Rattle.siplocate.specs.declared.job.Job.{Job}
use Rattle.siplocate.specs.declared.job.Job.TheVariants as job
use Rattle.siplocate.specs.declared.job.JobOutput.{JobOutput}
use Rattle.siplocate.specs.declared.job.JobOutput.TheVariants.{Text, Usage, NoInput, NoMemory, NoThread, NotGathered, NoNet}
use Rattle.sip_selection.specs.Choice.{Resolution}
use Rattle.siplocate_one.specs.Requests.{LocatesTo}
use Rattle.siplocate.specs.Served.{IsCountOfWorkers, IsOverfull, IsServed}
use Rattle.siplocate.specs.declared.server.RunFault.{RunFault}
use Rattle.siplocate.specs.declared.server.RunFault.TheVariants as fault
use Rattle.siplocate_one.specs.Words as words

-- what is printed for the request in a text: what becomes of it, or else what is wrong
pub record IsOneOutput (families : Families) (text printed : List ℕ) (status : ℕ) : Type 0 where
  pub range : status ≤ 5
  pub located : (resolution : Resolution) → LocatesTo families text resolution
      → (printed ≡ words.shown resolution) × (status ≡ words.status_of resolution)
  pub only : ((status ≡ 3) × words.IsBadLine families text printed)
      ⊎ ((resolution : Resolution) × LocatesTo families text resolution
      × (printed ≡ words.shown resolution) × (status ≡ words.status_of resolution))

-- what is printed for the request in a text, where memory may be refused
abbrev pub IsTextOutput : Families → List ℕ → JobOutput → Type 0
IsTextOutput families text (Text printed status) = IsOneOutput families text (string_bytes printed)
    status
IsTextOutput families text Usage = ⊥
IsTextOutput families text NoInput = ⊥
IsTextOutput families text NoMemory = ⊤
IsTextOutput families text NoThread = ⊥
IsTextOutput families text NotGathered = ⊥
IsTextOutput families text NoNet = ⊥

-- what is printed for a zone and requests: what becomes of the requests, over answers to what was
-- asked, or that the zone can't be read
abbrev pub IsRunOutput : ℕ → List ℕ → JobOutput → Type 0
IsRunOutput workers text (Text printed status) = IsServed text (string_bytes printed) status
IsRunOutput workers text Usage = IsCountOfWorkers workers → ⊥
IsRunOutput workers text NoInput = IsOverfull text
IsRunOutput workers text NoMemory = ⊤
IsRunOutput workers text NoThread = ⊤
IsRunOutput workers text NotGathered = ⊤
IsRunOutput workers text NoNet = ⊤

-- what is told where nothing becomes of a run
abbrev pub faulted : RunFault → JobOutput
faulted fault.Workers = Usage
faulted fault.Requests = NoInput
faulted fault.Memory = NoMemory
faulted fault.Thread = NoThread
faulted fault.Gathering = NotGathered
faulted fault.Net = NoNet

-- what is printed for an input that was not taken
abbrev pub refused : InputRefusal → JobOutput
refused Input = NoInput
refused Memory = NoMemory

-- what is printed for a job
abbrev pub IsOutput : Job → JobOutput → Type 0
IsOutput (job.One families (Ok text)) told = IsTextOutput families (string_bytes text) told
IsOutput (job.One families (Err refusal)) told = told ≡ refused refusal
IsOutput (job.Run workers (Ok text)) told = IsRunOutput workers (string_bytes text) told
IsOutput (job.Run workers (Err refusal)) told = told ≡ refused refusal
IsOutput job.Usage told = told ≡ Usage

-- the text that is printed, and the status
abbrev pub printed : JobOutput → List ℕ
printed (Text text own) = string_bytes text
printed Usage = codes "usage: siplocate one [4|6|46|64] | run WORKERS\n"
printed NoInput = codes "fault input\n"
printed NoMemory = codes "fault memory\n"
printed NoThread = codes "fault thread\n"
printed NotGathered = codes "fault gather\n"
printed NoNet = codes "fault net\n"

-- the exit status of what is printed: that of the text, 4 where the words are no command, 5 where
-- nothing could be done
abbrev pub status : JobOutput → ℕ
status (Text text own) = own
status Usage = 4
status NoInput = 5
status NoMemory = 5
status NoThread = 5
status NotGathered = 5
status NoNet = 5

-- the text was written after what had been written, and the status is its own; or else output
-- failed
abbrev pub IsReported : Option (List ℕ) → Option (List ℕ) → JobOutput → ℕ → Type 0
IsReported old new told given = (Appends old new (printed told) × (given ≡ status told))
    ⊎ (given ≡ 5)
