-- With which status the program ends.
use Rattle.std.specs.Prelude.{◌≡◌, ◌≢◌, ◌⊎◌, ◌&&◌, ⊤, ℕ, nat_lt, Bool, true, false, List, codes, if◌then◌else◌}
use Rattle.std.specs.List.{list_any}
use Rattle.std.specs.Str.{bytes_eq}
use Rattle.clap.specs.declared.error.kind.ErrorKind.{ErrorKind}
use Rattle.clap.specs.declared.error.kind.ErrorKind.TheVariants.{DisplayHelp, DisplayVersion, OutOfMemory}
use Rattle.clap.specs.declared.parser.matches.ArgMatches.{ArgMatches}
use Rattle.sip_report.specs.declared.report.Report.{Report}
use Rattle.sip_report.specs.declared.report.Report.TheVariants.{Lines, Json, Check, Metrics}
use Rattle.sipwhere.specs.Runs.{IsRunOfOptions}
use Rattle.sipwhere_options.specs.CommandLine.{AreOptions, IsFault}
use Rattle.sipwhere_options.specs.Flags.{IsFlag}
use Rattle.sipwhere_options.specs.declared.options.OptionFault.{OptionFault}
use Rattle.sipwhere_options.specs.declared.options.OptionFault.TheVariants as fault
use Rattle.sipwhere_options.specs.declared.options.Options.{Options}
use Rattle.sipwhere_options.specs.declared.terminals.Terminals.{Terminals}

-- ---- the form of a check

-- a check is asked for
abbrev pub is_check : Report → Bool
is_check Lines = false
is_check Json = false
is_check Check = true
is_check Metrics = false

-- a status in the form of a check, where one is asked for: what is none of its states is UNKNOWN, 3
abbrev pub in_form : Bool → ℕ → ℕ
in_form checks status = if checks && nat_lt 3 status then 3 else status

-- ---- words that were matched

-- The status of a run of options is this, or 5 where it failed, in the form that they ask for.
-- Nothing is known of which keys the system draws.
pub record IsOfOptions (options : Options) (status : ℕ) : Type 0 where
  pub plain : ℕ
  pub ran : (plain ≡ 5) ⊎ IsRunOfOptions (λ key. ⊤) options plain
  pub form : status ≡ in_form (is_check options.report) plain

-- the status of a fault of options: 4, and 5 for want of memory
abbrev pub option_status : OptionFault → ℕ
option_status fault.Server = 4
option_status fault.Local = 4
option_status fault.Families = 4
option_status fault.Transports = 4
option_status fault.Length = 4
option_status fault.Seed = 4
option_status fault.OneText = 4
option_status fault.Memory = 5

-- the words say no options, for this reason, and the status is that of the reason
pub record IsOfFault (matches : ArgMatches) (status : ℕ) : Type 0 where
  pub fault : OptionFault
  pub why : IsFault matches fault
  pub checks : Bool
  pub asked : IsFlag matches (codes "check") checks
  pub form : status ≡ in_form checks (option_status fault)

-- the status of words that were matched: that of a run of the options that they say, or that of the
-- reason why they say none
pub data IsOfMatches (matches : ArgMatches) (terminals : Terminals) (status : ℕ) : Type 0 where
  said : (options : Options) → AreOptions matches terminals options → IsOfOptions options status
      → IsOfMatches matches terminals status
  refused : IsOfFault matches status → IsOfMatches matches terminals status

-- ---- words that were not matched

-- words ask for help or the version
abbrev pub AsksHow : ErrorKind → Type 0
AsksHow kind = (kind ≡ DisplayHelp) ⊎ (kind ≡ DisplayVersion)

-- a status is 0 where words ask for help or the version, and 4 where they are wrong; or it is 5, as
-- memory or the output failed
pub record IsUsage (kind : ErrorKind) (status : ℕ) : Type 0 where
  pub one : (status ≡ 0) ⊎ (status ≡ 4) ⊎ (status ≡ 5)
  pub told : AsksHow kind → status ≢ 4
  pub wrong : (AsksHow kind → ⊥) → status ≢ 0
  pub memory : kind ≡ OutOfMemory → status ≡ 5

-- words ask for a check
abbrev pub ask_for_check : List (List ℕ) → Bool
ask_for_check words = list_any (λ word. bytes_eq word (codes "--check")) words

-- a status is one of usage, in the form of a check where the words ask for one
pub record IsOfError (kind : ErrorKind) (words : List (List ℕ)) (status : ℕ) : Type 0 where
  pub plain : ℕ
  pub usage : IsUsage kind plain
  pub form : status ≡ in_form (ask_for_check words) plain

-- ---- the program

-- the status of words, whatever they are
pub data IsOfWords (terminals : Terminals) (status : ℕ) : Type 0 where
  matched : (matches : ArgMatches) → IsOfMatches matches terminals status
      → IsOfWords terminals status
  unmatched : (kind : ErrorKind) (words : List (List ℕ)) → IsOfError kind words status
      → IsOfWords terminals status

-- the status of the program: that of its words, or 5 where the system did not give them
abbrev pub IsOfProgram : Terminals → ℕ → Type 0
IsOfProgram terminals status = (status ≡ 5) ⊎ IsOfWords terminals status
