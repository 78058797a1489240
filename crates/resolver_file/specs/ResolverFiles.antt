-- What the system's resolver file says in all (resolv.conf(5)).
use Rattle.std.specs.Prelude.{◌≡◌, ℕ, ◌+◌, Bool, true, false, List, [], ◌∷◌, ◌++◌, map, take, Option, Some, None}
use Rattle.std.specs.List.{filter_map, list_any}
use Rattle.ip_text.specs.declared.address.Address.{Address}
use Rattle.ip_text.specs.declared.address.Address.TheVariants.{V4}
use Rattle.resolver_file.specs.ResolverLines.{LineSays, lines_of}
use Rattle.resolver_file.specs.declared.resolver_fact.Fact.{Fact}
use Rattle.resolver_file.specs.declared.resolver_fact.Fact.TheVariants.{Server, Timeout, Attempts, OverTcp, Rotate, Fault}
use Rattle.resolver_file.specs.declared.warning.LineWarning.{LineWarning}

-- the name servers, for how many seconds a reply is waited for and how often each is asked, where
-- options say so, whether over TCP alone, whether each query begins with the next server, and which
-- lines can't be read
pub record FileValue : Type 0 where
  pub servers : List Address
  pub timeout : Option ℕ
  pub attempts : Option ℕ
  pub over_tcp : Bool
  pub rotates : Bool
  pub warnings : List LineWarning

-- what a line of a number says
abbrev pub Said : Type 0
Said = ℕ × Fact

-- a fact, with the number of the line that says it
abbrev pub at_line : ℕ → Fact → Said
at_line number fact = (number, fact)

-- what the lines say in their order, the first one of which has this number
abbrev pub LinesSay : ℕ → List (List ℕ) → List Said → Type 0
LinesSay number [] said = said ≡ []
LinesSay number (line ∷ lines) said =
    (facts : List Fact) × (others : List Said) × (said ≡ map (at_line number) facts ++ others)
    × LineSays line facts × LinesSay (number + 1) lines others

-- ---- what is said in all

-- the server that a fact names, if it names one
abbrev pub server_in : Said → Option Address
server_in (number, Server address) = Some address
server_in _ = None

-- the seconds that a fact gives for a reply, if it gives any
abbrev pub timeout_in : Said → Option ℕ
timeout_in (number, Timeout seconds) = Some seconds
timeout_in _ = None

-- how often each server is asked, if a fact says it
abbrev pub attempts_in : Said → Option ℕ
attempts_in (number, Attempts count) = Some count
attempts_in _ = None

-- a fact says that queries go over TCP
abbrev pub is_over_tcp : Said → Bool
is_over_tcp (number, OverTcp) = true
is_over_tcp _ = false

-- a fact says that each query begins with the next server
abbrev pub is_rotate : Said → Bool
is_rotate (number, Rotate) = true
is_rotate _ = false

-- the warning of a line that can't be read, if a fact is one
abbrev pub warning_in : Said → Option LineWarning
warning_in (number, Fault fault) = Some (record { line = number; fault = fault })
warning_in _ = None

-- the last of these numbers, if there is one
abbrev pub last_of : List ℕ → Option ℕ
last_of [] = None
last_of (number ∷ []) = Some number
last_of (number ∷ other ∷ numbers) = last_of (other ∷ numbers)

-- what facts say in all: the first three servers, and of each number the last one
abbrev pub value_of : List Said → FileValue
value_of said = record {
  servers = take 3 (filter_map server_in said);
  timeout = last_of (filter_map timeout_in said);
  attempts = last_of (filter_map attempts_in said);
  over_tcp = list_any is_over_tcp said;
  rotates = list_any is_rotate said;
  warnings = filter_map warning_in said;
}

-- these servers, or that of the local host where there are none
abbrev pub or_local : List Address → List Address
or_local [] = V4 (127 ∷ 0 ∷ 0 ∷ 1 ∷ []) ∷ []
or_local (first ∷ others) = first ∷ others

-- what a file says, with the server of the local host where it names none
abbrev pub with_local : FileValue → FileValue
with_local file = record file { servers = or_local file.servers }

-- what the octets of a file say
abbrev pub FileSays : List ℕ → FileValue → Type 0
FileSays text file =
    (said : List Said) × LinesSay 1 (lines_of text) said × (file ≡ with_local (value_of said))
