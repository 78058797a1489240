-- How what the code keeps is seen in the definitions. No public clause cites this module.
use Rattle.std.specs.Prelude.{ℕ, ◌++◌, nat_lt, List, [], ◌∷◌, length, Some, true, if◌then◌else◌}
use Rattle.resolver_file.specs.ResolverFiles.{FileValue}
use Rattle.resolver_file.specs.ResolverLines.{words_of}
use Rattle.resolver_file.specs.ResolverLines as spec
use Rattle.resolver_file.specs.declared.resolver_fact.Fact.{Fact}
use Rattle.resolver_file.specs.declared.resolver_fact.Fact.TheVariants.{Server, Timeout, Attempts, OverTcp, Rotate, Fault}
use Rattle.resolver_file.specs.declared.resolver_line.LineForm.{LineForm}
use Rattle.resolver_file.specs.declared.resolver_line.LineForm.TheVariants.{Nothing, Server as server, Options, Faulty}

abbrev pub form_value : LineForm → spec.LineForm
form_value Nothing = spec.nothing
form_value (server word) = spec.server word.now
form_value (Options text) = spec.options (words_of text.now)
form_value (Faulty fault) = spec.faulty fault

-- a file that says one thing more
abbrev pub with_fact : ℕ → Fact → FileValue → FileValue
with_fact number (Server address) file =
    if nat_lt (length file.servers) 3
    then record file { servers = file.servers ++ address ∷ [] } else file
with_fact number (Timeout seconds) file = record file { timeout = Some seconds }
with_fact number (Attempts count) file = record file { attempts = Some count }
with_fact number OverTcp file = record file { over_tcp = true }
with_fact number Rotate file = record file { rotates = true }
with_fact number (Fault fault) file =
    record file { warnings = file.warnings ++ record { line = number; fault = fault } ∷ [] }

-- the same of all that a line says
abbrev pub with_facts : ℕ → List Fact → FileValue → FileValue
with_facts number [] file = file
with_facts number (fact ∷ facts) file = with_facts number facts (with_fact number fact file)
