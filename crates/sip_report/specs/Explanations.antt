-- The lines of how targets came about. Each begins with `;`.
use Rattle.std.specs.Prelude.{ℕ, min, Bool, true, false, List, [], ◌∷◌, ◌++◌, codes, Option, Some, None}
use Rattle.std.specs.Fmt.{decimal}
use Rattle.std.specs.List.{flat_map}
use Rattle.dns_message.specs.declared.naptr.NaptrRecord.{NaptrRecord}
use Rattle.resolution_paths.specs.Paths.{first_to}
use Rattle.resolution_paths.specs.declared.path.ResolutionPath.{ResolutionPath}
use Rattle.resolution_paths.specs.declared.path.ServiceRecord.{ServiceRecord}
use Rattle.sip_resolver.specs.declared.outcome.Outcome.{Outcome}
use Rattle.sip_resolver.specs.declared.outcome.Outcome.TheVariants as outcome
use Rattle.sip_selection.specs.declared.target.Target.{Target}
use Rattle.sip_report.specs.Lines.{target_words}
use Rattle.sip_report.specs.RecordLines.{name_word, naptr_words, srv_words}
use Rattle.sip_report.specs.Rules.{place_rule}
use Rattle.sip_report.specs.declared.account.FirstCount.{FirstCount}
use Rattle.sip_report.specs.declared.account.Account.{Account}
use Rattle.sip_report.specs.declared.address.AddressForm.{AddressForm}
use Rattle.sip_report.specs.declared.line_outcome.LineOutcome.{LineOutcome}
use Rattle.sip_report.specs.declared.line_outcome.LineOutcome.TheVariants as line_outcome

-- ---- the targets of a text

-- the targets of a request by its outcome, if it has any
abbrev pub targets_of : Outcome → List Target
targets_of (outcome.Targets list) = list.targets
targets_of (outcome.Refused reason) = []
targets_of (outcome.NoAnswer question) = []
targets_of (outcome.NoServer question) = []
targets_of (outcome.BadReply question refusal) = []
targets_of outcome.Memory = []

-- the targets of a text, if it has any
abbrev pub targets_in : LineOutcome → List Target
targets_in (line_outcome.Became outcome) = targets_of outcome
targets_in (line_outcome.Tried tries) = tries.targets.items
targets_in (line_outcome.NoSuchName name) = []
targets_in line_outcome.TimeOver = []
targets_in (line_outcome.Bad refusal) = []
targets_in line_outcome.NotText = []
targets_in line_outcome.Memory = []

-- ---- how a target came

-- the rule by which SRV records are found: that of NAPTR records, where one names them (RFC 3263
-- 4.1, 4.2)
abbrev pub service_rule : Bool → Option NaptrRecord → List ℕ
service_rule via None = place_rule via (codes "servers")
service_rule via (Some rule) = codes "services, RFC 3263 4.1"

-- the rule by which a path leads to addresses
abbrev pub path_rule : Bool → Option ServiceRecord → List ℕ
path_rule via None = place_rule via (codes "addresses")
path_rule via (Some it) = service_rule via it.rule

-- the line of a NAPTR record, if there is one
abbrev pub naptr_line : Option NaptrRecord → List ℕ
naptr_line None = []
naptr_line (Some rule) = codes ";   NAPTR " ++ naptr_words rule ++ 10 ∷ []

-- the line of an SRV record, behind the name of its service
abbrev pub srv_line : ServiceRecord → List ℕ
srv_line it = codes ";   " ++ name_word it.service ++ codes "SRV " ++ srv_words it.server ++ 10 ∷ []

-- the lines of the records of a service, if there is one
abbrev pub service_lines : Option ServiceRecord → List ℕ
service_lines None = []
service_lines (Some it) = naptr_line it.rule ++ srv_line it

-- a rule in parentheses
abbrev pub in_parentheses : List ℕ → List ℕ
in_parentheses rule = codes " (" ++ rule ++ codes ")"

-- What is said of a target to which no path leads: its address is written, where there is no path.
-- Else the answers by which it came may not be kept.
abbrev pub unkept : Bool → List ResolutionPath → List ℕ
unkept via [] = in_parentheses (place_rule via (codes "as written"))
unkept via (path ∷ paths) = codes ", ttl 0"

-- what is said of a target: by which rule a path leads to it, for how many seconds its answers may
-- be kept, and its records
abbrev pub came_by : Bool → List ResolutionPath → Option (ResolutionPath × ℕ) → List ℕ
came_by via paths None = unkept via paths ++ 10 ∷ []
came_by via paths (Some (path, life)) =
    in_parentheses (path_rule via path.service) ++ codes ", ttl " ++ decimal life ++ 10 ∷ []
    ++ service_lines path.service

-- the lines of how a target came, by the first path that leads to it
abbrev pub explained : AddressForm → Bool → List ResolutionPath → Target → List ℕ
explained form via paths target =
    codes "; " ++ target_words form target ++ came_by via paths (first_to target paths)

-- ---- how often a target came first

-- what is said of the weight of a target (RFC 2782), if a record that has one leads to it
abbrev pub weight_words : Option ServiceRecord → List ℕ
weight_words None = []
weight_words (Some it) =
    codes ", priority " ++ decimal it.server.priority ++ codes ", weight "
    ++ decimal it.server.weight

-- the same, by the path that leads to the target, if there is one
abbrev pub weight_by : Option (ResolutionPath × ℕ) → List ℕ
weight_by None = []
weight_by (Some (path, life)) = weight_words path.service

-- in how many of so many draws a target came first
abbrev pub count_words : ℕ → ℕ → List ℕ
count_words times draws =
    (codes " first in " ++ decimal times) ++ codes " of " ++ decimal draws ++ codes " draws"

-- the line of a target that came first in some of so many draws
abbrev pub drawn_line : AddressForm → List ResolutionPath → ℕ → FirstCount → List ℕ
drawn_line form paths draws first =
    codes "; " ++ target_words form first.target ++ count_words first.times draws
    ++ weight_by (first_to first.target paths) ++ 10 ∷ []

-- ---- both

-- the lines of how targets came, where they are asked for
abbrev pub explanation_of : Bool → AddressForm → Bool → List ResolutionPath → List Target → List ℕ
explanation_of true form via paths targets = flat_map (explained form via paths) targets
explanation_of false form via paths targets = []

-- the lines of the account of a text: how its targets came, where that is asked for, and which of
-- them came first how often, where that was tried
abbrev pub account_lines : Bool → AddressForm → Bool → Account → List Target → List ℕ
account_lines explains form via account targets =
    explanation_of explains form via account.paths.items targets
    ++ flat_map (drawn_line form account.paths.items account.draws) account.firsts.items

-- ---- for how long

-- For how many seconds a target may be kept: as long as the answers of the path that was found.
-- Where there are paths, but none that leads to it, the answers by which it came may not be kept.
abbrev pub life_in : List ResolutionPath → Option (ResolutionPath × ℕ) → Option ℕ
life_in [] None = None
life_in (path ∷ paths) None = Some 0
life_in paths (Some (path, life)) = Some life

-- the least of two lives, where there are two
abbrev pub least_of : Option ℕ → Option ℕ → Option ℕ
least_of None other = other
least_of (Some life) None = Some life
least_of (Some life) (Some other) = Some (min life other)

-- for how many seconds the answers may be kept by which targets came; nothing, where none did
abbrev pub least_life : List ResolutionPath → List Target → Option ℕ
least_life paths [] = None
least_life paths (target ∷ targets) =
    least_of (life_in paths (first_to target paths)) (least_life paths targets)
