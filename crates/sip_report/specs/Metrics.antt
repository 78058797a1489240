-- What became of a text as metrics, in the text format of Prometheus.
use Rattle.std.specs.Prelude.{ℕ, ◌==◌, ◌+◌, ◌/◌, ◌%◌, List, [], ◌∷◌, ◌++◌, codes, length, if◌then◌else◌}
use Rattle.std.specs.Fmt.{decimal}
use Rattle.std.specs.List.{flat_map}
use Rattle.sip_report.specs.Escapes.{shown}
use Rattle.sip_report.specs.Lines.{status_of}
use Rattle.sip_report.specs.declared.line_outcome.LineOutcome.{LineOutcome}
use Rattle.sip_report.specs.declared.line_outcome.LineOutcome.TheVariants as line_outcome
use Rattle.sip_resolver.specs.declared.outcome.Outcome.TheVariants as outcome

-- an octet of the value of a label: a quote and a backslash have a backslash in front
abbrev pub label_octet : ℕ → List ℕ
label_octet octet =
    if octet == 34 then 92 ∷ 34 ∷ []
    else (if octet == 92 then 92 ∷ 92 ∷ [] else octet ∷ [])

-- a text as the value of a label: as it is shown, so it has no line end
abbrev pub label_of : List ℕ → List ℕ
label_of text = flat_map label_octet (shown text)

-- the three digits of a number of thousandths
abbrev pub thousandths : ℕ → List ℕ
thousandths number = (48 + number / 100) ∷ (48 + number / 10 % 10) ∷ (48 + number % 10) ∷ []

-- milliseconds as seconds
abbrev pub seconds : ℕ → List ℕ
seconds milliseconds = decimal (milliseconds / 1000) ++ 46 ∷ thousandths (milliseconds % 1000)

-- the lines that say what a gauge counts, and that it is one
abbrev pub head : List ℕ → List ℕ → List ℕ
head name help =
    codes "# HELP " ++ name ++ 32 ∷ help ++ codes "\n# TYPE " ++ name ++ codes " gauge\n"

-- the line of its value
abbrev pub sample : List ℕ → List ℕ → List ℕ → List ℕ
sample name label value = name ++ codes "{uri=\"" ++ label ++ codes "\"} " ++ value ++ 10 ∷ []

-- a gauge of a text: what it counts, and its value
abbrev pub gauge : List ℕ → List ℕ → List ℕ → List ℕ → List ℕ
gauge name help label value = head name help ++ sample name label value

-- how many targets a text has
abbrev pub count_of : LineOutcome → ℕ
count_of (line_outcome.Became (outcome.Targets list)) = length list.targets
count_of (line_outcome.Became (outcome.Refused reason)) = 0
count_of (line_outcome.Became (outcome.NoAnswer question)) = 0
count_of (line_outcome.Became (outcome.NoServer question)) = 0
count_of (line_outcome.Became (outcome.BadReply question refusal)) = 0
count_of (line_outcome.Became outcome.Memory) = 0
count_of (line_outcome.Tried tries) = length tries.targets.items
count_of (line_outcome.NoSuchName name) = 0
count_of line_outcome.TimeOver = 0
count_of (line_outcome.Bad fault) = 0
count_of line_outcome.NotText = 0
count_of line_outcome.Memory = 0

-- the metrics of a text, by what became of it after so many milliseconds: its status, how many
-- targets it has, and the time
abbrev pub metrics_of : List ℕ → ℕ → LineOutcome → List ℕ
metrics_of text took line_outcome =
    gauge (codes "sipwhere_status") (codes "The exit status: 0 with targets.") (label_of text)
    (decimal (status_of line_outcome))
    ++ gauge (codes "sipwhere_targets") (codes "How many targets there are.") (label_of text)
    (decimal (count_of line_outcome))
    ++ gauge (codes "sipwhere_duration_seconds") (codes "How long it took.") (label_of text)
    (seconds took)
