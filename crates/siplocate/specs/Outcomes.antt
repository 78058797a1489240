-- What the program prints of many requests.
use Rattle.std.specs.Prelude.{ℕ, Bool, true, false, List, [], ◌∷◌, ◌++◌, ◌+◌, codes, if◌then◌else◌}
use Rattle.std.specs.Fmt.{decimal}
use Rattle.std.specs.List.{flat_map, list_any, list_all}
use Rattle.sip_selection.specs.declared.target.Target.{Target}
use Rattle.sip_resolver.specs.declared.outcome.Outcome.{Outcome}
use Rattle.sip_resolver.specs.declared.outcome.Outcome.TheVariants as outcome
use Rattle.sip_report.specs.Lines.{question_words, reason_word, request_word}
use Rattle.siplocate_one.specs.Words.{refusal_word, target_line}
use Rattle.siplocate.specs.declared.line_outcome.LineOutcome.{LineOutcome}
use Rattle.siplocate.specs.declared.line_outcome.LineOutcome.TheVariants as line_outcome

-- a line that begins with a number
abbrev pub numbered : ℕ → List ℕ → List ℕ
numbered number text = decimal number ++ 32 ∷ text

-- the lines of an outcome, each after the number of its request
abbrev pub outcome_lines : ℕ → Outcome → List ℕ
outcome_lines number (outcome.Targets list) =
    flat_map (λ (target : Target). numbered number (target_line target)) list.targets
outcome_lines number (outcome.Refused reason) =
    numbered number (codes "refused " ++ reason_word reason ++ 10 ∷ [])
outcome_lines number (outcome.NoAnswer question) =
    numbered number (codes "gaveup " ++ question_words question ++ 10 ∷ [])
outcome_lines number (outcome.NoServer question) =
    numbered number (codes "gaveup " ++ question_words question ++ 10 ∷ [])
outcome_lines number (outcome.BadReply question refusal) =
    numbered number (codes "badreply " ++ question_words question ++ 32 ∷ refusal_word refusal
    ++ 10 ∷ [])
outcome_lines number outcome.Memory = numbered number (codes "fault memory\n")

-- the lines of what became of a line
abbrev pub line_outcome_lines : ℕ → LineOutcome → List ℕ
line_outcome_lines number (line_outcome.Became outcome) = outcome_lines number outcome
line_outcome_lines number (line_outcome.Bad refusal) = numbered number
    (codes "bad " ++ request_word refusal
    ++ 10 ∷ [])

-- the lines of what became of lines that are numbered from this number on
abbrev pub shown_from : ℕ → List LineOutcome → List ℕ
shown_from number [] = []
shown_from number (line_outcome ∷ line_outcomes) = line_outcome_lines number line_outcome ++
    shown_from (number + 1) line_outcomes

-- ---- the status

-- a line became targets
abbrev pub has_targets : LineOutcome → Bool
has_targets (line_outcome.Became (outcome.Targets list)) = true
has_targets (line_outcome.Became (outcome.Refused reason)) = false
has_targets (line_outcome.Became (outcome.NoAnswer question)) = false
has_targets (line_outcome.Became (outcome.NoServer question)) = false
has_targets (line_outcome.Became (outcome.BadReply question refusal)) = false
has_targets (line_outcome.Became outcome.Memory) = false
has_targets (line_outcome.Bad refusal) = false

-- a line became nothing, since memory was refused
abbrev pub lacks_memory : LineOutcome → Bool
lacks_memory (line_outcome.Became (outcome.Targets list)) = false
lacks_memory (line_outcome.Became (outcome.Refused reason)) = false
lacks_memory (line_outcome.Became (outcome.NoAnswer question)) = false
lacks_memory (line_outcome.Became (outcome.NoServer question)) = false
lacks_memory (line_outcome.Became (outcome.BadReply question refusal)) = false
lacks_memory (line_outcome.Became outcome.Memory) = true
lacks_memory (line_outcome.Bad refusal) = false

-- the exit status of a run: 5 where memory was refused for a request, 0 where each has targets,
-- else 2
abbrev pub status_of_all : List LineOutcome → ℕ
status_of_all line_outcomes =
    if list_any lacks_memory line_outcomes then 5 else
    (if list_all has_targets line_outcomes then 0 else 2)
