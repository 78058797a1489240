-- Where a choice stands, and what one that asks a question goes on from.
use Rattle.std.specs.Prelude.{List}
use Rattle.srv_choice.specs.Draws.{words_of}
use Rattle.sip_selection.specs.Choice.{Settled, chosen}
use Rattle.sip_selection.specs.Consulting.{asked_with}
use Rattle.sip_selection.specs.Known.{Given, Needing}
use Rattle.sip_selection.specs.Requests.{is_secure, request_of, target_of}
use Rattle.sip_selection.specs.Selections.{SelectionValue}
use Rattle.sip_selection.specs.Stages.{ComesTo, name_of, stage_left}
use Rattle.sip_selection.specs.declared.selection.Asked.{Asked}
use Rattle.sip_selection.specs.declared.stage.Step.{Step}
use Rattle.sip_selection.specs.declared.target.Target.{Target}

-- with the answers that it was given, a choice comes to this step with these targets
abbrev pub StandsAt : SelectionValue → Step → List Target → Type 0
StandsAt it = ComesTo (is_secure it.request) it.caps it.words (name_of (target_of it.request))
    it.given (chosen it.request it.caps it.words)

-- the choice, with the answers that were given
abbrev pub asking : Asked → List Given → SelectionValue
asking asked given =
    asked_with (request_of asked.request) asked.caps.now (words_of asked.words.now) given

-- what is left of it behind the targets that were found
abbrev pub left_after : Asked → List Target → List Given → Needing Settled
left_after asked =
    stage_left (is_secure (request_of asked.request)) asked.caps.now (words_of asked.words.now)
    asked.name.now asked.stage.now

-- what is left of it behind some targets comes to this step with these
abbrev pub ComesAfter : Asked → List Given → List Target → Step → List Target → Type 0
ComesAfter asked given before =
    ComesTo (is_secure (request_of asked.request)) asked.caps.now (words_of asked.words.now)
    asked.name.now given (left_after asked before)
