use Rattle.sip_selection.specs.Requests.{is_secure, request_of}
use Rattle.sip_selection.proofs.Choosing.{stage-asks}
use Rattle.sip_selection.proofs.Consulting.{extends-more}
use Rattle.sip_selection.proofs.selection.go_on.Goals as goal
use Rattle.srv_choice.specs.Draws.{words_of}

pub resumed-requires-clause-needs : goal.resumed-requires-clause-needs
resumed-requires-clause-needs g c = λ all question extends is.
    let a = c.args in
    let it = a.asked.now in
    c.requires.needs all question extends
    (stage-asks it.caps.now (words_of it.words.now) it.name.now all question (is_secure (request_of it.request)) it.stage.now _
    a.targets.now.items is)

pub returns-clause-goes : goal.returns-clause-goes
returns-clause-goes g c =
    rw (c.in_ok-keep.ensures.targets, c.in_ok-keep.ensures.known) (c.in_ok-step.ensures.goes c.args.targets.now.items)

pub returns-clause-extends : goal.returns-clause-extends
returns-clause-extends g c = rw c.in_ok-keep.ensures.known (extends-more c.args.known.now _)
