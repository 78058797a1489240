use Rattle.std.proofs.Common.{[]}
use Rattle.srv_choice.specs.Draws.{words_of}
use Rattle.sip_selection.proofs.Beginning.{err-each}
use Rattle.sip_selection.proofs.Consulting.{nobody-says, nothing-asked}
use Rattle.sip_selection.proofs.Steps.{not-refused}
use Rattle.sip_selection.proofs.selection.Selection.with_words.Goals as goal

pub at_step-requires-clause-stands : goal.at_step-requires-clause-stands
at_step-requires-clause-stands c =
    let consulted = rw (c.after-walk.ensures.known, c.new-none.ensures) at c.begin.ensures.consulted in
    rw c.new.ensures (rw (nobody-says consulted) at c.in_ok-step.ensures.comes)

pub at_step-requires-clause-asked : goal.at_step-requires-clause-asked
at_step-requires-clause-asked c = rw c.new.ensures (nothing-asked c.args.request c.args.caps (words_of c.args.words.now))

pub returns-clause-memory : goal.returns-clause-memory
returns-clause-memory c =
    let a = c.args in
    let consulted = rw (c.after-walk.ensures.known, c.new-none.ensures) at c.begin.ensures.consulted in
    err-each (λ asking. not-refused a.request a.caps (words_of a.words.now) [] _ c.in_ok-step.step asking
    (rw (nobody-says consulted) at c.in_ok-step.ensures.comes)) c.at_step.result c.at_step.ensures.memory
