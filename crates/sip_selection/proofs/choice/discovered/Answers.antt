use Rattle.std.proofs.Common.{◌∙◌, sym}
use Rattle.srv_choice.specs.Draws.{words_of}
use Rattle.sip_selection.specs.Choice.{by_naptr}
use Rattle.sip_selection.proofs.Choosing.{naptr-asks}
use Rattle.sip_selection.proofs.choice.discovered.Goals as goal

pub by_naptr-requires-clause-needs : goal.by_naptr-requires-clause-needs
by_naptr-requires-clause-needs g c = λ all question extends is.
    c.requires.needs all question extends (rw (sym c.offered_default.ensures ∙ c.in-Ok.is) is)

pub by_naptr-requires-in-Err-clause-needs : goal.by_naptr-requires-in-Err-clause-needs
by_naptr-requires-in-Err-clause-needs g c = λ all question extends is.
    let b = c.args.context.now in
    c.requires.needs all question extends (rw (sym c.offered_default.ensures ∙ c.in-Err.is)
    (naptr-asks b.secure c.in-Err.field-0 (by_naptr b.secure b.caps.now (words_of b.words.now) all b.name.now) question
    c.if-not-context.true is))
