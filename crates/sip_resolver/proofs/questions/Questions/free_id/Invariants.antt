use Rattle.sip_resolver.specs.Idle.{DrawsOut}
use Rattle.sip_resolver.proofs.questions.Questions.free_id.Given as goal

abbrev pub invariant-draws : goal.invariant-draws
invariant-draws g l = DrawsOut g.I.Ids.draws l.self l.fn.ids l._draw l.ids
