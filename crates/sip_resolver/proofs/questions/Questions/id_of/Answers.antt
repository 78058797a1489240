use Rattle.std.proofs.Common.{inl, ◌∙◌, sym}
use Rattle.sip_resolver.proofs.Awaiting.{streams-out}
use Rattle.sip_resolver.proofs.Indexing.{lacks-out, told-out}
use Rattle.sip_resolver.specs.QuestionTables.{id_in}
use Rattle.sip_resolver.proofs.questions.Questions.id_of.Goals as goal

pub returns-in-Some-clause-out : goal.returns-in-Some-clause-out
returns-in-Some-clause-out c =
    rw (← c.self.view_is)
    (inl (told-out (id_in c.self.inside.datagram_ids) c.self.inside.datagrams.tickets c.args.question.now c.in-Some.id
    c.self.invariant.datagrams (sym c.get.ensures ∙ c.in-Some.is)))

pub returns-clause-out : goal.returns-clause-out
returns-clause-out c =
    rw (← c.self.view_is, c.get-2.ensures)
    (streams-out (record { datagrams = c.self.inside.datagrams; streams = c.self.inside.streams })
    (id_in c.self.inside.stream_ids c.args.question.now) (c.self.invariant.streams.is_out c.args.question.now))

pub returns-clause-lacks : goal.returns-clause-lacks
returns-clause-lacks c = λ none.
    rw (← c.self.view_is)
    (record {
      datagrams = lacks-out (id_in c.self.inside.datagram_ids) c.self.inside.datagrams.tickets c.args.question.now
          c.self.invariant.datagrams (sym c.get.ensures ∙ c.in_default.is);
      streams = lacks-out (id_in c.self.inside.stream_ids) c.self.inside.streams.tickets c.args.question.now
          c.self.invariant.streams (sym c.get-2.ensures ∙ none);
    })
