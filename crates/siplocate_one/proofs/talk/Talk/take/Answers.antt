use Rattle.siplocate_one.proofs.Takings.{taken-of, read-of, bad-of}
use Rattle.siplocate_one.proofs.talk.Talk.take.Goals as goal

pub returns-clause-taken : goal.returns-clause-taken
returns-clause-taken g c =
    let decoded = rw (← c.deref.ensures.value) at c.in_ok-octets.ensures.found in
    taken-of c.args.self.now c.answer.new.self c.args.line.now c.deref.result.now decoded
    c.law_messages_decide.ensures.taken c.answer.result c.answer.ensures.given

pub returns-clause-read : goal.returns-clause-read
returns-clause-read g c =
    let decoded = rw (← c.deref.ensures.value) at c.in_ok-octets.ensures.found in
    read-of c.args.self.now c.answer.new.self c.args.line.now c.deref.result.now decoded
    c.law_messages_decide.ensures.taken c.law_messages_decide.ensures.refused c.answer.result c.answer.ensures.given
    c.answer.ensures.refused

pub returns-clause-bad : goal.returns-clause-bad
returns-clause-bad g c =
    let decoded = rw (← c.deref.ensures.value) at c.in_ok-octets.ensures.found in
    bad-of c.args.self.now c.answer.new.self c.args.line.now c.deref.result.now decoded c.answer.result
    c.answer.ensures.refused
