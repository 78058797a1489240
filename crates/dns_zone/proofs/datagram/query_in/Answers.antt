use Rattle.std.proofs.Common.{sym, ap, ◌∙◌, true≢false}
use Rattle.std.proofs.lemmas.Result.{err_from_is_err_and}
use Rattle.dns_message.specs.declared.message.Message.{Message}
use Rattle.dns_zone.proofs.datagram.query_in.Goals as goal

pub returns-in-Some-clause-found : goal.returns-in-Some-clause-found
returns-in-Some-clause-found c = λ query is.
    let here = rw c.in-Some.is at c.in_ok-message.ensures.read in
    let same = c.law_one_message_in_front.ensures c.args.octets.now here.end is.begins.end c.in-Some.message query here.spelled
    is.begins.spelled in
    absurd (true≢false (sym c.if-branch.true ∙ ap (λ (message : Message). message.header.reply) same ∙ is.asks))

pub returns-in-Some-2-clause-found : goal.returns-in-Some-2-clause-found
returns-in-Some-2-clause-found c = record { begins = rw c.in-Some.is at c.in_ok-message.ensures.read; asks = c.if-branch.false }

pub returns-in-None-clause-found : goal.returns-in-None-clause-found
returns-in-None-clause-found c = λ query is. let none = rw c.in-None.is at c.in_ok-message.ensures.read in none query is.begins

pub returns-in_err-message-clause-memory : goal.returns-in_err-message-clause-memory
returns-in_err-message-clause-memory c =
    let r = err_from_is_err_and c.from_residual.result c.from_residual.ensures.1 in
    rw r.1 c.in_err-message.ensures.wanted_name
