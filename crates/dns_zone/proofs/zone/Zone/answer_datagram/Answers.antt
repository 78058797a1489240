use Rattle.std.proofs.Common.{inl, inr, ap, ◌∙◌}
use Rattle.std.proofs.lemmas.Result.{err_from_is_err_and}
use Rattle.dns_message.specs.declared.header.Header.{Header}
use Rattle.dns_zone.specs.Replies.{IsQuery, Replies, reply_to}
use Rattle.dns_zone.proofs.Headers.{reply_headed, reply_is, fitted-keeps}
use Rattle.dns_zone.proofs.zone.Zone.answer_datagram.Goals as goal
use Rattle.dns_zone.proofs.zone.Zone.answer_datagram.Goals.{In-Some, In_ok-reply, In_ok-write_reply}

is_query : (c : In-Some) → IsQuery c.args.octets.now c.in-Some.query
is_query c = rw c.in-Some.is at c.in_ok-query.ensures.found

replies : (c : In_ok-write_reply) → Replies c.args.self.now c.in-Some.query c.in_ok-write_reply.field-0.items
replies c =
    let wrote = c.in_ok-write_reply.ensures in
    reply_is c.args.self.now c.in-Some.query c.in_ok-reply.reply c.in_ok-write_reply.field-0.items c.in_ok-reply.ensures wrote.written
    wrote.spells wrote.short

pub returns-in_err-query : goal.returns-in_err-query
returns-in_err-query c =
    let r = err_from_is_err_and c.from_residual.result c.from_residual.ensures.1 in
    rw r.1 (record {
      silent = λ none. absurd cc;
      quiet = λ _. tt;
      replied = λ _ _. tt;
      found = tt;
      reply = tt;
      memory = inl c.in_err-query.ensures.memory;
    })

pub returns-in_err-reply : goal.returns-in_err-reply
returns-in_err-reply c =
    let r = err_from_is_err_and c.from_residual-in_err-reply.result c.from_residual-in_err-reply.ensures.1 in
    rw r.1 (record {
      silent = λ none. absurd cc;
      quiet = λ _. tt;
      replied = λ _ _. tt;
      found = tt;
      reply = tt;
      memory = inr (c.in-Some.query, is_query (goal.at.returns-in_err-reply c).In-Some);
    })

pub returns-in_err-write_reply : goal.returns-in_err-write_reply
returns-in_err-write_reply c =
    let r = err_from_is_err_and c.from_residual-in_err-write_reply.result c.from_residual-in_err-write_reply.ensures.1 in
    rw r.1 (record {
      silent = λ none. absurd cc;
      quiet = λ _. tt;
      replied = λ _ _. tt;
      found = tt;
      reply = tt;
      memory = inr (c.in-Some.query, is_query (goal.at.returns-in_err-write_reply c).In-Some);
    })

pub returns-in_default-clause-replied : goal.returns-in_default-clause-replied
returns-in_default-clause-replied c = rw c.in_default.is at c.in_ok-query.ensures.found

pub write_reply-requires-clause-rcode : goal.write_reply-requires-clause-rcode
write_reply-requires-clause-rcode c =
    let headed = reply_headed c.args.self.now c.in-Some.query in
    let type_number = ap (λ (header : Header). header.rcode) headed.header in
    rw (c.in_ok-reply.ensures, type_number) headed.low

pub returns-clause-quiet : goal.returns-clause-quiet
returns-clause-quiet c = λ silent. absurd (silent c.in-Some.query (is_query (goal.at.returns-clause-quiet c).In-Some))

pub returns-clause-replied : goal.returns-clause-replied
returns-clause-replied c = λ query is.
    let here = is_query (goal.at.returns-clause-replied c).In-Some in
    let same = c.law_one_message_in_front.ensures c.args.octets.now here.begins.end is.begins.end c.in-Some.query query here.begins.spelled
    is.begins.spelled in
    rw (← same) (replies (goal.at.returns-clause-replied c).In_ok-write_reply)

pub returns-clause-found : goal.returns-clause-found
returns-clause-found c =
    (c.in-Some.query, is_query (goal.at.returns-clause-found c).In-Some, replies (goal.at.returns-clause-found c).In_ok-write_reply)

pub returns-clause-reply : goal.returns-clause-reply
returns-clause-reply c =
    let query = c.in-Some.query in
    let reply = reply_to c.args.self.now query in
    let headed = reply_headed c.args.self.now query in
    let keeps = fitted-keeps reply in
    let written = replies (goal.at.returns-clause-reply c).In_ok-write_reply in (
      query,
      is_query (goal.at.returns-clause-reply c).In-Some,
      record {
        short = written.short;
        reply = _;
        spelled = written.spells;
        replies = keeps.0 ∙ ap (λ (header : Header). header.reply) headed.header;
        same_id = keeps.1 ∙ ap (λ (header : Header). header.id) headed.header;
      },
    )
