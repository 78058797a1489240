use Rattle.std.proofs.Common.{◌≡◌, Some, sym, ap, ◌∙◌, arith}
use Rattle.dns_answers.specs.Chains.{chain}
use Rattle.dns_answers.specs.Kept.{kept, records_of}
use Rattle.dns_answers.specs.Records.{count_of}
use Rattle.dns_answers.specs.Lives.{ttls, absent_life, negative_ttl_of}
use Rattle.dns_answers.proofs.AnswerParts.{absent, bounds}
use Rattle.dns_answers.proofs.LeastLives.{least-le}
use Rattle.dns_answers.proofs.NegativeLives.{absent_along}
use Rattle.dns_answers.proofs.reply.answer_in.Goals as goal

pub returns-then-is_empty : goal.returns-then-is_empty
returns-then-is_empty c =
    let question = c.args.question.now in
    let message = c.args.message.now in
    let end = c.in-Some.ensures in
    let last = c.in-Some.end.name.now in
    let section = c.as_slice-section.ensures in
    let life = c.min.result in
    let chain_is : chain message.answers question.name ≡ Some (record { links = end.0; last = last }) = rw (← section) end.1 in
    let records_are : c.in_ok-records.records ≡ records_of question.kind (kept question.kind last message.answers) =
    rw (← section) c.in_ok-records.ensures.0 in
    let none : count_of c.in_ok-records.records ≡ 0 = c.is_empty.ensures.0 c.if-is_empty.true in
    let limit : c.negative_ttl_of-limit.result ≡ negative_ttl_of message.authority =
    rw (← c.as_slice.ensures) c.negative_ttl_of-limit.ensures in
    let life_is : life ≡ absent_life message (Some (record { links = end.0; last = last })) =
    c.min.ensures ∙ rw (end.2, limit) (absent_along message end.0 last) in
    rw (c.of-then-is_empty.ensures, records_are)
    (sym (absent question message end.0 last chain_is life (ap count_of (sym records_are) ∙ none) life_is))

pub of-requires-then-is_empty : goal.of-requires-then-is_empty
of-requires-then-is_empty c =
    let question = c.args.question.now in
    let end = c.in-Some.ensures in
    let last = c.in-Some.end.name.now in
    let found = c.in_ok-records.ensures in
    let bounded = bounds question.kind last c.as_slice-section.result.now end.0 c.in-Some.end.life c.in_ok-records.life end.2 found.1 in
    record {
      few = rw found.0 bounded.few;
      short = omega (arith, c.min.ensures, end.2, least-le 2147483647 (ttls end.0));
    }

pub of-requires-2 : goal.of-requires-2
of-requires-2 c =
    let question = c.args.question.now in
    let end = c.in-Some.ensures in
    let last = c.in-Some.end.name.now in
    let found = c.in_ok-records.ensures in
    rw found.0 (bounds question.kind last c.as_slice-section.result.now end.0 c.in-Some.end.life c.in_ok-records.life end.2 found.1)
