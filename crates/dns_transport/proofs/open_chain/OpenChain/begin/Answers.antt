use Rattle.std.proofs.Common.{ℕ, List, Option, Some, None, Result, Ok, Err}
use Rattle.std.specs.Prelude.{IfOk, MatchOption}
use Rattle.dns_message.specs.Messages.{Begins}
use Rattle.dns_message.specs.declared.message.Message.{Message}
use Rattle.dns_message.specs.declared.question.Question.{Question}
use Rattle.dns_answers.specs.CutChains.{IsWhole}
use Rattle.dns_transport.specs.CnameChains.{Asks, Begun, IsNotCut, OpenValue}
use Rattle.dns_transport.specs.Steps.{GoesOn}
use Rattle.dns_transport.proofs.SameQueries.{OneMessage, one_message, one_query}
use Rattle.dns_transport.proofs.open_chain.OpenChain.begin.Goals as goal

if-found : {T E : Type 0} (absent other : Type 0) (P Q : T → Type 0) → (absent → other) → ((it : T) → P it → Q it)
    → (result : Result (Option T) E) → IfOk result (λ it. MatchOption it absent P) → IfOk result (λ it. MatchOption it other Q)
if-found absent other P Q not then (Ok None) is = not is
if-found absent other P Q not then (Ok (Some it)) is = then it is
if-found absent other P Q not then (Err fault) is = tt

not-cut : OneMessage → (octets reply : List ℕ) (id : ℕ) (question : Question) (message : Message) → Asks octets id question
    → Begins reply message → IsWhole question message 0 → IsNotCut octets reply
not-cut one octets reply id question message asked begun whole = λ other-id other other-message asks begins.
    let same-question = one_query one octets other-id id other question asks asked in
    let same-message = one_message one reply other-message message begins begun in
    rw (same-question, same-message) whole

begun-by : (octets reply : List ℕ) (id : ℕ) (question : Question) (message : Message) → Asks octets id question
    → Begins reply message → (it : OpenValue) → GoesOn octets id question message 0 it → Begun octets reply it
begun-by octets reply id question message asked begun it went = record {
  octets = went.query;
  asks = rw (went.is_id, went.asked) asked;
  read = rw went.so_far begun;
  goes_on = went.goes_on;
}

pub returns-in_default : goal.returns-in_default
returns-in_default c = λ id question message asks begins chain cut.
    let none : (id : ℕ) (it : Question) → Asks c.args.octets.now id it → ⊥ = rw c.in_default.is at c.in_ok-query.ensures in
    none id question asks

pub returns-in-None : goal.returns-in-None
returns-in-None c = λ id question message asks begins chain cut.
    let none : (it : Message) → Begins c.args.reply.now it → ⊥ = rw c.in-None.is at c.in_ok-so_far.ensures.read in
    none message begins

pub returns-in-Some-2 : goal.returns-in-Some-2
returns-in-Some-2 c =
    let one = c.law_one_message_in_front.ensures in
    let octets = c.args.octets.now in
    let reply = c.args.reply.now in
    let query = c.in-Some.query in
    let so_far = c.in-Some-2.so_far in
    let asked : Asks octets query.id query.question = rw c.in-Some.is at c.in_ok-query.ensures in
    let begun : Begins reply so_far = rw c.in-Some-2.is at c.in_ok-so_far.ensures.read in
    if-found (IsWhole query.question so_far 0) (IsNotCut octets reply) (GoesOn octets query.id query.question so_far 0)
    (Begun octets reply) (not-cut one octets reply query.id query.question so_far asked begun)
    (begun-by octets reply query.id query.question so_far asked begun) c.begin_by.result c.begin_by.ensures
