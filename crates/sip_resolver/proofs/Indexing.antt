-- The table of the questions that are out, while some are asked, sent again, given up and closed.
use Rattle.std.proofs.Common.{◌≡◌, ◌≢◌, ◌↔◌, ℕ, Bool, true, false, not, List, [], ◌∷◌, get_or, Option, Some, None, IsTrue, refl, sym, ◌∙◌, rules}
use Rattle.std.specs.List.{All, AllPairs}
use Rattle.std.specs.Map.{update}
use Rattle.std.specs.Option.{IfSome, IsSome}
use Rattle.std.proofs.lemmas.List.Elements.{All-filter, All-head, All-nil, All-tail, filter_passes}
use Rattle.dns_message.specs.Questions.{same_question}
use Rattle.dns_message.specs.declared.question.Question.{Question}
use Rattle.dns_queries.proofs.Listing.{found-has}
use Rattle.dns_queries.specs.Events.{IsGivenUp, IsResent, Means, again, closed}
use Rattle.dns_queries.specs.Out.{HasQuestion, LacksQuestion}
use Rattle.dns_queries.specs.Tickets.{Asking, Ticket, has_id, ticket_of, waiting_too, without}
use Rattle.dns_queries.specs.declared.incoming.Ending.{Ending}
use Rattle.dns_queries.specs.declared.incoming.Incoming.TheVariants.{Ended}
use Rattle.dns_queries.specs.declared.schedule.Schedule.{Schedule}
use Rattle.sip_resolver.proofs.Apart.{all-too, pairs-head}
use Rattle.sip_resolver.proofs.Awaiting.{has-asked, stays-again, stays-asked, stays-closed, stays-rest}
use Rattle.sip_resolver.specs.QuestionTables.{IsIndex}
use Rattle.sip_resolver.specs.Questions.{Differ}

some-on : (P Q : ℕ → Type 0) → ((id : ℕ) → P id → Q id) → (found : Option ℕ) → IfSome found P → IfSome found Q
some-on P Q on None it = tt
some-on P Q on (Some id) it = on id it

none-here : (id : ℕ) (tickets : List Ticket) → ticket_of id tickets ≡ None → IsSome (ticket_of id tickets) → ⊥
none-here id tickets none some = let no = rw none at some in cc

module _ (same : (one other : Question) → IsTrue (same_question one other) ↔ (one ≡ other)) (old new : Question → Option ℕ) where
  differs : (one other : Question) (is : Bool) → same_question one other ≡ is → one ≢ other → same_question one other ≡ false
  differs one other true is not-same = absurd (not-same ((same one other).0 is))
  differs one other false is not-same = is

  -- one more, or one less
  module _ (question : Question) (given : Option ℕ) (put : (other : Question) → new other ≡ update same_question old question given other) where
    at-it : new question ≡ given
    at-it = let is = (same question question).1 refl in put question ∙ (rw is refl)

    at-other : (other : Question) → question ≢ other → new other ≡ old other
    at-other other not-it = let is = differs question other (same_question question other) refl not-it in put other ∙ (rw is refl)

  -- ---- one more

  module _ (ticket : Ticket) (tickets : List Ticket)
      (put : (other : Question) → new other ≡ update same_question old ticket.sent.question (Some ticket.sent.id) other)
      (free : ticket_of ticket.sent.id tickets ≡ None) (it : IsIndex old tickets) where
    abbrev question : Question
    question = ticket.sent.question

    out-by : (other : Question) (is : Bool) → same_question question other ≡ is
        → IfSome (new other) (λ id. IsSome (ticket_of id (waiting_too ticket tickets)))
    out-by other true is = rw (put other, is) (has-asked ticket tickets)
    out-by other false is =
        rw (put other, is)
        (some-on (λ id. IsSome (ticket_of id tickets)) (λ id. IsSome (ticket_of id (waiting_too ticket tickets)))
        (λ id some. stays-asked id ticket tickets some) (old other) (it.is_out other))

    not-there : (other : Question) → old other ≡ Some ticket.sent.id → ⊥
    not-there other there = none-here ticket.sent.id tickets free (rw there at (it.is_out other))

    single-by : (one other : Question) (id : ℕ) (first second : Bool) → same_question question one ≡ first
        → same_question question other ≡ second → new one ≡ Some id → new other ≡ Some id → one ≡ other
    single-by one other id true true is also e f = sym ((same question one).0 is) ∙ (same question other).0 also
    single-by one other id true false is also e f =
        let here : Some ticket.sent.id ≡ Some id = rw (put one, is) at e in
        let there : old other ≡ Some id = rw (put other, also) at f in
        absurd (not-there other (there ∙ sym here))
    single-by one other id false true is also e f =
        let here : Some ticket.sent.id ≡ Some id = rw (put other, also) at f in
        let there : old one ≡ Some id = rw (put one, is) at e in
        absurd (not-there one (there ∙ sym here))
    single-by one other id false false is also e f =
        it.single one other id (rw (put one, is) at e) (rw (put other, also) at f)

    pub index-asked : LacksQuestion question tickets → IsIndex new (waiting_too ticket tickets)
    index-asked lacks = record {
      has = all-too ticket tickets (λ it. new it.sent.question ≡ Some it.sent.id) (at-it question (Some ticket.sent.id) put)
          (λ k d small.
          at-other question (Some ticket.sent.id) put (get_or tickets k d).sent.question (λ e. lacks k d small (sym e))
          ∙ it.has k d small);
      is_out = λ other. out-by other (same_question question other) refl;
      single = λ one other id e f.
          single-by one other id (same_question question one) (same_question question other) refl refl e f;
    }

  -- ---- one less

  module _ (question : Question) (id : ℕ) (put : (other : Question) → new other ≡ update same_question old question None other)
      (tickets : List Ticket) (there : old question ≡ Some id) (it : IsIndex old tickets) where
    kept-by : (other : Question) (found : ℕ) (is : Bool) → same_question question other ≡ is → new other ≡ Some found
        → (old other ≡ Some found) × (found ≢ id)
    kept-by other found true is e = absurd (let none = rw (put other, is) at e in cc)
    kept-by other found false is e =
        let here : old other ≡ Some found = rw (put other, is) at e in (
          here,
          λ is-id.
              let both : question ≡ other = it.single question other id there (rw is-id at here) in
              let yes = (same question other).1 both in
              cc,
        )

    kept : (other : Question) (found : ℕ) → new other ≡ Some found → (old other ≡ Some found) × (found ≢ id)
    kept other found = kept-by other found (same_question question other) refl

    module _ (left : List Ticket) (on : (other : ℕ) → other ≢ id → IsSome (ticket_of other tickets) → IsSome (ticket_of other left)) where
      out-by-kept : (other : Question) (found : Option ℕ) → new other ≡ found → IfSome found (λ id. IsSome (ticket_of id left))
      out-by-kept other None e = tt
      out-by-kept other (Some found) e =
          let was = kept other found e in
          on found was.1 (rw was.0 at (it.is_out other))

      index-left : All (λ it. new it.sent.question ≡ Some it.sent.id) left → IsIndex new left
      index-left has = record {
        has = has;
        is_out = λ other. out-by-kept other (new other) refl;
        single = λ one other found e f. it.single one other found (kept one found e).0 (kept other found f).0;
      }

    -- the ticket of an id is closed
    pub index-closed : IsIndex new (without id tickets)
    index-closed =
        index-left (without id tickets) (λ other differs some. stays-closed other id differs tickets some)
        (λ k d small.
        let ticket : Ticket = get_or (without id tickets) k d in
        let has : old ticket.sent.question ≡ Some ticket.sent.id =
        All-filter (λ it. not (has_id id it)) (λ it. old it.sent.question ≡ Some it.sent.id) tickets it.has k d small in
        let other = filter_passes (λ it. not (has_id id it)) tickets k d small in
        at-other question None put ticket.sent.question
        (λ e.
        let here : old ticket.sent.question ≡ Some id = rw e at there in
        let is-id : Some ticket.sent.id ≡ Some id = sym has ∙ here in
        search (rules, other, is-id)) ∙ has)

  -- the first ticket is gone
  pub index-rest : (first : Ticket) (others : List Ticket)
      → ((other : Question) → new other ≡ update same_question old first.sent.question None other)
      → All (Differ first) others → IsIndex old (first ∷ others) → IsIndex new others
  index-rest first others put apart it =
      let has = All-tail (λ it. old it.sent.question ≡ Some it.sent.id) first others it.has in
      let there = All-head (λ it. old it.sent.question ≡ Some it.sent.id) first others it.has in
      index-left first.sent.question first.sent.id put (first ∷ others) there it others
      (λ other differs some. stays-rest other first others differs some)
      (λ k d small.
      at-other first.sent.question None put (get_or others k d).sent.question (apart k d small).1 ∙ has k d small)

  pub index-given-up : (now id : ℕ) (question : Question) (before after : Asking) → IsGivenUp before after now id question
      → ((other : Question) → new other ≡ update same_question old question None other)
      → AllPairs Differ before.tickets → IsIndex old before.tickets → IsIndex new after.tickets
  index-given-up now id question before after is put pairs it =
      rw is.left
      (index-rest is.ticket is.others (rw is.question_is at put) (pairs-head is.ticket is.others (rw is.first at pairs)) (rw is.first at it))

-- the first ticket is sent once more
index-again : (ids : Question → Option ℕ) (schedule : Schedule) (now : ℕ) (first : Ticket) (others : List Ticket)
    → IsIndex ids (first ∷ others) → IsIndex ids (waiting_too (again schedule now first) others)
index-again ids schedule now first others it =
    let P : Ticket → Type 0 = λ it. ids it.sent.question ≡ Some it.sent.id in
    record {
      has = all-too (again schedule now first) others P (All-head P first others it.has) (All-tail P first others it.has);
      is_out = λ other.
          some-on (λ id. IsSome (ticket_of id (first ∷ others)))
          (λ id. IsSome (ticket_of id (waiting_too (again schedule now first) others)))
          (λ id some. stays-again id schedule now first others some) (ids other) (it.is_out other);
      single = it.single;
    }

pub index-resent : (ids : Question → Option ℕ) (now id : ℕ) (octets : List ℕ) (old new : Asking) → IsResent old new now id octets
    → IsIndex ids old.tickets → IsIndex ids new.tickets
index-resent ids now id octets old new is it =
    rw is.left (index-again ids old.schedule now is.ticket is.others (rw is.first at it))

-- ---- what the table says

-- the question of the ticket of an id has it
pub ticket-id : (ids : Question → Option ℕ) (tickets : List Ticket) (id : ℕ) (ticket : Ticket) → IsIndex ids tickets
    → ticket_of id tickets ≡ Some ticket → ids ticket.sent.question ≡ Some id
ticket-id ids tickets id ticket it there =
    let found = found-has (has_id id) (λ it. ids it.sent.question ≡ Some it.sent.id) tickets ticket it.has there in
    let is-id = found.1 in
    let same : ticket.sent.id ≡ id = search (rules, is-id) in
    rw same at found.0

-- a question that it does not have is not out
pub lacks-out : (ids : Question → Option ℕ) (tickets : List Ticket) (question : Question) → IsIndex ids tickets → ids question ≡ None
    → LacksQuestion question tickets
lacks-out ids tickets question it none = λ k d small e. let has = rw e at (it.has k d small) in cc

-- what was put into a table after room was made
pub put-after : (old middle new : Question → Option ℕ) (question key : Question) (given : Option ℕ) → key ≡ question
    → ((other : Question) → middle other ≡ old other)
    → ((other : Question) → new other ≡ update same_question middle key given other)
    → (other : Question) → new other ≡ update same_question old question given other
put-after old middle new question key given is same put other = put other ∙ (rw (same other, is) refl)

-- the question of a ticket is closed, as it leaves the table
module _ (same : (one other : Question) → IsTrue (same_question one other) ↔ (one ≡ other)) (old new : Question → Option ℕ) where
  pub index-cancelled : (question : Question) (id : ℕ) (tickets : List Ticket) → HasQuestion question id tickets
      → ((other : Question) → new other ≡ update same_question old question None other) → IsIndex old tickets
      → IsIndex new (without id tickets)
  index-cancelled question id tickets is put it =
      index-closed same old new question id put tickets (rw is.of_it at (ticket-id old tickets id is.ticket it is.there)) it

  pub index-told : (asking : Asking) (octets : List ℕ) (id : ℕ) (question : Question) (ending : Ending)
      → Means asking octets (Ended id question ending)
      → ((other : Question) → new other ≡ update same_question old question None other) → IsIndex old asking.tickets
      → IsIndex new (closed id asking).tickets
  index-told asking octets id question ending means put it =
      let found = found-has (has_id means.message.header.id) (λ it. old it.sent.question ≡ Some it.sent.id) asking.tickets means.ticket it.has
      means.is_open in
      index-closed same old new question id put asking.tickets (rw (means.says.0, means.says.1) found.0) it

-- a question that it has is out under the id
pub told-out : (ids : Question → Option ℕ) (tickets : List Ticket) (question : Question) (id : ℕ) → IsIndex ids tickets
    → ids question ≡ Some id → IsSome (ticket_of id tickets)
told-out ids tickets question id it there = rw there at (it.is_out question)

-- where no question is out
none-out-of : (P : ℕ → Type 0) (found : Option ℕ) → found ≡ None → IfSome found P
none-out-of P None none = tt
none-out-of P (Some id) none = absurd cc

pub index-none : (ids : Question → Option ℕ) → ((question : Question) → ids question ≡ None) → IsIndex ids []
index-none ids none = record {
  has = All-nil (λ it. ids it.sent.question ≡ Some it.sent.id);
  is_out = λ question. none-out-of (λ id. IsSome (ticket_of id [])) (ids question) (none question);
  single = λ one other id there also. absurd (let no : None ≡ Some id = sym (none one) ∙ there in cc);
}
