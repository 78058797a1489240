-- What becomes of the questions that are out, as a moment is polled.
use Rattle.std.proofs.Common.{◌≡◌, ◌⊎◌, inl, inr, ℕ, ◌+◌, ◌<◌, ◌≤◌, max, List, ◌∷◌, ◌++◌, Option, Some, None, MatchOption, refl, sym, ap, ◌∙◌, arith}
use Rattle.std.proofs.Math.Nat.{le-max_left, le-max_right}
use Rattle.std.specs.List.{All, Contains}
use Rattle.std.proofs.lemmas.List.Elements.{All-append, All-cons, All-contains, All-contains_itself, All-tail, All-weaker, Contains-append_left, Contains-append_right}
use Rattle.dns_queries.specs.Events.{IsResent, again}
use Rattle.dns_queries.specs.Tickets.{Asking, Ticket, waiting_too}
use Rattle.dns_queries.specs.declared.schedule.Schedule.{Schedule}
use Rattle.dns_message.specs.declared.question.Question.{Question}
use Rattle.sip_resolver.proofs.Apart.{all-too}
use Rattle.sip_resolver.proofs.Awaiting.{of-others, of-ticket, split-back, split-front}
use Rattle.sip_resolver.proofs.Deadlines.{at-least, back-of, front-of, one-of}
use Rattle.sip_resolver.proofs.Sending.{HaveSame, same-after, same-given, same-sent, scheduled-before}
use Rattle.sip_resolver.proofs.Letting.{IsLeftOrLate, left-or-late, none-before, not-late}
use Rattle.sip_resolver.specs.Cancels.{questions_left}
use Rattle.sip_resolver.specs.Dues.{AreAsBefore, AreDealtWith, IsDealtWith, IsLetGo, IsOneDue, PollsAll, PollsMany, begun, further, given_up, let_go, sent_again, waits_on}
use Rattle.sip_resolver.specs.Expiries.{timeouts_of, untils_of}
use Rattle.sip_resolver.specs.Idle.{IsInWait}
use Rattle.sip_resolver.specs.Questions.{IsLeast, IsScheduled, QuestionsView, asked_over, asking_over, deadlines_of, schedule_of}
use Rattle.sip_resolver.specs.Resolvers.{Expires, ResolverView}
use Rattle.sip_resolver.specs.Sends.{AreSpaced, GivesUp, GivesUpBoth, IsInVain, IsOverdue, SendsAfter, SendsOne, first, again as again-sent, tickets_of, with_over}
use Rattle.sip_resolver.specs.Tasks.{WaitingView, over_of}
use Rattle.sip_resolver.specs.declared.transmit.DnsTransport.{DnsTransport}
use Rattle.sip_resolver.specs.declared.transmit.DnsTransport.TheVariants.{Datagram, Stream}

-- ---- what is so of those over datagrams and of those over streams

module _ (P : Ticket → Type 0) (it : QuestionsView) where
  both : All P it.datagrams.tickets → All P it.streams.tickets → All P (tickets_of it)
  both front back = All-append P it.datagrams.tickets it.streams.tickets front back

-- each of them is one of all
datagrams-in : (it : QuestionsView) → All (Contains (tickets_of it)) it.datagrams.tickets
datagrams-in it =
    All-weaker (Contains it.datagrams.tickets) (Contains (tickets_of it))
    (Contains-append_left it.datagrams.tickets it.streams.tickets) it.datagrams.tickets (All-contains_itself it.datagrams.tickets)

streams-in : (it : QuestionsView) → All (Contains (tickets_of it)) it.streams.tickets
streams-in it =
    All-weaker (Contains it.streams.tickets) (Contains (tickets_of it))
    (Contains-append_right it.datagrams.tickets it.streams.tickets) it.streams.tickets (All-contains_itself it.streams.tickets)

datagrams-are : (it : QuestionsView) (tickets : List Ticket) → it.datagrams.tickets ≡ tickets → All (Contains (tickets_of it)) tickets
datagrams-are it tickets same = rw (← same) (datagrams-in it)

streams-are : (it : QuestionsView) (tickets : List Ticket) → it.streams.tickets ≡ tickets → All (Contains (tickets_of it)) tickets
streams-are it tickets same = rw (← same) (streams-in it)

-- ---- one more among some

module _ (ticket : Ticket) (tickets many : List Ticket) (all : All (Contains many) (waiting_too ticket tickets)) where
  others-in : All (Contains many) tickets
  others-in = of-others (Contains many) ticket tickets all

  one-in : Contains many ticket
  one-in = of-ticket (Contains many) ticket tickets all

-- ---- how long a question waits

-- one schedule is that of those over datagrams, and of those over streams
abbrev HaveSchedule : Schedule → QuestionsView → Type 0
HaveSchedule schedule it = (it.datagrams.schedule ≡ schedule) × (it.streams.schedule ≡ schedule)

have-over : (schedule : Schedule) (it : QuestionsView) → HaveSchedule schedule it → (over : DnsTransport)
    → (asking_over over it).schedule ≡ schedule
have-over schedule it have Datagram = have.0
have-over schedule it have Stream = have.1

module _ (now asked : ℕ) where
  -- each that is left was out
  left-of : (old new : Asking) (many : List Ticket) → GivesUp now old new → All (Contains many) old.tickets
      → All (Contains many) new.tickets
  left-of old new many it all =
      let whole : All (Contains many) (it.gone ++ new.tickets) = rw it.were at all in
      split-back (Contains many) it.gone new.tickets whole

  left-of-both : (old new : QuestionsView) → GivesUpBoth now old new → All (Contains (tickets_of old)) (tickets_of new)
  left-of-both old new it =
      both (Contains (tickets_of old)) new (left-of old.datagrams new.datagrams (tickets_of old) it.datagrams (datagrams-in old))
      (left-of old.streams new.streams (tickets_of old) it.streams (streams-in old))

  abbrev ticket-of : Schedule → ℕ → Question → Ticket
  ticket-of schedule id question =
      record { sent = record { id = id; question = question; sends = 1 }; deadline = asked + schedule.wait }

  module _ (schedule : Schedule) where
    abbrev is-spaced : List Ticket → Ticket → Type 0
    is-spaced old ticket = Contains old ticket ⊎ (asked + schedule.wait ≤ ticket.deadline)

    spaced-as : (old : List Ticket) (new : List Ticket) → All (Contains old) new → All (is-spaced old) new
    spaced-as old new all = All-weaker (Contains old) (is-spaced old) (λ ticket is. inl is) new all

    -- those that were there, and one that was sent
    spaced-too : (old : List Ticket) (ticket : Ticket) (tickets : List Ticket) → asked + schedule.wait ≤ ticket.deadline
        → All (Contains old) tickets → All (is-spaced old) (waiting_too ticket tickets)
    spaced-too old ticket tickets late all = all-too ticket tickets (is-spaced old) (inr late) (spaced-as old tickets all)

    late-first : (other : Schedule) → other ≡ schedule → asked + schedule.wait ≤ asked + other.wait
    late-first other same = rw same omega arith

    late-again : (other : Schedule) → other ≡ schedule → asked + schedule.wait ≤ max now asked + other.wait
    late-again other same = let most = le-max_right now asked in rw same omega (arith, most)

    -- of the questions in between some are the old ones, and one is sent
    module _ (id : ℕ) (waiting : List WaitingView) (old middle new : QuestionsView)
        (all : All (Contains (tickets_of old)) (tickets_of middle)) (have : HaveSchedule schedule middle) where
      abbrev is-so : Type 0
      is-so = All (is-spaced (tickets_of old)) (tickets_of new)

      datagrams-were : All (Contains (tickets_of old)) middle.datagrams.tickets
      datagrams-were = split-front (Contains (tickets_of old)) middle.datagrams.tickets middle.streams.tickets all

      streams-were : All (Contains (tickets_of old)) middle.streams.tickets
      streams-were = split-back (Contains (tickets_of old)) middle.datagrams.tickets middle.streams.tickets all

      spaced-datagrams : (ticket : Ticket) (tickets : List Ticket) → asked + schedule.wait ≤ ticket.deadline
          → All (Contains (tickets_of old)) tickets → new.datagrams.tickets ≡ waiting_too ticket tickets
          → new.streams ≡ middle.streams → is-so
      spaced-datagrams ticket tickets late were is others =
          both (is-spaced (tickets_of old)) new (rw is (spaced-too (tickets_of old) ticket tickets late were))
          (rw others (spaced-as (tickets_of old) middle.streams.tickets streams-were))

      spaced-streams : (ticket : Ticket) (tickets : List Ticket) → asked + schedule.wait ≤ ticket.deadline
          → All (Contains (tickets_of old)) tickets → new.streams.tickets ≡ waiting_too ticket tickets
          → new.datagrams ≡ middle.datagrams → is-so
      spaced-streams ticket tickets late were is others =
          both (is-spaced (tickets_of old)) new (rw others (spaced-as (tickets_of old) middle.datagrams.tickets datagrams-were))
          (rw is (spaced-too (tickets_of old) ticket tickets late were))

      spaced-first : (over : DnsTransport) (question : Question) → new ≡ asked_over over id question asked middle → is-so
      spaced-first Datagram question is =
          spaced-datagrams (ticket-of middle.datagrams.schedule id question) middle.datagrams.tickets
          (late-first middle.datagrams.schedule have.0) datagrams-were (rw is refl) (rw is refl)
      spaced-first Stream question is =
          spaced-streams (ticket-of middle.streams.schedule id question) middle.streams.tickets
          (late-first middle.streams.schedule have.1) streams-were (rw is refl) (rw is refl)

      spaced-again : (over : DnsTransport) (asking : Asking) (octets : List ℕ)
          → IsResent (asking_over over middle) asking (max now asked) id octets → new ≡ with_over over asking middle → is-so
      spaced-again Datagram asking octets it is =
          let front : All (Contains (tickets_of old)) (it.ticket ∷ it.others) = rw it.first at datagrams-were in
          spaced-datagrams (again middle.datagrams.schedule (max now asked) it.ticket) it.others
          (late-again middle.datagrams.schedule have.0)
          (All-tail (Contains (tickets_of old)) it.ticket it.others front) (rw is (rw it.left refl)) (rw is refl)
      spaced-again Stream asking octets it is =
          let front : All (Contains (tickets_of old)) (it.ticket ∷ it.others) = rw it.first at streams-were in
          spaced-streams (again middle.streams.schedule (max now asked) it.ticket) it.others
          (late-again middle.streams.schedule have.1)
          (All-tail (Contains (tickets_of old)) it.ticket it.others front) (rw is (rw it.left refl)) (rw is refl)

      spaced-one : SendsOne now asked id waiting middle new → is-so
      spaced-one (first it) = spaced-first (over_of it.task) it.question it.is_asked
      spaced-one (again-sent over asking octets due it is) = spaced-again over asking octets it is

  -- whether or not one is sent
  pub spaced : (waiting : List WaitingView) (old new : QuestionsView) (found : Option ℕ) → IsScheduled new
      → MatchOption found (GivesUpBoth now old new) (λ id. SendsAfter now asked id waiting old new) → AreSpaced asked old new
  spaced waiting old new None scheduled it =
      spaced-as (schedule_of old) (tickets_of old) (tickets_of new) (left-of-both old new it)
  spaced waiting old new (Some id) scheduled it =
      let given = same-given now old it.middle it.gives_up in
      let before = scheduled-before old new (same-after now asked id waiting old new it) scheduled in
      spaced-one (schedule_of old) id waiting old it.middle new (left-of-both old it.middle it.gives_up)
      (sym given.0, sym given.1 ∙ before.0) it.sends

-- ---- where a question that was out is

module _ (now asked : ℕ) (schedule : Schedule) (some : 1 ≤ schedule.wait) (waits : List WaitingView) where
  abbrev sent-again : Ticket → Ticket
  sent-again ticket = again schedule (max now asked) ticket

  data IsOnWay (new : List Ticket) (ticket : Ticket) : Type 0 where
    stays : Contains new ticket → IsOnWay new ticket
    resent : ticket.deadline ≤ now → ticket.sent.sends < schedule.sends → Contains new (sent-again ticket) → IsOnWay new ticket
    gone : IsInVain schedule now ticket → IsOnWay new ticket
    let-go : IsLetGo now waits ticket.sent.id → IsOnWay new ticket

  -- some are given up
  on-way-left : (old new : Asking) (many : List Ticket) → old.schedule ≡ schedule → GivesUp now old new
      → All (Contains many) new.tickets → All (IsOnWay many) old.tickets
  on-way-left old new many same it there =
      let in-vain : All (IsInVain schedule now) it.gone = rw same at it.in_vain in
      let tickets : old.tickets ≡ it.gone ++ new.tickets = ap (λ (asking : Asking). asking.tickets) it.were in
      rw tickets
      (All-append (IsOnWay many) it.gone new.tickets
      (All-weaker (IsInVain schedule now) (IsOnWay many) (λ ticket vain. gone vain) it.gone in-vain)
      (All-weaker (Contains many) (IsOnWay many) (λ ticket is. stays is) new.tickets there))

  on-way-given : (old new : QuestionsView) → HaveSchedule schedule old → GivesUpBoth now old new
      → All (IsOnWay (tickets_of new)) (tickets_of old)
  on-way-given old new have it =
      both (IsOnWay (tickets_of new)) old
      (on-way-left old.datagrams new.datagrams (tickets_of new) have.0 it.datagrams (datagrams-in new))
      (on-way-left old.streams new.streams (tickets_of new) have.1 it.streams (streams-in new))

  -- one is sent
  module _ (id : ℕ) (waiting : List WaitingView) (old new : QuestionsView) (have : HaveSchedule schedule old) where
    abbrev is-there : List Ticket → Type 0
    is-there tickets = All (Contains (tickets_of new)) tickets

    on-way-all : (tickets : List Ticket) → is-there tickets → All (IsOnWay (tickets_of new)) tickets
    on-way-all tickets there = All-weaker (Contains (tickets_of new)) (IsOnWay (tickets_of new)) (λ ticket is. stays is) tickets there

    on-way-first : (over : DnsTransport) (question : Question) → new ≡ asked_over over id question asked old
        → All (IsOnWay (tickets_of new)) (tickets_of old)
    on-way-first Datagram question is =
        let ticket = ticket-of now asked old.datagrams.schedule id question in
        let there = datagrams-are new (waiting_too ticket old.datagrams.tickets) (rw is refl) in
        both (IsOnWay (tickets_of new)) old
        (on-way-all old.datagrams.tickets (others-in ticket old.datagrams.tickets (tickets_of new) there))
        (on-way-all old.streams.tickets (streams-are new old.streams.tickets (rw is refl)))
    on-way-first Stream question is =
        let ticket = ticket-of now asked old.streams.schedule id question in
        let there = streams-are new (waiting_too ticket old.streams.tickets) (rw is refl) in
        both (IsOnWay (tickets_of new)) old
        (on-way-all old.datagrams.tickets (datagrams-are new old.datagrams.tickets (rw is refl)))
        (on-way-all old.streams.tickets (others-in ticket old.streams.tickets (tickets_of new) there))

    on-way-again : (asking : Asking) (octets : List ℕ) (before : Asking) → before.schedule ≡ schedule → IsOverdue now before
        → IsResent before asking (max now asked) id octets → is-there asking.tickets → All (IsOnWay (tickets_of new)) before.tickets
    on-way-again asking octets before is due it there =
        let same : due.ticket ≡ it.ticket = let front = due.first in let back = it.first in cc in
        let left : is-there (waiting_too (again before.schedule (max now asked) it.ticket) it.others) = rw it.left at there in
        let whole : is-there (waiting_too (sent-again it.ticket) it.others) = rw is at left in
        let more : it.ticket.sent.sends < schedule.sends = rw is at it.more in
        rw it.first
        (All-cons (IsOnWay (tickets_of new)) it.ticket it.others
        (resent (rw (← same) due.over) more (one-in (sent-again it.ticket) it.others (tickets_of new) whole))
        (on-way-all it.others (others-in (sent-again it.ticket) it.others (tickets_of new) whole)))

    on-way-sent : SendsOne now asked id waiting old new → All (IsOnWay (tickets_of new)) (tickets_of old)
    on-way-sent (first it) = on-way-first (over_of it.task) it.question it.is_asked
    on-way-sent (again-sent Datagram asking octets due it is) =
        both (IsOnWay (tickets_of new)) old
        (on-way-again asking octets old.datagrams have.0 due it (datagrams-are new asking.tickets (rw is refl)))
        (on-way-all old.streams.tickets (streams-are new old.streams.tickets (rw is refl)))
    on-way-sent (again-sent Stream asking octets due it is) =
        both (IsOnWay (tickets_of new)) old
        (on-way-all old.datagrams.tickets (datagrams-are new old.datagrams.tickets (rw is refl)))
        (on-way-again asking octets old.streams have.1 due it (streams-are new asking.tickets (rw is refl)))

  -- ---- one step after the other

  -- one that was sent again isn't due any more
  not-due : max now asked + schedule.wait ≤ now → ⊥
  not-due over = let late = le-max_left now asked in omega (arith, late, over, some)

  kept-again : (new : List Ticket) (ticket : Ticket) → ticket.deadline ≤ now → ticket.sent.sends < schedule.sends
      → IsOnWay new (sent-again ticket) → IsOnWay new ticket
  kept-again new ticket over more (stays is) = resent over more is
  kept-again new ticket over more (resent again-over again-more is) = absurd (not-due again-over)
  kept-again new ticket over more (gone vain) = absurd (not-due vain.1)
  kept-again new ticket over more (let-go late) = let-go late

  on-way-further : (middle new : List Ticket) → All (IsOnWay new) middle → (ticket : Ticket) → IsOnWay middle ticket → IsOnWay new ticket
  on-way-further middle new all ticket (stays is) = All-contains (IsOnWay new) middle ticket all is
  on-way-further middle new all ticket (resent over more is) =
      kept-again new ticket over more (All-contains (IsOnWay new) middle (sent-again ticket) all is)
  on-way-further middle new all ticket (gone vain) = gone vain
  on-way-further middle new all ticket (let-go late) = let-go late

  on-way-through : (old middle new : List Ticket) → All (IsOnWay middle) old → All (IsOnWay new) middle → All (IsOnWay new) old
  on-way-through old middle new front back = All-weaker (IsOnWay middle) (IsOnWay new) (on-way-further middle new back) old front

  have-after : (old new : QuestionsView) → HaveSame old new → HaveSchedule schedule old → HaveSchedule schedule new
  have-after old new same have = (sym same.0 ∙ have.0, sym same.1 ∙ have.1)

  on-way-after : (id : ℕ) (waiting : List WaitingView) (old new : QuestionsView) → HaveSchedule schedule old
      → SendsAfter now asked id waiting old new → All (IsOnWay (tickets_of new)) (tickets_of old)
  on-way-after id waiting old new have it =
      on-way-through (tickets_of old) (tickets_of it.middle) (tickets_of new) (on-way-given old it.middle have it.gives_up)
      (on-way-sent id waiting it.middle new (have-after old it.middle (same-given now old it.middle it.gives_up) have) it.sends)

  on-way-not : (it : List Ticket) → All (IsOnWay it) it
  on-way-not it = All-weaker (Contains it) (IsOnWay it) (λ ticket is. stays is) it (All-contains_itself it)

  -- nothing is left to do
  dealt : (last : QuestionsView) → All (IsInWait now) (tickets_of last) → (ticket : Ticket) → IsOnWay (tickets_of last) ticket
      → IsDealtWith schedule now asked waits last ticket
  dealt last idle ticket (stays is) = waits_on (All-contains (IsInWait now) (tickets_of last) ticket idle is) is
  dealt last idle ticket (resent over more is) = sent_again over more is
  dealt last idle ticket (gone vain) =
      given_up vain
      (λ is.
      let wait : now < ticket.deadline = All-contains (IsInWait now) (tickets_of last) ticket idle is in
      let over = vain.1 in omega (arith, wait, over))
  dealt last idle ticket (let-go late) = let_go late

  -- some are let go
  on-way-left-or-late : (old new : ResolverView) → ((id : ℕ) → IsLetGo now old.requests.waiting id → IsLetGo now waits id)
      → (ticket : Ticket) → IsLeftOrLate now old.requests.waiting new.questions ticket → IsOnWay (tickets_of new.questions) ticket
  on-way-left-or-late old new first-too ticket (inl is) = stays is
  on-way-left-or-late old new first-too ticket (inr late) = let-go (first-too ticket.sent.id late)

  on-way-expired : (old new : ResolverView) → Expires now old new
      → ((id : ℕ) → IsLetGo now old.requests.waiting id → IsLetGo now waits id)
      → All (IsOnWay (tickets_of new.questions)) (tickets_of old.questions)
  on-way-expired old new it first-too =
      All-weaker (IsLeftOrLate now old.requests.waiting new.questions) (IsOnWay (tickets_of new.questions))
      (λ ticket. on-way-left-or-late old new first-too ticket) (tickets_of old.questions) (left-or-late now old new it)

  module _ (gives : List ℕ → Type 0) (shows : ℕ → Type 0) {I : Type 0} (draws : I → ℕ → I → Type 0) (first-one : ResolverView)
      (have : HaveSchedule schedule first-one.questions)
      (first-is : (id : ℕ) → IsLetGo now first-one.requests.waiting id → IsLetGo now waits id) where
    have-expired : (old new : ResolverView) → Expires now old new → HaveSchedule schedule old.questions
        → HaveSchedule schedule new.questions
    have-expired old new it have = rw it.questions have

    -- who is late after some polls was so at first
    late-at-first : (last : ResolverView) → PollsMany gives shows draws now asked first-one last → (id : ℕ)
        → IsLetGo now last.requests.waiting id → IsLetGo now first-one.requests.waiting id
    late-at-first last begun id late = late
    late-at-first last (further seat old new transmit along polls) id late = absurd (not-late now id last.requests polls.in_time late)

    have-along : (last : ResolverView) → PollsMany gives shows draws now asked first-one last → HaveSchedule schedule last.questions
    have-along last begun = have
    have-along last (further seat old new transmit along polls) =
        have-after polls.middle.questions last.questions
        (same-sent now asked last.requests.waiting polls.middle.questions last.questions (Some transmit) polls.sends)
        (have-expired old polls.middle polls.expires (have-along old along))

    on-way-along : (last : ResolverView) → PollsMany gives shows draws now asked first-one last
        → All (IsOnWay (tickets_of last.questions)) (tickets_of first-one.questions)
    on-way-along last begun = on-way-not (tickets_of first-one.questions)
    on-way-along last (further seat old new transmit along polls) =
        on-way-through (tickets_of first-one.questions) (tickets_of old.questions) (tickets_of last.questions)
        (on-way-along old along)
        (on-way-through (tickets_of old.questions) (tickets_of polls.middle.questions) (tickets_of last.questions)
        (on-way-expired old polls.middle polls.expires (λ id late. first-is id (late-at-first old along id late)))
        (on-way-after polls.sends.0 last.requests.waiting polls.middle.questions last.questions
        (have-expired old polls.middle polls.expires (have-along old along)) polls.sends.1))

    dealt-all : (last : ResolverView) → PollsAll gives shows draws now asked first-one last
        → All (IsDealtWith schedule now asked waits last.questions) (tickets_of first-one.questions)
    dealt-all last it =
        let idle = both (IsInWait now) last.questions it.none.idle.datagrams it.none.idle.streams in
        All-weaker (IsOnWay (tickets_of last.questions)) (IsDealtWith schedule now asked waits last.questions) (dealt last.questions idle)
        (tickets_of first-one.questions)
        (on-way-through (tickets_of first-one.questions) (tickets_of it.middle.questions) (tickets_of last.questions)
        (on-way-along it.middle it.many)
        (on-way-through (tickets_of it.middle.questions) (tickets_of it.none.middle.questions) (tickets_of last.questions)
        (on-way-expired it.middle it.none.middle it.none.expires (λ id late. first-is id (late-at-first it.middle it.many id late)))
        (on-way-given it.none.middle.questions last.questions
        (have-expired it.middle it.none.middle it.none.expires (have-along it.middle it.many)) it.none.sends)))

-- ---- by the schedule of the first

module _ (now asked : ℕ) where
  module _ (gives : List ℕ → Type 0) (shows : ℕ → Type 0) {I : Type 0} (draws : I → ℕ → I → Type 0) where
    scheduled-expired : (old new : ResolverView) → Expires now old new → IsScheduled new.questions → IsScheduled old.questions
    scheduled-expired old new it scheduled =
        let left : IsScheduled (questions_left old.requests.waiting new.requests.waiting old.questions) = rw it.questions at scheduled in
        left

    scheduled-first : (first-one last : ResolverView) → PollsMany gives shows draws now asked first-one last
        → IsScheduled last.questions → IsScheduled first-one.questions
    scheduled-first first-one last begun it = it
    scheduled-first first-one last (further seat old new transmit along polls) it =
        scheduled-first first-one old along
        (scheduled-expired old polls.middle polls.expires
        (scheduled-before polls.middle.questions last.questions
        (same-sent now asked last.requests.waiting polls.middle.questions last.questions (Some transmit) polls.sends) it))

    scheduled-all : (first-one last : ResolverView) → PollsAll gives shows draws now asked first-one last
        → IsScheduled first-one.questions
    scheduled-all first-one last it =
        scheduled-first first-one it.middle it.many
        (scheduled-expired it.middle it.none.middle it.none.expires
        (scheduled-before it.none.middle.questions last.questions
        (same-sent now asked last.requests.waiting it.none.middle.questions last.questions None it.none.sends) it.none.scheduled))

    pub all-dealt : (first-one last : ResolverView) → PollsAll gives shows draws now asked first-one last
        → AreDealtWith now asked first-one last
    all-dealt first-one last it =
        let scheduled = scheduled-all first-one last it in
        dealt-all now asked (schedule_of first-one.questions) scheduled.1.wait.0 first-one.requests.waiting gives shows draws first-one
        (refl, scheduled.0) (λ id late. late) last it

    -- ---- with the least deadline

    as-before : (schedule : Schedule) (waiting : List WaitingView) (last : QuestionsView) (least : ℕ) → now < least → (ticket : Ticket)
        → least ≤ ticket.deadline → (IsLetGo now waiting ticket.sent.id → ⊥) → IsDealtWith schedule now asked waiting last ticket
        → Contains (tickets_of last) ticket
    as-before schedule waiting last least early ticket late none (waits_on wait is) = is
    as-before schedule waiting last least early ticket late none (sent_again over more is) = absurd (omega (arith, early, late, over))
    as-before schedule waiting last least early ticket late none (given_up vain not) =
        absurd (let over = vain.1 in omega (arith, early, late, over))
    as-before schedule waiting last least early ticket late none (let_go those) = absurd (none those)

    pub all-before : (least : ℕ) (first-one last : ResolverView) → PollsAll gives shows draws now asked first-one last
        → IsLeast (timeouts_of first-one.requests first-one.questions) (Some least) → now < least → AreAsBefore first-one last
    all-before least first-one last it is early =
        let late = at-least first-one.questions least
        (front-of (λ number. least ≤ number) (deadlines_of first-one.questions) (untils_of first-one.requests) is.1) in
        let untils = back-of (λ number. least ≤ number) (deadlines_of first-one.questions) (untils_of first-one.requests) is.1 in
        let dealt-with = all-dealt first-one last it in
        λ k d small.
        as-before (schedule_of first-one.questions) first-one.requests.waiting last.questions least early _ (late k d small)
        (none-before now least first-one.requests untils early _) (dealt-with k d small)

    not-left : (last : QuestionsView) → All (IsInWait now) (tickets_of last) → (ticket : Ticket) → ticket.deadline ≤ now
        → Contains (tickets_of last) ticket → ⊥
    not-left last idle ticket over is =
        let wait : now < ticket.deadline = All-contains (IsInWait now) (tickets_of last) ticket idle is in
        omega (arith, wait, over)

    pub one-due : (least : ℕ) (first-one last : ResolverView) → PollsAll gives shows draws now asked first-one last
        → IsLeast (deadlines_of first-one.questions) (Some least) → least ≤ now → IsOneDue least first-one last
    one-due least first-one last it is over =
        let idle = both (IsInWait now) last.questions it.none.idle.datagrams it.none.idle.streams in
        let one = one-of first-one.questions least is.0 in
        record {
          ticket = one.ticket;
          was = one.there;
          due = one.is;
          left = not-left last.questions idle one.ticket (rw one.is over);
        }
