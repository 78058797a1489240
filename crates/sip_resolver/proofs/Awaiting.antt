-- The requests that wait, while questions are asked, sent again, given up and closed.
use Rattle.std.proofs.Common.{◌≡◌, ◌≢◌, inl, inr, nat_eq, ℕ, ◌+◌, Bool, true, false, not, nat_le, List, [], ◌∷◌, ◌++◌, Option, Some, None, refl, sym, rules}
use Rattle.std.specs.List.{All, filter}
use Rattle.std.specs.Option.{IfSome, IsSome}
use Rattle.std.proofs.lemmas.List.Elements.{All-cons, All-head, All-nil, All-push, All-tail, All-weaker}
use Rattle.dns_queries.specs.Events.{IsGivenUp, IsResent, again}
use Rattle.dns_queries.specs.Tickets.{Asking, Sent, Ticket, has_id, ticket_of, waiting_too, without}
use Rattle.dns_queries.specs.declared.schedule.Schedule.{Schedule}
use Rattle.dns_message.specs.declared.question.Question.{Question}
use Rattle.sip_resolver.proofs.Apart.{none-has}
use Rattle.sip_resolver.specs.Idle.{AreIn, IsIn, IsOut}
use Rattle.sip_resolver.specs.Questions.{QuestionsView, asked_over, closed_over}
use Rattle.sip_resolver.specs.Requests.{waiting_without}
use Rattle.sip_resolver.specs.Tasks.{TaskView, WaitingView}
use Rattle.sip_resolver.specs.declared.transmit.DnsTransport.{DnsTransport}
use Rattle.sip_resolver.specs.declared.transmit.DnsTransport.TheVariants.{Datagram, Stream}

some-unless : {X : Type 0} (found : Option X) → (found ≡ None → ⊥) → IsSome found
some-unless None not-none = absurd (not-none refl)
some-unless (Some x) not-none = refl

none-not : {X : Type 0} (found : Option X) → IsSome found → found ≡ None → ⊥
none-not None some none = cc
none-not (Some x) some none = cc

-- ---- which ids have tickets

abbrev is-other : ℕ → Ticket → Type 0
is-other id ticket = ticket.sent.id ≢ id

lacks-by : (id : ℕ) (x : Ticket) (xs : List Ticket) (is : Bool) → has_id id x ≡ is → is-other id x → ticket_of id xs ≡ None
    → ticket_of id (x ∷ xs) ≡ None
lacks-by id x xs true is other none = absurd (search rules)
lacks-by id x xs false is other none = rw is none

lacks : (id : ℕ) (xs : List Ticket) → All (is-other id) xs → ticket_of id xs ≡ None
lacks id [] all = refl
lacks id (x ∷ xs) all =
    lacks-by id x xs (has_id id x) refl (All-head (is-other id) x xs all) (lacks id xs (All-tail (is-other id) x xs all))

-- where what is left has no ticket of an id only if all had none
module _ (id : ℕ) (old new : List Ticket) (back : All (is-other id) new → All (is-other id) old) where
  stays : IsSome (ticket_of id old) → IsSome (ticket_of id new)
  stays some =
      some-unless (ticket_of id new)
      (λ none. none-not (ticket_of id old) some (lacks id old (back (none-has id new none))))

-- ---- one more ticket

module _ (P : Ticket → Type 0) (p : Ticket → Bool) where
  parted-by : (x : Ticket) (xs : List Ticket) (is : Bool) → p x ≡ is → All P (filter p (x ∷ xs))
      → All P (filter (λ it. not (p it)) (x ∷ xs))
      → (All P (filter p xs) → All P (filter (λ it. not (p it)) xs) → All P xs) → All P (x ∷ xs)
  parted-by x xs true is front back rest =
      let here : All P (x ∷ filter p xs) = rw is at front in
      let there : All P (filter (λ it. not (p it)) xs) = rw is at back in
      All-cons P x xs (All-head P x (filter p xs) here) (rest (All-tail P x (filter p xs) here) there)
  parted-by x xs false is front back rest =
      let here : All P (filter p xs) = rw is at front in
      let there : All P (x ∷ filter (λ it. not (p it)) xs) = rw is at back in
      All-cons P x xs (All-head P x (filter (λ it. not (p it)) xs) there)
      (rest here (All-tail P x (filter (λ it. not (p it)) xs) there))

  parted : (xs : List Ticket) → All P (filter p xs) → All P (filter (λ it. not (p it)) xs) → All P xs
  parted [] front back = All-nil P
  parted (x ∷ xs) front back = parted-by x xs (p x) refl front back (parted xs)

module _ (P : Ticket → Type 0) where
  pub split-front : (xs ys : List Ticket) → All P (xs ++ ys) → All P xs
  split-front [] ys all = All-nil P
  split-front (x ∷ xs) ys all =
      All-cons P x xs (All-head P x (xs ++ ys) all) (split-front xs ys (All-tail P x (xs ++ ys) all))

  pub split-back : (xs ys : List Ticket) → All P (xs ++ ys) → All P ys
  split-back [] ys all = all
  split-back (x ∷ xs) ys all = split-back xs ys (All-tail P x (xs ++ ys) all)

module _ (P : Ticket → Type 0) (ticket : Ticket) (tickets : List Ticket) (all : All P (waiting_too ticket tickets)) where
  abbrev in-front : Ticket → Bool
  in-front it = nat_le it.deadline ticket.deadline

  abbrev behind : Ticket → Bool
  behind it = not (in-front it)

  of-back : All P (ticket ∷ filter behind tickets)
  of-back = split-back P (filter in-front tickets) (ticket ∷ filter behind tickets) all

  pub of-ticket : P ticket
  of-ticket = All-head P ticket (filter behind tickets) of-back

  pub of-others : All P tickets
  of-others =
      parted P in-front tickets (split-front P (filter in-front tickets) (ticket ∷ filter behind tickets) all)
      (All-tail P ticket (filter behind tickets) of-back)

-- the other ids have tickets still
pub stays-asked : (id : ℕ) (ticket : Ticket) (tickets : List Ticket) → IsSome (ticket_of id tickets)
    → IsSome (ticket_of id (waiting_too ticket tickets))
stays-asked id ticket tickets some = stays id tickets (waiting_too ticket tickets) (of-others (is-other id) ticket tickets) some

-- and the new one has its own
pub has-asked : (ticket : Ticket) (tickets : List Ticket) → IsSome (ticket_of ticket.sent.id (waiting_too ticket tickets))
has-asked ticket tickets =
    some-unless (ticket_of ticket.sent.id (waiting_too ticket tickets))
    (λ none. of-ticket (is-other ticket.sent.id) ticket tickets (none-has ticket.sent.id (waiting_too ticket tickets) none) refl)

pub stays-again : (id : ℕ) (schedule : Schedule) (now : ℕ) (ticket : Ticket) (others : List Ticket)
    → IsSome (ticket_of id (ticket ∷ others)) → IsSome (ticket_of id (waiting_too (again schedule now ticket) others))
stays-again id schedule now ticket others some =
    stays id (ticket ∷ others) (waiting_too (again schedule now ticket) others)
    (λ all. All-cons (is-other id) ticket others (of-ticket (is-other id) (again schedule now ticket) others all)
    (of-others (is-other id) (again schedule now ticket) others all)) some

pub stays-rest : (id : ℕ) (ticket : Ticket) (others : List Ticket) → id ≢ ticket.sent.id → IsSome (ticket_of id (ticket ∷ others))
    → IsSome (ticket_of id others)
stays-rest id ticket others other some =
    stays id (ticket ∷ others) others (λ all. All-cons (is-other id) ticket others (λ same. other (sym same)) all) some

-- ---- one that is closed

module _ (id closed : ℕ) (other : id ≢ closed) where
  kept-by : (x : Ticket) (xs : List Ticket) (is : Bool) → has_id closed x ≡ is → All (is-other id) (without closed (x ∷ xs))
      → (All (is-other id) (without closed xs) → All (is-other id) xs) → All (is-other id) (x ∷ xs)
  kept-by x xs true is all rest =
      let there : All (is-other id) (without closed xs) = rw is at all in
      All-cons (is-other id) x xs (λ same. other (search (rules, same, is))) (rest there)
  kept-by x xs false is all rest =
      let here : All (is-other id) (x ∷ without closed xs) = rw is at all in
      All-cons (is-other id) x xs (All-head (is-other id) x (without closed xs) here)
      (rest (All-tail (is-other id) x (without closed xs) here))

  kept : (xs : List Ticket) → All (is-other id) (without closed xs) → All (is-other id) xs
  kept [] all = All-nil (is-other id)
  kept (x ∷ xs) all = kept-by x xs (has_id closed x) refl all (kept xs)

  pub stays-closed : (tickets : List Ticket) → IsSome (ticket_of id tickets) → IsSome (ticket_of id (without closed tickets))
  stays-closed tickets some = stays id tickets (without closed tickets) (kept tickets) some

-- ---- those that wait

module _ (old new others : List Ticket) where
  one-in : (on : (id : ℕ) → IsSome (ticket_of id old) → IsSome (ticket_of id new)) (it : WaitingView) → IsIn old others it
      → IsIn new others it
  one-in on it (inl some) = inl (on it.id some)
  one-in on it (inr some) = inr some

  -- where all ids that had tickets have them still
  pub in-still : ((id : ℕ) → IsSome (ticket_of id old) → IsSome (ticket_of id new)) → (waiting : List WaitingView)
      → AreIn old others waiting → AreIn new others waiting
  in-still on waiting all = All-weaker (IsIn old others) (IsIn new others) (one-in on) waiting all

  module _ (id : ℕ) (on : (other : ℕ) → other ≢ id → IsSome (ticket_of other old) → IsSome (ticket_of other new)) where
    other-in : (it : WaitingView) → it.id ≢ id → IsIn old others it → IsIn new others it
    other-in it other (inl some) = inl (on it.id other some)
    other-in it other (inr some) = inr some

    without-by : (x : WaitingView) (xs : List WaitingView) (is : Bool) → nat_eq x.id id ≡ is → AreIn old others (x ∷ xs)
        → (AreIn old others xs → AreIn new others (waiting_without id xs)) → AreIn new others (waiting_without id (x ∷ xs))
    without-by x xs true is all rest = rw is (rest (All-tail (IsIn old others) x xs all))
    without-by x xs false is all rest =
        rw is (All-cons (IsIn new others) x (waiting_without id xs)
        (other-in x (λ same. let yes : nat_eq x.id id ≡ true = search (rules, same) in cc) (All-head (IsIn old others) x xs all))
        (rest (All-tail (IsIn old others) x xs all)))

    -- where all others have
    pub in-without : (waiting : List WaitingView) → AreIn old others waiting → AreIn new others (waiting_without id waiting)
    in-without [] all = All-nil (IsIn new others)
    in-without (x ∷ xs) all = without-by x xs (nat_eq x.id id) refl all (in-without xs)

one-flipped : (tickets others : List Ticket) (it : WaitingView) → IsIn tickets others it → IsIn others tickets it
one-flipped tickets others it (inl some) = inr some
one-flipped tickets others it (inr some) = inl some

pub in-flipped : (tickets others : List Ticket) (waiting : List WaitingView) → AreIn tickets others waiting
    → AreIn others tickets waiting
in-flipped tickets others waiting all =
    All-weaker (IsIn tickets others) (IsIn others tickets) (one-flipped tickets others) waiting all

-- ---- what the askers did

pub resent-in : (now id : ℕ) (octets : List ℕ) (old new : Asking) (others : List Ticket) (waiting : List WaitingView)
    → IsResent old new now id octets → AreIn old.tickets others waiting → AreIn new.tickets others waiting
resent-in now id octets old new others waiting is it =
    let first : AreIn (is.ticket ∷ is.others) others waiting = rw is.first at it in
    rw is.left
    (in-still (is.ticket ∷ is.others) (waiting_too (again old.schedule now is.ticket) is.others) others
    (λ other some. stays-again other old.schedule now is.ticket is.others some) waiting first)

pub given-up-in : (now id : ℕ) (question : Question) (old new : Asking) (others : List Ticket) (waiting : List WaitingView)
    → IsGivenUp old new now id question → AreIn old.tickets others waiting → AreIn new.tickets others (waiting_without id waiting)
given-up-in now id question old new others waiting is it =
    let first : AreIn (is.ticket ∷ is.others) others waiting = rw is.first at it in
    rw (is.left, is.id_is)
    (in-without (is.ticket ∷ is.others) is.others others is.ticket.sent.id
    (λ other differs some. stays-rest other is.ticket is.others differs some) waiting first)

pub asked-in : (over : DnsTransport) (id : ℕ) (question : Question) (now : ℕ) (old : QuestionsView) (waiting : List WaitingView)
    (task : TaskView) → AreIn old.datagrams.tickets old.streams.tickets waiting
    → AreIn (asked_over over id question now old).datagrams.tickets (asked_over over id question now old).streams.tickets
    (waiting ++ record { id = id; task = task } ∷ [])
asked-in Datagram id question now old waiting task it =
    let sent : Sent = record { id = id; question = question; sends = 1 } in
    let ticket : Ticket = record { sent = sent; deadline = now + old.datagrams.schedule.wait } in
    let datagrams = waiting_too ticket old.datagrams.tickets in
    All-push (IsIn datagrams old.streams.tickets) waiting (record { id = id; task = task })
    (in-still old.datagrams.tickets datagrams old.streams.tickets (λ other some. stays-asked other ticket old.datagrams.tickets some)
    waiting it) (inl (has-asked ticket old.datagrams.tickets))
asked-in Stream id question now old waiting task it =
    let sent : Sent = record { id = id; question = question; sends = 1 } in
    let ticket : Ticket = record { sent = sent; deadline = now + old.streams.schedule.wait } in
    let streams = waiting_too ticket old.streams.tickets in
    in-flipped streams old.datagrams.tickets (waiting ++ record { id = id; task = task } ∷ [])
    (All-push (IsIn streams old.datagrams.tickets) waiting (record { id = id; task = task })
    (in-still old.streams.tickets streams old.datagrams.tickets (λ other some. stays-asked other ticket old.streams.tickets some)
    waiting (in-flipped old.datagrams.tickets old.streams.tickets waiting it)) (inl (has-asked ticket old.streams.tickets)))

pub closed-in : (over : DnsTransport) (id : ℕ) (old : QuestionsView) (waiting : List WaitingView)
    → AreIn old.datagrams.tickets old.streams.tickets waiting
    → AreIn (closed_over over id old).datagrams.tickets (closed_over over id old).streams.tickets (waiting_without id waiting)
closed-in Datagram id old waiting it =
    in-without old.datagrams.tickets (without id old.datagrams.tickets) old.streams.tickets id
    (λ other differs some. stays-closed other id differs old.datagrams.tickets some) waiting it
closed-in Stream id old waiting it =
    in-flipped (without id old.streams.tickets) old.datagrams.tickets (waiting_without id waiting)
    (in-without old.streams.tickets (without id old.streams.tickets) old.datagrams.tickets id
    (λ other differs some. stays-closed other id differs old.streams.tickets some) waiting
    (in-flipped old.datagrams.tickets old.streams.tickets waiting it))

pub streams-out : (it : QuestionsView) (found : Option ℕ) → IfSome found (λ id. IsSome (ticket_of id it.streams.tickets))
    → IfSome found (λ id. IsOut id it)
streams-out it None some = tt
streams-out it (Some id) some = inr some
