-- Open questions of different ids, while some are asked, sent again, given up and closed.
use Rattle.std.proofs.Common.{◌≡◌, ◌≢◌, ℕ, suc, ◌+◌, Bool, true, false, not, nat_le, List, [], ◌∷◌, ◌++◌, get_or, Option, Some, None, Result, Ok, Err, refl, sym, arith, rules}
use Rattle.std.specs.List.{All, AllPairs, filter, find}
use Rattle.std.specs.Result.{IfOk, OnErr}
use Rattle.std.proofs.lemmas.List.Elements.{All-append, All-cons, All-filter, All-head, All-nil, All-tail}
use Rattle.std.proofs.lemmas.List.Kept.{AllPairs-cons, AllPairs-filter}
use Rattle.dns_queries.specs.Events.{Dues, again, asked, left_by}
use Rattle.dns_queries.specs.Out.{LacksQuestion}
use Rattle.dns_queries.specs.Tickets.{Asking, Ticket, has_id, ticket_of, waiting_too}
use Rattle.dns_queries.specs.declared.incoming.Due.{Due}
use Rattle.dns_queries.specs.declared.incoming.Due.TheVariants.{Resend, GaveUp}
use Rattle.dns_queries.specs.declared.incoming.Incoming.{Incoming}
use Rattle.dns_queries.specs.declared.incoming.Incoming.TheVariants.{Ended, Ignored}
use Rattle.dns_queries.specs.declared.schedule.Schedule.{Schedule}
use Rattle.dns_message.specs.declared.question.Question.{Question}
use Rattle.sip_resolver.specs.Questions.{AreBounded, AreDistinct, Differ, Fewer, Lacks, QuestionsView, asked_over, closed_both, closed_over, left_over}
use Rattle.sip_resolver.specs.declared.transmit.DnsTransport.{DnsTransport}
use Rattle.sip_resolver.specs.declared.transmit.DnsTransport.TheVariants.{Datagram, Stream}

turned : (one other : Ticket) → Differ one other → Differ other one
turned one other it = ((λ e. it.0 (sym e)), (λ e. it.1 (sym e)))

pub pairs-head : (x : Ticket) (xs : List Ticket) → AllPairs Differ (x ∷ xs) → All (Differ x) xs
pairs-head x xs pairs = λ k d small. pairs 0 (suc k) d (omega arith) (omega arith)

pairs-tail : (x : Ticket) (xs : List Ticket) → AllPairs Differ (x ∷ xs) → AllPairs Differ xs
pairs-tail x xs pairs = λ i j d lt small. pairs (suc i) (suc j) d (omega arith) (omega arith)

joined : (front back : List Ticket) → AllPairs Differ front → AllPairs Differ back → All (λ it. All (Differ it) back) front
    → AllPairs Differ (front ++ back)
joined [] back first second cross = second
joined (x ∷ front) back first second cross =
    AllPairs-cons Differ x (front ++ back)
    (All-append (Differ x) front back (pairs-head x front first) (All-head (λ it. All (Differ it) back) x front cross))
    (joined front back (pairs-tail x front first) second (All-tail (λ it. All (Differ it) back) x front cross))

-- ---- two parts of one list

module _ (p : Ticket → Bool) where
  abbrev other : Ticket → Bool
  other it = not (p it)

  parted-by : (x : Ticket) (xs : List Ticket) (is : Bool) → p x ≡ is → All (Differ x) xs
      → All (λ it. All (Differ it) (filter other xs)) (filter p xs)
      → All (λ it. All (Differ it) (filter other (x ∷ xs))) (filter p (x ∷ xs))
  parted-by x xs true is apart rest =
      rw is (All-cons (λ it. All (Differ it) (filter other xs)) x (filter p xs) (All-filter other (Differ x) xs apart) rest)
  parted-by x xs false is apart rest =
      rw is (λ k d small.
      All-cons (Differ (get_or (filter p xs) k d)) x (filter other xs)
      (turned x (get_or (filter p xs) k d) (All-filter p (Differ x) xs apart k d small)) (rest k d small))

  parted : (xs : List Ticket) → AllPairs Differ xs → All (λ it. All (Differ it) (filter other xs)) (filter p xs)
  parted [] pairs = All-nil (λ it. All (Differ it) [])
  parted (x ∷ xs) pairs = parted-by x xs (p x) refl (pairs-head x xs pairs) (parted xs (pairs-tail x xs pairs))

-- ---- one more

module _ (ticket : Ticket) (tickets : List Ticket) where
  abbrev in-front : Ticket → Bool
  in-front it = nat_le it.deadline ticket.deadline

  abbrev behind : Ticket → Bool
  behind it = not (in-front it)

  pub all-too : (P : Ticket → Type 0) → P ticket → All P tickets → All P (waiting_too ticket tickets)
  all-too P here all =
      All-append P (filter in-front tickets) (ticket ∷ filter behind tickets) (All-filter in-front P tickets all)
      (All-cons P ticket (filter behind tickets) here (All-filter behind P tickets all))

  pairs-too : All (Differ ticket) tickets → AllPairs Differ tickets → AllPairs Differ (waiting_too ticket tickets)
  pairs-too apart pairs =
      let front = filter in-front tickets in
      let back = filter behind tickets in
      joined front (ticket ∷ back) (AllPairs-filter Differ in-front tickets pairs)
      (AllPairs-cons Differ ticket back (All-filter behind (Differ ticket) tickets apart) (AllPairs-filter Differ behind tickets pairs))
      (λ k d small.
      All-cons (Differ (get_or front k d)) ticket back
      (turned ticket (get_or front k d) (All-filter in-front (Differ ticket) tickets apart k d small))
      (parted in-front tickets pairs k d small))

-- ---- fewer of them

pub fewer-not : (tickets : List Ticket) → Fewer tickets tickets
fewer-not tickets = record { pairs = λ it. it; from_one = λ one it. it; from_all = λ others it. it }

pub fewer-through : (old middle new : List Ticket) → Fewer old middle → Fewer middle new → Fewer old new
fewer-through old middle new front back = record {
  pairs = λ it. back.pairs (front.pairs it);
  from_one = λ one it. back.from_one one (front.from_one one it);
  from_all = λ others it. back.from_all others (front.from_all others it);
}

fewer-rest : (ticket : Ticket) (others : List Ticket) → Fewer (ticket ∷ others) others
fewer-rest ticket others = record {
  pairs = pairs-tail ticket others;
  from_one = λ one it. All-tail (Differ one) ticket others it;
  from_all = λ front it. All-tail (λ one. All (Differ one) front) ticket others it;
}

fewer-again : (schedule : Schedule) (now : ℕ) (ticket : Ticket) (others : List Ticket)
    → Fewer (ticket ∷ others) (waiting_too (again schedule now ticket) others)
fewer-again schedule now ticket others = record {
  pairs = λ it. pairs-too (again schedule now ticket) others (pairs-head ticket others it) (pairs-tail ticket others it);
  from_one = λ one it.
      all-too (again schedule now ticket) others (Differ one) (All-head (Differ one) ticket others it)
      (All-tail (Differ one) ticket others it);
  from_all = λ front it.
      all-too (again schedule now ticket) others (λ one. All (Differ one) front)
      (All-head (λ one. All (Differ one) front) ticket others it) (All-tail (λ one. All (Differ one) front) ticket others it);
}

fewer-kept : (p : Ticket → Bool) (tickets : List Ticket) → Fewer tickets (filter p tickets)
fewer-kept p tickets = record {
  pairs = AllPairs-filter Differ p tickets;
  from_one = λ one it. All-filter p (Differ one) tickets it;
  from_all = λ front it. All-filter p (λ one. All (Differ one) front) tickets it;
}

-- a moment leaves no others
pub fewer-due : (old new : Asking) (now : ℕ) (due : Option Due) → Dues old new now due → Fewer old.tickets new.tickets
fewer-due old new now None it = rw it.0 (fewer-not old.tickets)
fewer-due old new now (Some (Resend id octets)) it = rw (it.left, it.first) (fewer-again old.schedule now it.ticket it.others)
fewer-due old new now (Some (GaveUp id question)) it = rw (it.left, it.first) (fewer-rest it.ticket it.others)

pub distinct-fewer : (old new : QuestionsView) → Fewer old.datagrams.tickets new.datagrams.tickets
    → Fewer old.streams.tickets new.streams.tickets → AreDistinct old → AreDistinct new
distinct-fewer old new datagrams streams it = record {
  datagrams = datagrams.pairs it.datagrams;
  streams = streams.pairs it.streams;
  across = datagrams.from_all new.streams.tickets
      (λ k d small. streams.from_one (get_or old.datagrams.tickets k d) (it.across k d small));
}

-- a reply leaves no others
pub distinct-left : (over : DnsTransport) (incoming : Incoming) (old : QuestionsView) → AreDistinct old → AreDistinct
    (left_over over incoming old)
distinct-left Datagram (Ended id question ending) old it =
    distinct-fewer old (closed_over Datagram id old) (fewer-kept (λ ticket. not (has_id id ticket)) old.datagrams.tickets)
    (fewer-not old.streams.tickets) it
distinct-left Stream (Ended id question ending) old it =
    distinct-fewer old (closed_over Stream id old) (fewer-not old.datagrams.tickets)
    (fewer-kept (λ ticket. not (has_id id ticket)) old.streams.tickets) it
distinct-left Datagram (Ignored why) old it = it
distinct-left Stream (Ignored why) old it = it

-- one is closed over one of both
pub closed-one : (over : DnsTransport) (id : ℕ) (it : QuestionsView) → AreBounded it → AreBounded (closed_over over id it)
closed-one Datagram id it bounded = record {
  distinct = distinct-fewer it (closed_over Datagram id it) (fewer-kept (λ ticket. not (has_id id ticket)) it.datagrams.tickets)
      (fewer-not it.streams.tickets) bounded.distinct;
  few_datagrams = bounded.few_datagrams;
  few_streams = bounded.few_streams;
  scheduled = bounded.scheduled;
}
closed-one Stream id it bounded = record {
  distinct = distinct-fewer it (closed_over Stream id it) (fewer-not it.datagrams.tickets)
      (fewer-kept (λ ticket. not (has_id id ticket)) it.streams.tickets) bounded.distinct;
  few_datagrams = bounded.few_datagrams;
  few_streams = bounded.few_streams;
  scheduled = bounded.scheduled;
}

-- one is closed over both
pub closed-bounded : (id : ℕ) (it : QuestionsView) → AreBounded it → AreBounded (closed_both id it)
closed-bounded id it bounded = record {
  distinct = distinct-fewer it (closed_both id it) (fewer-kept (λ ticket. not (has_id id ticket)) it.datagrams.tickets)
      (fewer-kept (λ ticket. not (has_id id ticket)) it.streams.tickets) bounded.distinct;
  few_datagrams = bounded.few_datagrams;
  few_streams = bounded.few_streams;
  scheduled = bounded.scheduled;
}

-- ---- a question is asked

none-by : (id : ℕ) (x : Ticket) (xs : List Ticket) (is : Bool) → has_id id x ≡ is → find (has_id id) (x ∷ xs) ≡ None
    → (find (has_id id) xs ≡ None → All (λ it. it.sent.id ≢ id) xs) → All (λ it. it.sent.id ≢ id) (x ∷ xs)
none-by id x xs true is none rest = absurd (let there = rw is at none in cc)
none-by id x xs false is none rest =
    let there : find (has_id id) xs ≡ None = rw is at none in
    All-cons (λ (it : Ticket). it.sent.id ≢ id) x xs (search rules) (rest there)

pub none-has : (id : ℕ) (xs : List Ticket) → ticket_of id xs ≡ None → All (λ it. it.sent.id ≢ id) xs
none-has id [] none = All-nil (λ (it : Ticket). it.sent.id ≢ id)
none-has id (x ∷ xs) none = none-by id x xs (has_id id x) refl none (none-has id xs)

module _ (id : ℕ) (question : Question) (now : ℕ) where
  abbrev ticket : Schedule → Ticket
  ticket schedule = record { sent = record { id = id; question = question; sends = 1 }; deadline = now + schedule.wait }

  apart-from : (schedule : Schedule) (tickets : List Ticket) → LacksQuestion question tickets → ticket_of id tickets ≡ None
      → All (Differ (ticket schedule)) tickets
  apart-from schedule tickets lacks none = λ k d small. ((λ e. none-has id tickets none k d small (sym e)), (λ e. lacks k d small (sym e)))

  pub distinct-asked : (over : DnsTransport) (old : QuestionsView) → AreDistinct old → Lacks question old
      → ticket_of id old.datagrams.tickets ≡ None
      → ticket_of id old.streams.tickets ≡ None → AreDistinct (asked_over over id question now old)
  distinct-asked Datagram old it lacks none other =
      let one-more = ticket old.datagrams.schedule in
      let here = apart-from old.datagrams.schedule old.datagrams.tickets lacks.datagrams none in
      let there = apart-from old.datagrams.schedule old.streams.tickets lacks.streams other in
      record {
        datagrams = pairs-too one-more old.datagrams.tickets here it.datagrams;
        streams = it.streams;
        across = all-too one-more old.datagrams.tickets (λ one. All (Differ one) old.streams.tickets) there it.across;
      }
  distinct-asked Stream old it lacks none other =
      let one-more = ticket old.streams.schedule in
      let here = apart-from old.streams.schedule old.datagrams.tickets lacks.datagrams none in
      let there = apart-from old.streams.schedule old.streams.tickets lacks.streams other in
      record {
        datagrams = it.datagrams;
        streams = pairs-too one-more old.streams.tickets there it.streams;
        across = λ k d small.
            let one : Ticket = get_or old.datagrams.tickets k d in
            all-too one-more old.streams.tickets (Differ one) (turned one-more one (here k d small)) (it.across k d small);
      }

-- ---- what the askers did

pub heard-datagram : {E : Type 0} (old : QuestionsView) (new : Asking) (result : Result Incoming E)
    → IfOk result (λ it. new ≡ left_by it old.datagrams) → OnErr result (new ≡ old.datagrams) → AreDistinct old
    → AreDistinct (record { datagrams = new; streams = old.streams })
heard-datagram old new (Ok (Ended id question ending)) left unchanged it =
    rw left (distinct-left Datagram (Ended id question ending) old it)
heard-datagram old new (Ok (Ignored why)) left unchanged it = rw left it
heard-datagram old new (Err _) left unchanged it = rw unchanged it

pub heard-stream : {E : Type 0} (old : QuestionsView) (new : Asking) (result : Result Incoming E)
    → IfOk result (λ it. new ≡ left_by it old.streams) → OnErr result (new ≡ old.streams) → AreDistinct old
    → AreDistinct (record { datagrams = old.datagrams; streams = new })
heard-stream old new (Ok (Ended id question ending)) left unchanged it = rw left (distinct-left Stream (Ended id question ending) old it)
heard-stream old new (Ok (Ignored why)) left unchanged it = rw left it
heard-stream old new (Err _) left unchanged it = rw unchanged it

module _ (id : ℕ) (question : Question) (now : ℕ) (old : QuestionsView) (it : AreDistinct old) (lacks : Lacks question old)
    (none : ticket_of id old.datagrams.tickets ≡ None) (other : ticket_of id old.streams.tickets ≡ None) where
  pub asked-datagram : {E : Type 0} (new : Asking) (result : Result ℕ E)
      → IfOk result (λ found. (found ≡ id) × (new ≡ asked id question now old.datagrams)) → OnErr result (new ≡ old.datagrams)
      → AreDistinct (record { datagrams = new; streams = old.streams })
  asked-datagram new (Ok found) is unchanged = rw is.1 (distinct-asked id question now Datagram old it lacks none other)
  asked-datagram new (Err _) is unchanged = rw unchanged it

  pub asked-stream : {E : Type 0} (new : Asking) (result : Result ℕ E)
      → IfOk result (λ found. (found ≡ id) × (new ≡ asked id question now old.streams)) → OnErr result (new ≡ old.streams)
      → AreDistinct (record { datagrams = old.datagrams; streams = new })
  asked-stream new (Ok found) is unchanged = rw is.1 (distinct-asked id question now Stream old it lacks none other)
  asked-stream new (Err _) is unchanged = rw unchanged it
