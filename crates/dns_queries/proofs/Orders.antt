-- The tickets stay as they always are, whatever happens.
use Rattle.std.proofs.Common.{◌≡◌, ℕ, suc, ◌+◌, ◌<◌, ◌≤◌, Bool, true, false, not, nat_le, leb, leb-true, List, [], ◌∷◌, ◌++◌, length, get_or, Some, None, Ok, Err, refl, arith, rules}
use Rattle.std.specs.List.{All, AllPairs, filter, find}
use Rattle.std.proofs.lemmas.List.{length-append}
use Rattle.std.proofs.lemmas.List.Filters.{length-filter_both}
use Rattle.std.proofs.lemmas.List.Elements.{All-append, All-cons, All-filter, All-head, All-tail, filter_passes}
use Rattle.std.proofs.lemmas.List.Kept.{AllPairs-cons, AllPairs-filter}
use Rattle.dns_queries.proofs.Listing.{both, counted, first-counted, none-found}
use Rattle.dns_queries.specs.Events.{again}
use Rattle.dns_queries.specs.Runs.{Event, Runs, Step}
use Rattle.dns_queries.specs.Runs as runs
use Rattle.dns_queries.specs.Tickets.{Asking, IsAsking, IsSent, Ticket, has_id, waiting_too}
use Rattle.dns_queries.specs.declared.incoming.Due.TheVariants.{Resend, GaveUp}
use Rattle.dns_queries.specs.declared.incoming.Incoming.TheVariants.{Ended, Ignored}
use Rattle.dns_queries.specs.declared.schedule.Schedule.{Schedule}

abbrev InOrder : Ticket → Ticket → Type 0
InOrder ticket later = ticket.deadline ≤ later.deadline

-- two parts in order, and no ticket of the first is later than one of the second
joined : (front back : List Ticket) → AllPairs InOrder front → AllPairs InOrder back → All (λ it. All (InOrder it) back) front
    → AllPairs InOrder (front ++ back)
joined [] back first second cross = second
joined (x ∷ front) back first second cross =
    AllPairs-cons InOrder x (front ++ back)
    (All-append (InOrder x) front back (λ k d small. first 0 (suc k) d (omega arith) (omega arith))
    (All-head (λ it. All (InOrder it) back) x front cross))
    (joined front back (λ i j d lt small. first (suc i) (suc j) d (omega arith) (omega arith)) second
    (All-tail (λ it. All (InOrder it) back) x front cross))

later-than : (n m : ℕ) → not (leb n m) ≡ true → m ≤ n
later-than n m e = search rules

module _ (ticket : Ticket) (tickets : List Ticket) where
  abbrev in-front : Ticket → Bool
  in-front it = nat_le it.deadline ticket.deadline

  front-before : All (λ it. InOrder it ticket) (filter in-front tickets)
  front-before k d small = leb-true _ _ (filter_passes in-front tickets k d small)

  back-behind : All (InOrder ticket) (filter (λ it. not (in-front it)) tickets)
  back-behind k d small = later-than _ _ (filter_passes (λ it. not (in-front it)) tickets k d small)

  waiting-in-order : AllPairs InOrder tickets → AllPairs InOrder (waiting_too ticket tickets)
  waiting-in-order order =
      let back = filter (λ it. not (in-front it)) tickets in
      joined (filter in-front tickets) (ticket ∷ back) (AllPairs-filter InOrder in-front tickets order)
      (AllPairs-cons InOrder ticket back back-behind (AllPairs-filter InOrder (λ it. not (in-front it)) tickets order))
      (λ k d small.
      let it : Ticket = get_or (filter in-front tickets) k d in
      let first : it.deadline ≤ ticket.deadline = front-before k d small in
      All-cons (InOrder it) ticket back first
      (λ j e below. let second : ticket.deadline ≤ (get_or back j e).deadline = back-behind j e below in omega (arith, first, second)))

  waiting-sent : (schedule : Schedule) → IsSent schedule ticket.sent → All (λ it. IsSent schedule it.sent) tickets
      → All (λ it. IsSent schedule it.sent) (waiting_too ticket tickets)
  waiting-sent schedule sent all =
      All-append (λ it. IsSent schedule it.sent) (filter in-front tickets) (ticket ∷ filter (λ it. not (in-front it)) tickets)
      (All-filter in-front (λ it. IsSent schedule it.sent) tickets all)
      (All-cons (λ it. IsSent schedule it.sent) ticket (filter (λ it. not (in-front it)) tickets) sent
      (All-filter (λ it. not (in-front it)) (λ it. IsSent schedule it.sent) tickets all))

long-too : (ticket : Ticket) (tickets : List Ticket) → length (waiting_too ticket tickets) ≡ length tickets + 1
long-too ticket tickets =
    let front = filter (in-front ticket tickets) tickets in
    let back = filter (λ it. not (in-front ticket tickets it)) tickets in
    let parts = length-append front (ticket ∷ back) in
    let all = length-filter_both (in-front ticket tickets) (λ it. not (in-front ticket tickets it)) (λ _. refl) tickets in
    omega (arith, parts, all)

-- ---- each event

module _ (asking : Asking) (it : IsAsking asking) where
  single-by : (ticket : Ticket) (id : ℕ) (is : Bool) → has_id id ticket ≡ is → find (has_id ticket.sent.id) asking.tickets ≡ None
      → length (filter (has_id id) (ticket ∷ [])) + length (filter (has_id id) asking.tickets) ≤ 1
  single-by ticket id true is free =
      let same : ticket.sent.id ≡ id = search rules in
      let none = none-found (has_id id) asking.tickets (rw same at free) in
      rw is omega (arith, none)
  single-by ticket id false is free = let single = it.single id in rw is omega (arith, single)

  -- a ticket more, of an id that has none
  pub more-in-order : (ticket : Ticket) (serial : ℕ) → IsSent asking.schedule ticket.sent
      → find (has_id ticket.sent.id) asking.tickets ≡ None
      → length asking.tickets < asking.limit → IsAsking (record asking { tickets = waiting_too ticket asking.tickets; serial = serial })
  more-in-order ticket serial sent free room = record {
    in_order = waiting-in-order ticket asking.tickets it.in_order;
    single = λ id. rw (counted (in-front ticket asking.tickets) (has_id id) ticket asking.tickets)
        (single-by ticket id (has_id id ticket) refl free);
    sent = waiting-sent ticket asking.tickets asking.schedule sent it.sent;
    few = let more = long-too ticket asking.tickets in omega (arith, more, room);
    scheduled = it.scheduled;
  }

  -- tickets are left out
  pub fewer-in-order : (p : Ticket → Bool) → IsAsking (record asking { tickets = filter p asking.tickets })
  fewer-in-order p = record {
    in_order = AllPairs-filter InOrder p asking.tickets it.in_order;
    single = λ id. let all = both p (has_id id) asking.tickets in let single = it.single id in omega (arith, all, single);
    sent = All-filter p (λ (ticket : Ticket). IsSent asking.schedule ticket.sent) asking.tickets it.sent;
    few =
        let few = it.few in
        let all = length-filter_both p (λ ticket. not (p ticket)) (λ _. refl) asking.tickets in
        omega (arith, few, all);
    scheduled = it.scheduled;
  }

  module _ (ticket : Ticket) (others : List Ticket) (whole : asking.tickets ≡ ticket ∷ others) where
    -- the first ticket is gone
    pub rest-in-order : IsAsking (record asking { tickets = others })
    rest-in-order =
        let order = rw whole at it.in_order in
        let sent = rw whole at it.sent in
        let few = rw whole at it.few in
        record {
          in_order = λ i j d lt small. order (suc i) (suc j) d (omega arith) (omega arith);
          single = λ id.
              let all = first-counted (has_id id) ticket others in
              let single = rw whole at it.single id in
              omega (arith, all, single);
          sent = All-tail (λ (it : Ticket). IsSent asking.schedule it.sent) ticket others sent;
          few = omega (arith, few);
          scheduled = it.scheduled;
        }

    same-count : (now id : ℕ) (is : Bool) → has_id id ticket ≡ is
        → length (filter (has_id id) (again asking.schedule now ticket ∷ [])) ≡ length (filter (has_id id) (ticket ∷ []))
    same-count now id true is = rw is refl
    same-count now id false is = rw is refl

    -- the first ticket is sent once more
    pub resent-in-order : (now : ℕ) → ticket.sent.sends < asking.schedule.sends
        → IsAsking (record asking { tickets = waiting_too (again asking.schedule now ticket) others })
    resent-in-order now more =
        let ticket' = again asking.schedule now ticket in
        let rest = rest-in-order in
        let few = rw whole at it.few in
        record {
          in_order = waiting-in-order ticket' others rest.in_order;
          single = λ id.
              let one = counted (in-front ticket' others) (has_id id) ticket' others in
              let same = same-count now id (has_id id ticket) refl in
              let all = first-counted (has_id id) ticket others in
              let single = rw whole at it.single id in
              omega (arith, one, same, all, single);
          sent = waiting-sent ticket' others asking.schedule (record { some = omega arith; few = omega (arith, more) }) rest.sent;
          few = let long = long-too ticket' others in omega (arith, long, few);
          scheduled = it.scheduled;
        }

step-in-order : (old new : Asking) (event : Event) → IsAsking old → Step old new event → IsAsking new
step-in-order old new (runs.ask id question now) it (runs.asked (Ok octets) asks) =
    let some = it.scheduled.sends.0 in
    rw asks.1 (more-in-order old it
    (record { sent = record { id = id; question = question; sends = 1 }; deadline = now + old.schedule.wait }) (old.serial + 1)
    (record { some = omega arith; few = omega (arith, some) }) asks.2 asks.3)
step-in-order old new (runs.ask id question now) it (runs.asked (Err refusal) asks) = rw asks.0 it
step-in-order old new (runs.hear octets) it (runs.heard (Ended id question ending) means left) =
    rw left (fewer-in-order old it (λ ticket. not (has_id id ticket)))
step-in-order old new (runs.hear octets) it (runs.heard (Ignored why) means left) = rw left it
step-in-order old new (runs.hear octets) it (runs.unheard left) = rw left it
step-in-order old new (runs.cancel id) it (runs.cancelled left) =
    rw left (fewer-in-order old it (λ ticket. not (has_id id ticket)))
step-in-order old new (runs.wait now) it (runs.waited None dues) = rw dues.0 it
step-in-order old new (runs.wait now) it (runs.waited (Some (Resend id octets)) dues) =
    rw dues.left (resent-in-order old it dues.ticket dues.others dues.first now dues.more)
step-in-order old new (runs.wait now) it (runs.waited (Some (GaveUp id question)) dues) =
    rw dues.left (rest-in-order old it dues.ticket dues.others dues.first)

pub in-order-along : (first last : Asking) (events : List Event) → IsAsking first → Runs first events last → IsAsking last
in-order-along first last events it runs.begun = it
in-order-along first last events it (runs.further before event old new along step) =
    step-in-order old new event (in-order-along first old before it along) step
