-- Questions that are let go, as the time of a request is over that waited for them.
use Rattle.std.proofs.Common.{◌≡◌, ◌⊎◌, inl, inr, ℕ, ◌+◌, ◌<◌, ◌≤◌, nat_eq, ◌&&◌, Bool, true, false, not, List, [], ◌∷◌, ◌++◌, Option, Some, None, refl, ap, arith, rules}
use Rattle.std.specs.List.{All, Contains, filter, filter_map}
use Rattle.std.proofs.lemmas.List.Elements.{All-append, All-cons, All-contains, All-contains_itself, All-filter, All-head, All-nil, All-tail, All-weaker, Contains-append_left, Contains-append_right}
use Rattle.dns_queries.specs.Tickets.{Asking, Ticket}
use Rattle.sip_resolver.proofs.Deadlines.{back-of}
use Rattle.sip_resolver.specs.Cancels.{is_abandoned, is_awaited, questions_left, without_abandoned}
use Rattle.sip_resolver.specs.Dues.{IsLetGo}
use Rattle.sip_resolver.specs.Expiries.{HaveTime, is_expired, untils_of, waits_in_time}
use Rattle.sip_resolver.specs.Questions.{QuestionsView, schedule_of}
use Rattle.sip_resolver.specs.Requests.{RequestsView}
use Rattle.sip_resolver.specs.Resolvers.{Expires, ResolverView}
use Rattle.sip_resolver.specs.Sends.{AreSpaced, tickets_of}
use Rattle.sip_resolver.specs.Tasks.{TaskView, WaitingView}

same-as : (a b : ℕ) → nat_eq a b ≡ true → a ≡ b
same-as a b is = search rules

-- ---- who waited

module _ (now id : ℕ) where
  later : (it : WaitingView) (waiting : List WaitingView) → IsLetGo now waiting id → IsLetGo now (it ∷ waiting) id
  later it waiting late = record {
    it = late.it;
    there = Contains-append_right (it ∷ []) waiting late.it late.there;
    waits = late.waits;
    over = late.over;
  }

  late-by : (it : WaitingView) (waiting : List WaitingView) (is in-time : Bool) → nat_eq it.id id ≡ is → waits_in_time now it ≡ in-time
      → is_awaited (it ∷ waiting) id ≡ true → is_awaited (filter (waits_in_time now) (it ∷ waiting)) id ≡ false
      → (is_awaited waiting id ≡ true → is_awaited (filter (waits_in_time now) waiting) id ≡ false → IsLetGo now waiting id)
      → IsLetGo now (it ∷ waiting) id
  late-by it waiting true true is in-time waits not rest = absurd (let no = rw (in-time, is) at not in cc)
  late-by it waiting true false is in-time waits not rest =
      record { it = it; there = (0, omega arith, refl); waits = same-as it.id id is; over = in-time }
  late-by it waiting false true is in-time waits not rest = later it waiting (rest (rw is at waits) (rw (in-time, is) at not))
  late-by it waiting false false is in-time waits not rest = later it waiting (rest (rw is at waits) (rw in-time at not))

  -- one that waited, where none waits any more
  late-among : (waiting : List WaitingView) → is_awaited waiting id ≡ true → is_awaited (filter (waits_in_time now) waiting) id ≡ false
      → IsLetGo now waiting id
  late-among [] waits not = absurd cc
  late-among (it ∷ waiting) waits not =
      late-by it waiting (nat_eq it.id id) (waits_in_time now it) refl refl waits not (late-among waiting)

  -- where each has time left, none is late
  pub not-late : (requests : RequestsView) → HaveTime now requests → IsLetGo now requests.waiting id → ⊥
  not-late requests have late =
      let in-time : waits_in_time now late.it ≡ true =
      All-contains (λ it. waits_in_time now it ≡ true) requests.waiting late.it have.waiting late.there in
      let over = late.over in cc

-- ---- what is left of some

module _ {X : Type 0} (p : X → Bool) where
  abbrev is-left : List X → X → Type 0
  is-left xs x = Contains (filter p xs) x ⊎ (p x ≡ false)

  left-more : (x : X) (xs : List X) (each : X) → is-left xs each → p x ≡ true → is-left (x ∷ xs) each
  left-more x xs each (inl there) is = inl (rw is (Contains-append_right (x ∷ []) (filter p xs) each there))
  left-more x xs each (inr not) is = inr not

  left-by : (x : X) (xs : List X) (is : Bool) → p x ≡ is → All (is-left xs) xs → All (is-left (x ∷ xs)) (x ∷ xs)
  left-by x xs true is all =
      All-cons (is-left (x ∷ xs)) x xs (inl (rw is (0, omega arith, refl)))
      (All-weaker (is-left xs) (is-left (x ∷ xs)) (λ each it. left-more x xs each it is) xs all)
  left-by x xs false is all = All-cons (is-left (x ∷ xs)) x xs (inr is) (rw is all)

  all-left : (xs : List X) → All (is-left xs) xs
  all-left [] = All-nil (is-left [])
  all-left (x ∷ xs) = left-by x xs (p x) refl (all-left xs)

-- a ticket is left, or who waited for its question is late
abbrev pub IsLeftOrLate : ℕ → List WaitingView → QuestionsView → Ticket → Type 0
IsLeftOrLate now waiting left ticket = Contains (tickets_of left) ticket ⊎ IsLetGo now waiting ticket.sent.id

module _ (now : ℕ) (old new : List WaitingView) (is : new ≡ filter (waits_in_time now) old) where
  late-of : (id : ℕ) (was still : Bool) → is_awaited old id ≡ was → is_awaited new id ≡ still → not (was && not still) ≡ false
      → IsLetGo now old id
  late-of id true true was still not = absurd cc
  late-of id true false was still not = late-among now id old was (rw is at still)
  late-of id false still was still' not = absurd cc

  one-left : (asking : Asking) (left : QuestionsView)
      → ((ticket : Ticket) → Contains (without_abandoned old new asking).tickets ticket → Contains (tickets_of left) ticket)
      → (ticket : Ticket) → is-left (λ (it : Ticket). not (is_abandoned old new it.sent.id)) asking.tickets ticket
      → IsLeftOrLate now old left ticket
  one-left asking left more ticket (inl there) = inl (more ticket there)
  one-left asking left more ticket (inr not) =
      inr (late-of ticket.sent.id (is_awaited old ticket.sent.id) (is_awaited new ticket.sent.id) refl refl not)

  tickets-left : (asking : Asking) (left : QuestionsView)
      → ((ticket : Ticket) → Contains (without_abandoned old new asking).tickets ticket → Contains (tickets_of left) ticket)
      → All (IsLeftOrLate now old left) asking.tickets
  tickets-left asking left more =
      All-weaker (is-left (λ (it : Ticket). not (is_abandoned old new it.sent.id)) asking.tickets) (IsLeftOrLate now old left)
      (one-left asking left more) asking.tickets (all-left (λ (it : Ticket). not (is_abandoned old new it.sent.id)) asking.tickets)

  both-left : (questions : QuestionsView) → All (IsLeftOrLate now old (questions_left old new questions)) (tickets_of questions)
  both-left questions =
      let left = questions_left old new questions in
      All-append (IsLeftOrLate now old left) questions.datagrams.tickets questions.streams.tickets
      (tickets-left questions.datagrams left (Contains-append_left left.datagrams.tickets left.streams.tickets))
      (tickets-left questions.streams left (Contains-append_right left.datagrams.tickets left.streams.tickets))

pub left-or-late : (now : ℕ) (old new : ResolverView) → Expires now old new
    → All (IsLeftOrLate now old.requests.waiting new.questions) (tickets_of old.questions)
left-or-late now old new it =
    let waiting : new.requests.waiting ≡ filter (waits_in_time now) old.requests.waiting =
    ap (λ (v : RequestsView). v.waiting) it.requests.others in
    rw it.questions (both-left now old.requests.waiting new.requests.waiting waiting old.questions)

-- ---- before the first moment by which a request ends

module _ {X : Type 0} (until : X → Option ℕ) (P : ℕ → Type 0) where
  abbrev is-so : X → Type 0
  is-so x = (moment : ℕ) → until x ≡ Some moment → P moment

  so-by : (x : X) (xs : List X) (is : Option ℕ) → until x ≡ is → All P (filter_map until (x ∷ xs))
      → (All P (filter_map until xs) → All is-so xs) → All is-so (x ∷ xs)
  so-by x xs None is all rest = All-cons is-so x xs (λ moment same. absurd (let no = rw is at same in cc)) (rest (rw is at all))
  so-by x xs (Some first) is all rest =
      let whole : All P (first ∷ filter_map until xs) = rw is at all in
      All-cons is-so x xs
      (λ moment same.
      let its : first ≡ moment = (let both = rw is at same in cc) in
      rw (← its) (All-head P first (filter_map until xs) whole))
      (rest (All-tail P first (filter_map until xs) whole))

  all-so : (xs : List X) → All P (filter_map until xs) → All is-so xs
  all-so [] all = All-nil is-so
  all-so (x ∷ xs) all = so-by x xs (until x) refl all (all-so xs)

early-by : (now least : ℕ) (until : Option ℕ) → now < least → not (is_expired now until) ≡ false
    → ((moment : ℕ) → until ≡ Some moment → least ≤ moment) → ⊥
early-by now least None early over so = cc
early-by now least (Some moment) early over so =
    let more = so moment refl in
    let less : moment ≤ now = search (rules, over) in
    omega (arith, early, more, less)

pub none-before : (now least : ℕ) (requests : RequestsView) → All (λ number. least ≤ number) (untils_of requests) → now < least
    → (id : ℕ) → IsLetGo now requests.waiting id → ⊥
none-before now least requests all early id late =
    let untils = filter_map (λ (task : TaskView). task.until) requests.ready
    ++ filter_map (λ (task : TaskView). task.until) requests.held in
    let those = back-of (λ number. least ≤ number) untils (filter_map (λ (it : WaitingView). it.task.until) requests.waiting) all in
    early-by now least late.it.task.until early late.over
    (All-contains (is-so (λ (it : WaitingView). it.task.until) (λ number. least ≤ number)) requests.waiting late.it
    (all-so (λ (it : WaitingView). it.task.until) (λ number. least ≤ number) requests.waiting those) late.there)

-- ---- what is left was out

few-left : (old new : List WaitingView) (asking : Asking) → All (Contains asking.tickets) (without_abandoned old new asking).tickets
few-left old new asking =
    All-filter (λ (it : Ticket). not (is_abandoned old new it.sent.id)) (Contains asking.tickets) asking.tickets
    (All-contains_itself asking.tickets)

few-left-both : (old new : List WaitingView) (questions : QuestionsView)
    → All (Contains (tickets_of questions)) (tickets_of (questions_left old new questions))
few-left-both old new questions =
    let datagrams = questions.datagrams in
    let streams = questions.streams in
    All-append (Contains (tickets_of questions)) (without_abandoned old new datagrams).tickets (without_abandoned old new streams).tickets
    (All-weaker (Contains datagrams.tickets) (Contains (tickets_of questions)) (Contains-append_left datagrams.tickets streams.tickets)
    (without_abandoned old new datagrams).tickets (few-left old new datagrams))
    (All-weaker (Contains streams.tickets) (Contains (tickets_of questions)) (Contains-append_right datagrams.tickets streams.tickets)
    (without_abandoned old new streams).tickets (few-left old new streams))

still-out : (now : ℕ) (old middle : ResolverView) → Expires now old middle
    → All (Contains (tickets_of old.questions)) (tickets_of middle.questions)
still-out now old middle it = rw it.questions (few-left-both old.requests.waiting middle.requests.waiting old.questions)

module _ (now asked : ℕ) (old middle : ResolverView) (it : Expires now old middle) where
  spaced-one : (ticket : Ticket)
      → Contains (tickets_of middle.questions) ticket ⊎ (asked + (schedule_of middle.questions).wait ≤ ticket.deadline)
      → Contains (tickets_of old.questions) ticket ⊎ (asked + (schedule_of old.questions).wait ≤ ticket.deadline)
  spaced-one ticket (inl there) =
      inl (All-contains (Contains (tickets_of old.questions)) (tickets_of middle.questions) ticket (still-out now old middle it) there)
  spaced-one ticket (inr late) =
      let same : schedule_of middle.questions ≡ schedule_of old.questions = rw it.questions refl in
      inr (rw (← same) late)

  -- each question waits as long as it did, or was sent
  spaced-all : (new : QuestionsView) → AreSpaced asked middle.questions new → AreSpaced asked old.questions new
  spaced-all new spaced =
      All-weaker
      (λ ticket. Contains (tickets_of middle.questions) ticket ⊎ (asked + (schedule_of middle.questions).wait ≤ ticket.deadline))
      (λ ticket. Contains (tickets_of old.questions) ticket ⊎ (asked + (schedule_of old.questions).wait ≤ ticket.deadline))
      spaced-one (tickets_of new) spaced

pub spaced-expired : (now asked : ℕ) (old middle : ResolverView) (new : QuestionsView) → Expires now old middle
    → AreSpaced asked middle.questions new → AreSpaced asked old.questions new
spaced-expired now asked old middle new it spaced = spaced-all now asked old middle it new spaced
