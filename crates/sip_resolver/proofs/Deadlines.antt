-- The least deadline of open questions.
use Rattle.std.proofs.Common.{◌≡◌, ℕ, ◌+◌, ◌<◌, ◌≤◌, List, [], ◌∷◌, ◌++◌, get_or, length, map, take, slice_get, Option, Some, None, refl, sym, ap, ◌∙◌, arith}
use Rattle.std.specs.List.{All, Contains, filter_map}
use Rattle.std.specs.Option.{IfSome, option_map}
use Rattle.std.proofs.lemmas.List.Elements.{All-append, All-cons, All-contains, All-contains_itself, All-head, All-map, All-nil, All-tail, All-weaker, Contains-append_left, Contains-append_right, filter_map-append}
use Rattle.std.proofs.lemmas.List.{append-nil, take_more, take_all}
use Rattle.dns_queries.specs.Tickets.{Asking, Ticket}
use Rattle.sip_resolver.specs.Idle.{IsInWait}
use Rattle.sip_resolver.specs.Questions.{IsLeast, QuestionsView, deadlines_of}
use Rattle.sip_resolver.specs.Sends.{IsOverdue, tickets_of}

abbrev pub deadline : Ticket → ℕ
deadline ticket = ticket.deadline

-- the deadline of the first ticket, which is none of the others'
pub least-of : (tickets : List Ticket) (result : Option ℕ) → result ≡ option_map deadline (slice_get tickets 0)
    → IfSome result (λ it. All (λ (ticket : Ticket). it ≤ ticket.deadline) tickets) → IsLeast (map deadline tickets) result
least-of [] result first least = rw first refl
least-of (x ∷ xs) None first least = absurd cc
least-of (x ∷ xs) (Some due) first least =
    let same : due ≡ x.deadline = cc in
    ((0, omega arith, rw same refl), All-map (λ number. due ≤ number) deadline (x ∷ xs) least)

module _ (front back : List ℕ) where
  all-at-least : (least : ℕ) → All (λ number. least ≤ number) front → All (λ number. least ≤ number) back
      → All (λ number. least ≤ number) (front ++ back)
  all-at-least least first second = All-append (λ number. least ≤ number) front back first second

  pub least-in-front : (one other : ℕ) → IsLeast front (Some one) → IsLeast back (Some other) → one ≤ other
      → IsLeast (front ++ back) (Some one)
  least-in-front one other first second less = (
    Contains-append_left front back one first.0,
    all-at-least one first.1 (λ k d small. let more = second.1 k d small in omega (arith, more, less)),
  )

  pub least-behind : (one other : ℕ) → IsLeast front (Some one) → IsLeast back (Some other) → other ≤ one
      → IsLeast (front ++ back) (Some other)
  least-behind one other first second less = (
    Contains-append_right front back other second.0,
    all-at-least other (λ k d small. let more = first.1 k d small in omega (arith, more, less)) second.1,
  )

  pub none-in-front : (result : Option ℕ) → front ≡ [] → IsLeast back result → IsLeast (front ++ back) result
  none-in-front result none it = rw none it

  pub none-behind : (one : ℕ) → IsLeast front (Some one) → back ≡ [] → IsLeast (front ++ back) (Some one)
  none-behind one it none = rw (none, append-nil front) it

pub none-at-front : (front back : List ℕ) → front ++ back ≡ [] → front ≡ []
none-at-front [] back none = refl
none-at-front (x ∷ front) back none = absurd cc

-- ---- whether the least deadline is over

overdue-in : (asking : Asking) (tickets : List Ticket) (now due : ℕ) → asking.tickets ≡ tickets
    → Some due ≡ option_map deadline (slice_get tickets 0) → due ≤ now → IsOverdue now asking
overdue-in asking [] now due same first over = absurd cc
overdue-in asking (x ∷ xs) now due same first over =
    let is : due ≡ x.deadline = cc in
    record { ticket = x; others = xs; first = same; over = rw (← is) over }

pub overdue : (asking : Asking) (now due : ℕ) → Some due ≡ option_map deadline (slice_get asking.tickets 0) → due ≤ now
    → IsOverdue now asking
overdue asking now due first over = overdue-in asking asking.tickets now due refl first over

pub in-wait : (tickets : List Ticket) (now due : ℕ) → All (λ (ticket : Ticket). due ≤ ticket.deadline) tickets → (due ≤ now → ⊥)
    → All (IsInWait now) tickets
in-wait tickets now due least not = λ k d small.
    let more = least k d small in let less : now < due = omega (arith, not) in omega (arith, more, less)

-- until a later moment, so until an earlier one
pub wait-longer : (now later : ℕ) (tickets : List Ticket) → now ≤ later → All (IsInWait later) tickets → All (IsInWait now) tickets
wait-longer now later tickets less all = λ k d small. let more = all k d small in omega (arith, more, less)

pub none-in-wait : (tickets : List Ticket) (now : ℕ) → None ≡ option_map deadline (slice_get tickets 0) → All (IsInWait now) tickets
none-in-wait [] now first = All-nil (IsInWait now)
none-in-wait (x ∷ xs) now first = absurd cc

-- ---- the deadlines, as those of tickets

of-map : (least : ℕ) (tickets : List Ticket) → All (λ number. least ≤ number) (map deadline tickets)
    → All (λ (ticket : Ticket). least ≤ ticket.deadline) tickets
of-map least [] all = All-nil (λ (ticket : Ticket). least ≤ ticket.deadline)
of-map least (x ∷ xs) all =
    All-cons (λ (ticket : Ticket). least ≤ ticket.deadline) x xs (All-head (λ number. least ≤ number) x.deadline (map deadline xs) all)
    (of-map least xs (All-tail (λ number. least ≤ number) x.deadline (map deadline xs) all))

module _ (P : ℕ → Type 0) where
  pub front-of : (xs ys : List ℕ) → All P (xs ++ ys) → All P xs
  front-of [] ys all = All-nil P
  front-of (x ∷ xs) ys all = All-cons P x xs (All-head P x (xs ++ ys) all) (front-of xs ys (All-tail P x (xs ++ ys) all))

  pub back-of : (xs ys : List ℕ) → All P (xs ++ ys) → All P ys
  back-of [] ys all = all
  back-of (x ∷ xs) ys all = back-of xs ys (All-tail P x (xs ++ ys) all)

-- none has a lesser deadline than the least one
pub at-least : (it : QuestionsView) (least : ℕ) → All (λ number. least ≤ number) (deadlines_of it)
    → All (λ (ticket : Ticket). least ≤ ticket.deadline) (tickets_of it)
at-least it least all =
    let datagrams = map deadline it.datagrams.tickets in
    let streams = map deadline it.streams.tickets in
    All-append (λ (ticket : Ticket). least ≤ ticket.deadline) it.datagrams.tickets it.streams.tickets
    (of-map least it.datagrams.tickets (front-of (λ number. least ≤ number) datagrams streams all))
    (of-map least it.streams.tickets (back-of (λ number. least ≤ number) datagrams streams all))

-- one has it
pub record HasDeadline (tickets : List Ticket) (due : ℕ) : Type 0 where
  pub ticket : Ticket
  pub there : Contains tickets ticket
  pub is : ticket.deadline ≡ due

have-deadlines : (few many : List Ticket) → All (Contains many) few → All (HasDeadline many) (map deadline few)
have-deadlines few many all =
    All-map (HasDeadline many) deadline few
    (All-weaker (Contains many) (λ (ticket : Ticket). HasDeadline many ticket.deadline)
    (λ ticket there. record { ticket = ticket; there = there; is = refl }) few all)

pub one-of : (it : QuestionsView) (least : ℕ) → Contains (deadlines_of it) least → HasDeadline (tickets_of it) least
one-of it least there =
    let datagrams = it.datagrams.tickets in
    let streams = it.streams.tickets in
    All-contains (HasDeadline (tickets_of it)) (deadlines_of it) least
    (All-append (HasDeadline (tickets_of it)) (map deadline datagrams) (map deadline streams)
    (have-deadlines datagrams (tickets_of it)
    (All-weaker (Contains datagrams) (Contains (tickets_of it)) (Contains-append_left datagrams streams) datagrams
    (All-contains_itself datagrams)))
    (have-deadlines streams (tickets_of it)
    (All-weaker (Contains streams) (Contains (tickets_of it)) (Contains-append_right datagrams streams) streams
    (All-contains_itself streams)))) there

-- ---- the least of what items have

-- what one item has
least-one : {X : Type 0} (f : X → Option ℕ) (x : X) (has : Option ℕ) → f x ≡ has → IsLeast (filter_map f (x ∷ [])) has
least-one f x None is = rw is refl
least-one f x (Some number) is =
    rw is ((0, omega arith, refl), All-cons (λ it. number ≤ it) number [] (omega arith) (All-nil (λ it. number ≤ it)))

module _ {X : Type 0} (f : X → Option ℕ) (items : List X) (place : ℕ) where
  -- and those in front of it
  pub least-too : (x : X) → place < length items → x ≡ get_or items place x → (least has both : Option ℕ) → has ≡ f x
      → IsLeast (filter_map f (take place items)) least
      → ((ones others : List ℕ) → IsLeast ones least → IsLeast others has → IsLeast (ones ++ others) both)
      → IsLeast (filter_map f (take (place + 1) items)) both
  least-too x within here least has both is so-far joined =
      let more : take (place + 1) items ≡ take place items ++ x ∷ [] =
      take_more items place x within ∙ ap (λ it. take place items ++ it ∷ []) (sym here) in
      rw (more, filter_map-append f (take place items) (x ∷ []))
      (joined (filter_map f (take place items)) (filter_map f (x ∷ [])) so-far (least-one f x has (sym is)))

  pub least-all : (least : Option ℕ) → length items ≤ place → IsLeast (filter_map f (take place items)) least
      → IsLeast (filter_map f items) least
  least-all least all it = rw (take_all place items all) at it
