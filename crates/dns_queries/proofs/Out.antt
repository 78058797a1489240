-- Which questions are out.
use Rattle.std.proofs.Common.{◌≡◌, ◌≢◌, nat_eq, ℕ, suc, ◌≤◌, Bool, true, false, List, [], ◌∷◌, ◌++◌, length, map, Some, None, refl, sym, ap, ◌∙◌, append_assoc, arith, rules}
use Rattle.std.proofs.lemmas.List.{append-nil, length-append, map-append}
use Rattle.std.proofs.lemmas.List.Elements.{All-map, All-push, filter-append}
use Rattle.std.specs.Bool.{⊤}
use Rattle.std.specs.List.{All, filter, find}
use Rattle.pending_list.specs.Pending.{Pending}
use Rattle.pending_list.specs.declared.entry.Entry.{Entry}
use Rattle.dns_message.specs.declared.question.Question.{Question}
use Rattle.dns_queries.proofs.Listing.{all-stay, found-has, none-found, taken}
use Rattle.dns_queries.specs.Events.{closed, sent_octets}
use Rattle.dns_queries.specs.Listed.{asking_of, is_of, ticket_in}
use Rattle.dns_queries.specs.Out.{HasQuestion, IsOctetsOf, LacksQuestion}
use Rattle.dns_queries.specs.Tickets.{Asking, IsAsking, Sent, Ticket, has_id, ticket_of}
use Rattle.dns_queries.specs.declared.schedule.Schedule.{Schedule}

same-id : (a b : ℕ) → nat_eq a b ≡ true → a ≡ b
same-id a b is = search rules

found-passes : {X : Type 0} (p : X → Bool) (xs : List X) (found : X) → find p xs ≡ Some found → p found ≡ true
found-passes p xs found is = (found-has p (λ it. ⊤) xs found (λ k it within. tt) is).1

-- the octets of the ticket of an id
pub octets-are : (schedule : Schedule) (list : Pending Sent) (id : ℕ) (entry : Entry Sent) (octets : List ℕ)
    → find (is_of id) list.entries ≡ Some entry
    → octets ≡ sent_octets entry.item.id entry.item.question → IsOctetsOf octets id (asking_of schedule list).tickets
octets-are schedule list id entry octets first are =
    let its = same-id entry.item.id id (found-passes (is_of id) list.entries entry first) in
    record { ticket = ticket_in entry; there = taken list id entry first; are = are ∙ ap (λ i. sent_octets i entry.item.question) its }

-- the entry of an id has that id
pub id-is : (list : Pending Sent) (id : ℕ) (entry : Entry Sent) → find (is_of id) list.entries ≡ Some entry → entry.item.id ≡ id
id-is list id entry first = same-id entry.item.id id (found-passes (is_of id) list.entries entry first)

-- the question of the ticket of an id
pub question-is : (schedule : Schedule) (list : Pending Sent) (id : ℕ) (entry : Entry Sent) (question : Question)
    → find (is_of id) list.entries ≡ Some entry
    → question ≡ entry.item.question → HasQuestion question id (asking_of schedule list).tickets
question-is schedule list id entry question first is =
    record { ticket = ticket_in entry; there = taken list id entry first; of_it = sym is }

-- where an id has no ticket, all stay
pub closed-none : (id : ℕ) (asking : Asking) → ticket_of id asking.tickets ≡ None → asking ≡ closed id asking
closed-none id asking none =
    ap (λ l. record asking { tickets = l })
    (sym (all-stay (has_id id) asking.tickets (none-found (has_id id) asking.tickets none)))

-- ---- a search along the tickets

-- none of the entries in front of the rest is of the question
pub record Searched (question : Question) (entries rest : List (Entry Sent)) : Type 0 where
  pub front : List (Entry Sent)
  pub whole : entries ≡ front ++ rest
  pub none : All (λ it. it.item.question ≢ question) front

pub search-on : (question : Question) (entries : List (Entry Sent)) (entry : Entry Sent) (rest : List (Entry Sent))
    → Searched question entries (entry ∷ rest) → entry.item.question ≢ question → Searched question entries rest
search-on question entries entry rest it other = record {
  front = it.front ++ entry ∷ [];
  whole = it.whole ∙ sym (append_assoc it.front (entry ∷ []) rest);
  none = All-push (λ (it : Entry Sent). it.item.question ≢ question) it.front entry it.none other;
}

pub search-over : (schedule : Schedule) (question : Question) (list : Pending Sent) → Searched question list.entries []
    → LacksQuestion question (asking_of schedule list).tickets
search-over schedule question list it =
    let same : it.front ≡ list.entries = sym (it.whole ∙ append-nil it.front) in
    let none = rw same at it.none in
    All-map (λ (it : Ticket). it.sent.question ≢ question) ticket_in list.entries none

module _ {X : Type 0} (p : X → Bool) where
  only-by : (x : X) (xs : List X) (found : X) (is : Bool) → p x ≡ is → length (filter p (x ∷ xs)) ≤ 1 → p found ≡ true
      → (length (filter p xs) ≤ 1 → find p xs ≡ Some found) → (length (filter p xs) ≡ 0 → ⊥) → find p (x ∷ xs) ≡ Some found
  only-by x xs found true is few passes later some = absurd (some (let few' = rw is at few in omega (arith, few')))
  only-by x xs found false is few passes later some = rw is (later (rw is at few))

  behind-passes : (front : List X) (found : X) (back : List X) → p found ≡ true → length (filter p (front ++ found ∷ back)) ≡ 0 → ⊥
  behind-passes front found back passes none =
      let parts = ap length (filter-append p front (found ∷ back)) ∙ length-append (filter p front) (filter p (found ∷ back)) in
      let here : length (filter p (found ∷ back)) ≡ suc (length (filter p back)) = rw passes refl in
      omega (arith, parts, here, none)

  -- the only one that passes is found
  pub only : (front : List X) (found : X) (back : List X) → p found ≡ true → length (filter p (front ++ found ∷ back)) ≤ 1
      → find p (front ++ found ∷ back) ≡ Some found
  only [] found back passes few = rw passes refl
  only (x ∷ front) found back passes few =
      only-by x (front ++ found ∷ back) found (p x) refl few passes (only front found back passes)
      (behind-passes front found back passes)

pub search-hit : (schedule : Schedule) (question : Question) (list : Pending Sent) (entry : Entry Sent) (rest : List (Entry Sent))
    → Searched question list.entries (entry ∷ rest) → entry.item.question ≡ question → IsAsking (asking_of schedule list)
    → HasQuestion question entry.item.id (asking_of schedule list).tickets
search-hit schedule question list entry rest it is asking =
    let id = entry.item.id in
    let whole : map ticket_in list.entries ≡ map ticket_in it.front ++ ticket_in entry ∷ map ticket_in rest =
    ap (map ticket_in) it.whole ∙ map-append ticket_in it.front (entry ∷ rest) in
    let passes : has_id id (ticket_in entry) ≡ true = search rules in
    let few = rw whole at asking.single id in
    record {
      ticket = ticket_in entry;
      there = ap (ticket_of id) whole ∙ only (has_id id) (map ticket_in it.front) (ticket_in entry) (map ticket_in rest) passes few;
      of_it = is;
    }
