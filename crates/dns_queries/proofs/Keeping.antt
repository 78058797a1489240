-- What is done with the list leaves the tickets as they always are.
use Rattle.std.proofs.Common.{◌≡◌, ℕ, ◌+◌, ◌<◌, not, List, ◌∷◌, length, map, Option, Some, None, IsSome, refl, ap}
use Rattle.std.specs.List.{find}
use Rattle.std.proofs.lemmas.List.{length-map}
use Rattle.pending_list.specs.Pending.{IsTakenOut, Pending, placed}
use Rattle.pending_list.specs.declared.entry.Entry.{Entry}
use Rattle.dns_queries.proofs.Listing.{free, mapped-placed}
use Rattle.dns_queries.proofs.Orders.{fewer-in-order, more-in-order, resent-in-order, rest-in-order}
use Rattle.dns_queries.proofs.Reading.{left-is}
use Rattle.dns_queries.specs.Listed.{asking_of, is_of, resent, ticket_in}
use Rattle.dns_queries.specs.Tickets.{IsAsking, IsSent, Sent, has_id}
use Rattle.dns_queries.specs.declared.schedule.Schedule.{Schedule}

module _ (schedule : Schedule) (list : Pending Sent) (it : IsAsking (asking_of schedule list)) where
  -- one more, of an id that has none
  pub kept-more : (entry : Entry Sent) (serial : ℕ) → IsSent schedule entry.item → find (is_of entry.item.id) list.entries ≡ None
      → length list.entries < list.limit
      → IsAsking (asking_of schedule (record list { entries = placed entry list.entries; serial = serial }))
  kept-more entry serial sent none room =
      rw (mapped-placed entry list.entries)
      (more-in-order (asking_of schedule list) it (ticket_in entry) serial sent (free list entry.item.id none)
      (rw (length-map list.entries ticket_in) room))

  -- one is taken out
  pub kept-without : (new : Pending Sent) (entry : Entry Sent) → IsTakenOut list.entries entry new.entries
      → new ≡ record list { entries = new.entries } → IsAsking (asking_of schedule new)
  kept-without new entry out rest =
      rw (left-is schedule list new it entry out rest)
      (fewer-in-order (asking_of schedule list) it (λ ticket. not (has_id entry.item.id ticket)))

  module _ (first : Entry Sent) (others : List (Entry Sent)) (whole : list.entries ≡ first ∷ others) where
    -- the first was sent once more
    pub kept-resent : (now : ℕ) → first.item.sends < schedule.sends
        → IsAsking (asking_of schedule (record list { entries = placed (resent (now + schedule.wait) first) others }))
    kept-resent now more =
        rw (mapped-placed (resent (now + schedule.wait) first) others)
        (resent-in-order (asking_of schedule list) it (ticket_in first) (map ticket_in others) (ap (map ticket_in) whole) now more)

    -- the first is gone
    pub kept-rest : IsAsking (asking_of schedule (record list { entries = others }))
    kept-rest = rest-in-order (asking_of schedule list) it (ticket_in first) (map ticket_in others) (ap (map ticket_in) whole)

pub there : {T : Type 0} (found : Option T) → IsSome found → (value : T) × (found ≡ Some value)
there None it = absurd cc
there (Some value) it = (value, refl)
