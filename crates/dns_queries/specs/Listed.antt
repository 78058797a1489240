-- The tickets in an asker's list. No public clause cites this module.
use Rattle.std.specs.Prelude.{◌≡◌, ℕ, ◌+◌, ◌-◌, ◌^◌, ◌==◌, ◌<◌, ◌≤◌, Bool, List, ◌∷◌, Option, Some, None, IsSome, Result, Ok, Err, length, map}
use Rattle.std.specs.List.{All, find}
use Rattle.std.specs.Option.{option_map}
use Rattle.pending_list.specs.Ids.{Id}
use Rattle.pending_list.specs.Pending.{Pending, entry_of, placed}
use Rattle.pending_list.specs.declared.entry.Entry.{Entry}
use Rattle.dns_queries.specs.Events.{sent_again, sent_octets}
use Rattle.dns_queries.specs.TicketLists.{TicketList}
use Rattle.dns_queries.specs.Tickets.{Asking, IsAsking, Sent, Ticket}
use Rattle.dns_queries.specs.declared.incoming.Due.{Due}
use Rattle.dns_queries.specs.declared.incoming.Due.TheVariants.{Resend, GaveUp}
use Rattle.dns_queries.specs.declared.refusal.AskRefusal.{AskRefusal}
use Rattle.dns_queries.specs.declared.refusal.AskRefusal.TheVariants.{IdTaken, Full, Spent, Memory}
use Rattle.dns_queries.specs.declared.schedule.Schedule.{Schedule}
use Rattle.dns_queries.specs.declared.tickets.Overdue.{Overdue}
use Rattle.dns_queries.specs.declared.tickets.Overdue.TheVariants.{Again, GivenUp}

abbrev pub ticket_in : Entry Sent → Ticket
ticket_in entry = record { sent = entry.item; deadline = entry.deadline }

abbrev pub asking_of : Schedule → Pending Sent → Asking
asking_of schedule list = record {
  tickets = map ticket_in list.entries;
  limit = list.limit;
  serial = list.serial;
  schedule = schedule;
}

abbrev pub is_of : ℕ → Entry Sent → Bool
is_of id entry = entry.item.id == id

-- the first entry of an id stands at this place
pub record Finds (entries : List (Entry Sent)) (id : ℕ) (at : Id) : Type 0 where
  pub entry : Entry Sent
  pub first : find (is_of id) entries ≡ Some entry
  pub there : entry_of at entries ≡ Some entry

-- where the entry of an id stands
abbrev pub pending_id_of : List (Entry Sent) → ℕ → Option Id
pending_id_of entries id = option_map (λ it. it.id) (find (is_of id) entries)

-- The tickets are as they always are, and a table of places leads from each id to its entry alone.
pub record IsKept (schedule : Schedule) (list : Pending Sent) (place : ℕ → Option Id) : Type 0
  where
    pub asking : IsAsking (asking_of schedule list)
    pub places : (id : ℕ) → place id ≡ pending_id_of list.entries id

-- it was sent once more, and has another deadline
abbrev pub resent : ℕ → Entry Sent → Entry Sent
resent deadline entry = record entry { deadline = deadline; item = sent_again entry.item }

-- ---- what is done with the tickets in the list

-- why none is opened under an id
abbrev pub CannotOpen : Pending Sent → ℕ → AskRefusal → Type 0
CannotOpen list id IdTaken = IsSome (find (is_of id) list.entries)
CannotOpen list id Full = (find (is_of id) list.entries ≡ None) × (length list.entries ≡ list.limit)
CannotOpen list id Spent =
    (find (is_of id) list.entries ≡ None) × (length list.entries < list.limit)
    × (list.serial ≡ 2 ^ 64 - 1)
CannotOpen list id Memory =
    (find (is_of id) list.entries ≡ None) × (length list.entries < list.limit)
    × (list.serial < 2 ^ 64 - 1)

-- what opening a ticket with this deadline leaves and gives
abbrev pub Opens : Pending Sent → Pending Sent → Sent → ℕ → Result Id AskRefusal → Type 0
Opens old new sent deadline (Ok at) =
    (new ≡ record old {
      entries = placed (record { id = at; deadline = deadline; item = sent }) old.entries;
      serial = old.serial + 1;
    })
    × (entry_of at new.entries ≡ Some (record { id = at; deadline = deadline; item = sent }))
    × (find (is_of sent.id) old.entries ≡ None) × (length old.entries < old.limit)
    × (old.serial < 2 ^ 64 - 1)
Opens old new sent deadline (Err refusal) = (new ≡ old) × CannotOpen old sent.id refusal

-- the first entry, and the others
pub record IsFirst (entries : List (Entry Sent)) (now : ℕ) : Type 0 where
  pub entry : Entry Sent
  pub others : List (Entry Sent)
  pub first : entries ≡ entry ∷ others
  pub over : entry.deadline ≤ now

-- what a moment leaves of the list by a schedule, and asks for
abbrev pub IsOverdue : Schedule → Pending Sent → TicketList → ℕ → Option Overdue → Type 0
IsOverdue schedule old new now None = (new.list ≡ old) × All (λ it. now < it.deadline) old.entries
IsOverdue schedule old new now (Some (Again at)) =
    (first : IsFirst old.entries now) × (first.entry.item.sends < schedule.sends)
    × (new.list ≡ record old {
      entries = placed (resent (now + schedule.wait) first.entry) first.others;
    })
    × (entry_of at new.list.entries ≡ Some (resent (now + schedule.wait) first.entry))
IsOverdue schedule old new now (Some GivenUp) =
    (first : IsFirst old.entries now) × (schedule.sends ≤ first.entry.item.sends)
    × (new.given_up ≡ Some first.entry.item)
    × (new.list ≡ record old { entries = first.others })

-- what is overdue is in the list, or was given up
abbrev pub IsThere : TicketList → Overdue → Type 0
IsThere it (Again at) = IsSome (entry_of at it.list.entries)
IsThere it GivenUp = IsSome it.given_up

-- what is told of it
abbrev pub ToldBy : TicketList → Overdue → Due → Type 0
ToldBy it (Again at) (Resend id octets) =
    (entry : Entry Sent) × (entry_of at it.list.entries ≡ Some entry) × (id ≡ entry.item.id)
    × (octets.now ≡ sent_octets entry.item.id entry.item.question)
ToldBy it GivenUp (GaveUp id question) =
    (sent : Sent) × (it.given_up ≡ Some sent) × (id ≡ sent.id) × (question.now ≡ sent.question)
ToldBy it (Again at) (GaveUp id question) = ⊥
ToldBy it GivenUp (Resend id octets) = ⊥
