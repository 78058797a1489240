-- What contracts see of the seats of a shared cache.
use Rattle.std.specs.Prelude.{◌≡◌, ◌≢◌, ℕ, ◌+◌, ◌<◌, ◌≤◌, ◌⊎◌, List, [], length, None}
use base.Stored.{Coded, coded×, coded_ℕ, coded_via}
use Rattle.logbook.specs.Pages.{Book, book_coded}
use Rattle.dns_message.specs.declared.question.Question.{Question}
use Rattle.answer_log.specs.Histories.{cached, mine}
use Rattle.answer_log.specs.Handles.{spent_of}
use Rattle.answer_log.specs.Logs.{history}
use Rattle.answer_log.specs.declared.handle.Handle.{Handle}
use Rattle.answer_log.specs.declared.store.Store.{Store}
use Rattle.answer_cache.specs.Lists.{IsGroupCount}
use Rattle.answer_cache.specs.Seats.{HasSeenRoom, Offer, SeatView, IsSeat}
use Rattle.answer_cache.specs.declared.refusal.CacheRefusal.{CacheRefusal}
use Rattle.answer_cache.specs.declared.refusal.CacheRefusal.TheVariants.{BadCount}
use Rattle.answer_cache.specs.declared.refusal.CacheRefusal.TheVariants.{Memory as NoMemory}
use Rattle.answer_cache.specs.declared.refusal.StoreRefusal.{StoreRefusal}
use Rattle.answer_cache.specs.declared.refusal.StoreRefusal.TheVariants.{Lifeless, GenerationFull}
use Rattle.answer_cache.specs.declared.refusal.StoreRefusal.TheVariants.{Contended, Memory}

-- what contracts see of a cache: which one it is, and how many seats and groups it was made with
pub record CacheView : Type 0 where
  pub book : Book
  pub seats : ℕ
  pub groups : ℕ

abbrev pub cache_view : Book → ℕ → ℕ → CacheView
cache_view book seats groups = record { book = book; seats = seats; groups = groups }

abbrev pub cache_coded : Coded CacheView
cache_coded = coded_via (coded× book_coded (coded× coded_ℕ coded_ℕ))
    (λ (it : CacheView). (it.book, (it.seats, it.groups)))
    (λ x y e i. cache_view (e i).0 (e i).1.0 (e i).1.1)

-- the cache that it was made with, what each book sees of its seats, how many links its calls went
-- along, how many times they tried to place a node, how many numbers led to no node, and how many
-- places on its shelf its nodes were named for
pub record SharedView : Type 0 where
  pub cache : CacheView
  pub seat : SeatView
  pub links : ℕ
  pub tries : ℕ
  pub missed : ℕ
  pub node_count : ℕ

abbrev pub view_of : Handle → List Offer → SharedView
view_of handle offered = record {
  cache = cache_view handle.book.book handle.seats handle.groups;
  seat = record {
    number = handle.number;
    seen = history handle.book.log;
    own = mine (history handle.book.log) handle.number;
    offered = offered;
    groups = handle.groups;
  };
  links = (spent_of handle).links;
  tries = (spent_of handle).tries;
  missed = (spent_of handle).missed;
  node_count = handle.node_count;
}

-- what a notice tells: the cache, and the history that a seat had seen
pub record NoticeView : Type 0 where
  pub cache : CacheView
  pub seen : List Store

-- the seat was made with this cache, and its book is of as many groups
pub record Belongs (cache : CacheView) (seat : SharedView) : Type 0 where
  pub made : seat.cache ≡ cache
  pub is : IsSeat seat.seat
  pub groups : seat.seat.groups ≡ cache.groups

-- the seat of this number, with so many stores
pub record HasStored (cache : CacheView) (number count : ℕ) (seat : SharedView) : Type 0 where
  pub here : Belongs cache seat
  pub numbered : seat.seat.number ≡ number
  pub stores : length seat.seat.own ≡ count

-- a new seat has seen an empty history
abbrev pub new_seat : CacheView → ℕ → SharedView
new_seat cache number =
    record {
      cache = cache;
      seat = record { number = number; seen = []; own = []; offered = []; groups = cache.groups };
      links = 0;
      tries = 0;
      missed = 0;
      node_count = 0;
    }

-- the number of seats is bad exactly outside 1 to 64; memory is needed only for a good one
abbrev pub Refuses : ℕ → CacheRefusal → Type 0
Refuses seats BadCount = (seats ≡ 0) ⊎ (64 < seats)
Refuses seats NoMemory = (0 < seats) × (seats ≤ 64)

-- the numbers of seats and of groups are bad exactly outside 1 to 64 seats, and where there is no
-- power of two from 64 to 65,536 of groups; memory is needed only for good ones
abbrev pub RefusesGroups : ℕ → ℕ → CacheRefusal → Type 0
RefusesGroups seats groups BadCount =
    (seats ≡ 0) ⊎ ((64 < seats) ⊎ (IsGroupCount groups → ⊥))
RefusesGroups seats groups NoMemory = (0 < seats) × (seats ≤ 64) × IsGroupCount groups

-- a call passes at most this number of links, and makes at most this number of tries
pub record Takes (old new : SharedView) (links tries : ℕ) : Type 0 where
  pub along : new.links ≤ old.links + links
  pub tried : new.tries ≤ old.tries + tries

-- a look-up needs memory only for an answer, unless a number led to no node
abbrev pub WantsForAnswer : Question → ℕ → SharedView → SharedView → Type 0
WantsForAnswer question now old new =
    (cached new.seat.seen question now ≢ None) ⊎ (old.missed < new.missed)

-- What a refused store leaves. Where the answer does not live, or the group is full before a try,
-- no node was named. Memory is needed before a try, where the group was not full at the first look,
-- unless a number led to no node.
abbrev pub Leaves : Question → SharedView → SharedView → StoreRefusal → Type 0
Leaves question old new Lifeless = (new.tries ≡ old.tries) × (new.node_count ≡ old.node_count)
Leaves question old new GenerationFull = new.tries ≡ old.tries → new.node_count ≡ old.node_count
Leaves question old new Contended = old.tries < new.tries
Leaves question old new Memory =
    ((new.tries ≡ old.tries)
    × HasSeenRoom old.seat.groups question old.seat.seen new.seat.seen)
    ⊎ (old.missed < new.missed)
