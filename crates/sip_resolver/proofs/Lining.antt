-- The queue of those that wait, over slots.
use Rattle.std.proofs.Common.{◌≡◌, ◌≢◌, ◌↔◌, ℕ, ◌<◌, ◌≤◌, ◌+◌, ◌-◌, List, [], ◌∷◌, ◌++◌, Some, None, Option, length, map, set, take, drop, refl, sym, ap, ◌∙◌, arith}
use Rattle.std.specs.Bool.{IsTrue}
use Rattle.std.specs.List.{All, Contains, slice_get}
use Rattle.std.specs.Option.{IsSomeAnd, MatchOption, is_some}
use Rattle.std.proofs.lemmas.List.{length-append, length-set, length_push, take-append-le}
use Rattle.std.proofs.lemmas.List.Elements.{All-contains, All-map, filter_map-append}
use Rattle.std.proofs.lemmas.Option.{same_Some}
use Rattle.sip_resolver.proofs.Queues.{found-there}
use Rattle.sip_resolver.proofs.Slotting.{emptied, items-left, items-parts, none-still, stands-there}
use Rattle.sip_resolver.proofs.Waiters.{none-awaited, none-of-id, there-awaited}
use Rattle.sip_resolver.specs.Cancels.{is_awaited}
use Rattle.sip_resolver.specs.Queues.{Queued}
use Rattle.sip_resolver.specs.Requests.{IsAwaitedBy, number_of_waiting}
use Rattle.sip_resolver.specs.Tasks.{TaskView, WaitingView}
use Rattle.sip_resolver.specs.WaitingQueues.{AreQueued, HaveOther, IsFirstOf, IsTakenAt, IsWithoutFirstFor, IsWithoutFirstNumbered, SlotView, id_of, items_of, slot_with, waiting_in}

-- ---- one more

pub items-more : (slots : List SlotView) (it : WaitingView) → items_of (slots ++ slot_with it ∷ []) ≡ items_of slots ++ it ∷ []
items-more slots it = filter_map-append waiting_in slots (slot_with it ∷ [])

pub queued-more : (was made new : Queued SlotView) (head start count room : ℕ) (it : WaitingView) → AreQueued was head count room
    → length (items_of was.items) < room → items_of made.items ≡ items_of was.items → made.room ≡ was.room
    → start ≤ length made.items → items_of (take start made.items) ≡ []
    → new ≡ record made { items = made.items ++ slot_with it ∷ [] } → AreQueued new start (count + 1) room
queued-more was made new head start count room it kept few same room-same within none is =
    let more = length_push made.items (slot_with it) in
    let long = ap length (items-more made.items it) ∙ length_push (items_of made.items) it in
    let old = ap length same in
    let counted = kept.counted in
    let enough = kept.enough in
    rw is record {
      none_before = rw (take-append-le start made.items (slot_with it ∷ []) within) none;
      head_within = omega (arith, more, within);
      counted = omega (arith, long, old, counted);
      few = omega (arith, few, counted);
      enough = omega (arith, enough, room-same);
    }

-- ---- one less

abbrev waiting_with : ℕ → TaskView → WaitingView
waiting_with id task = record { id = id; task = task }

-- a slot tells the request that waits in it
same-waiting : (one other : WaitingView) → slot_with one ≡ slot_with other → one ≡ other
same-waiting one other same =
    let ids : one.id ≡ other.id = ap (λ (slot : SlotView). slot.id) same in
    let tasks = same_Some one.task other.task (ap (λ (slot : SlotView). slot.task) same) in
    ap (λ id. waiting_with id one.task) ids ∙ ap (λ task. waiting_with other.id task) tasks

module _ (place : ℕ) (it : WaitingView) (was new : Queued SlotView) (out : IsTakenAt place it was new) where
  abbrev pub front : List WaitingView
  front = items_of (take place was.items)

  abbrev pub back : List WaitingView
  back = items_of (drop (place + 1) was.items)

  pub was-parts : items_of was.items ≡ front ++ it ∷ back
  was-parts = items-parts was.items place (slot_with it) out.there

  pub new-parts : items_of new.items ≡ front ++ back
  new-parts =
      ap (λ (q : Queued SlotView). items_of q.items) out.left ∙ items-left was.items place (slot_with it) out.there it.id

  pub one-less : length (items_of was.items) ≡ length (items_of new.items) + 1
  one-less =
      let all = ap length was-parts ∙ length-append front (it ∷ back) in
      let left = ap length new-parts ∙ length-append front back in
      omega (arith, all, left)

  new-items : new.items ≡ set was.items place (emptied it.id)
  new-items = ap (λ (q : Queued SlotView). q.items) out.left

  -- the head stays in front of all that wait
  pub none-in-front : (head : ℕ) → items_of (take head was.items) ≡ [] → items_of (take head new.items) ≡ []
  none-in-front head none = rw new-items (none-still was.items head place it.id none)

  pub queued-less : (head start count room : ℕ) → AreQueued was head count room → start ≤ length was.items
      → items_of (take start was.items) ≡ [] → AreQueued new start (count - 1) room
  queued-less head start count room kept within none =
      let less = one-less in
      let long = ap length new-items ∙ length-set was.items place (emptied it.id) in
      let room-same = ap (λ (q : Queued SlotView). q.room) out.left in
      let counted = kept.counted in
      let few = kept.few in
      let enough = kept.enough in
      record {
        none_before = none-in-front start none;
        head_within = omega (arith, within, long);
        counted = omega (arith, less, counted);
        few = omega (arith, few);
        enough = omega (arith, enough, room-same);
      }

  pub some-wait : (head count room : ℕ) → AreQueued was head count room → 0 < count
  some-wait head count room kept = let less = one-less in let counted = kept.counted in omega (arith, less, counted)

  -- the first one is taken out
  pub first-out : items_of (take place was.items) ≡ [] → items_of was.items ≡ it ∷ items_of new.items
  first-out none = was-parts ∙ rw (new-parts, none) refl

  -- the first one that has a key is taken out
  module _ (key_of : WaitingView → ℕ) (key : ℕ) (is_first : IsFirstOf key_of key place was.items) where
    its-key : key_of it ≡ key
    its-key =
        let same = same_Some (slot_with it) (slot_with is_first.it) (sym out.there ∙ is_first.waits) in
        ap key_of (same-waiting it is_first.it same) ∙ is_first.has_key

  pub out-for : (id room : ℕ) → IsFirstOf id_of id place was.items
      → IsWithoutFirstFor id it (record { items = items_of was.items; room = room }) (record { items = items_of new.items; room = room })
  out-for id room is_first = record {
    first = front;
    later = back;
    was = was-parts;
    is_first = none-of-id id front is_first.none_before;
    waits = its-key id_of id is_first;
    left = ap (λ items. record { items = items; room = room }) new-parts;
  }

  pub out-numbered : (number room : ℕ) → IsFirstOf number_of_waiting number place was.items
      → IsWithoutFirstNumbered number it (record { items = items_of was.items; room = room })
      (record { items = items_of new.items; room = room })
  out-numbered number room is_first = record {
    first = front;
    later = back;
    was = was-parts;
    is_first = is_first.none_before;
    has_number = its-key number_of_waiting number is_first;
    left = ap (λ items. record { items = items; room = room }) new-parts;
  }

-- ---- whether one waits

pub awaited-where : (id : ℕ) (slots : List SlotView) (found : Option ℕ)
    → MatchOption found (HaveOther id_of id (items_of slots)) (λ place. IsFirstOf id_of id place slots)
    → is_some found ≡ is_awaited (items_of slots) id
awaited-where id slots None none = sym (none-awaited id (items_of slots) (none-of-id id (items_of slots) none))
awaited-where id slots (Some place) is_first =
    let it = is_first.it in
    let same : it ≡ record { id = id; task = it.task } = ap (λ n. record { id = n; task = it.task }) is_first.has_key in
    rw (items-parts slots place (slot_with it) is_first.waits)
    (rw same (sym (there-awaited id it.task (items_of (take place slots)) (items_of (drop (place + 1) slots)))))

-- ---- which one has a number

pub awaited-by : (number place id : ℕ) (slots : List SlotView) → IsFirstOf number_of_waiting number place slots
    → IsSomeAnd (slice_get slots place) (λ slot. id ≡ slot.id) → IsAwaitedBy number id (items_of slots)
awaited-by number place id slots is_first there = record {
  it = is_first.it;
  stands = stands-there slots place is_first.it is_first.waits;
  numbered = is_first.has_key;
  waits = let is = rw is_first.waits at there in sym is;
}

pub has-where : (number : ℕ) (items : List WaitingView) (found : Option ℕ)
    → MatchOption found (All (λ (it : WaitingView). it.task.number ≢ number) items) (λ id. IsAwaitedBy number id items)
    → IsTrue (is_some found) ↔ Contains (map number_of_waiting items) number
has-where number items None none = (
  (λ some. absurd cc),
  (λ there. absurd (All-contains (λ n. n ≢ number) (map number_of_waiting items) number
      (All-map (λ n. n ≢ number) number_of_waiting items none) there refl)),
)
has-where number items (Some id) it = (
  (λ some. found it.stands),
  (λ there. refl),
)
  where
    found : Contains items it.it → Contains (map number_of_waiting items) number
    found (at, within, is) = found-there number_of_waiting number items at it.it within (sym is) it.numbered
