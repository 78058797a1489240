-- What is kept of the requests inside, as one comes or goes.
use Rattle.std.proofs.Common.{◌≡◌, ℕ, ◌+◌, ◌<◌, ◌≤◌, List, [], ◌∷◌, ◌++◌, Option, length, sym, ap, ◌∙◌, arith}
use Rattle.std.specs.List.{All}
use Rattle.std.proofs.lemmas.List.{length-append}
use Rattle.std.proofs.lemmas.List.Sums.{sum_by-append, sum_by-cons}
use Rattle.sip_resolver.proofs.Earlier.{counted, few-at, held-out, held-too, ready-too, waiting-out, waiting-too}
use Rattle.sip_resolver.proofs.Numbers.{counts-as, few-of-each, some-at}
use Rattle.sip_resolver.proofs.Weighing as weighing
use Rattle.sip_resolver.specs.Earliest.{IsEarliest, ends_at, untils_in}
use Rattle.sip_resolver.specs.NumberFilters.{Counts, FilterView, count_at}
use Rattle.sip_resolver.specs.Outcomes.{Ended, Sought}
use Rattle.sip_resolver.specs.Queues.{Queued}
use Rattle.sip_resolver.specs.Requests.{AreKept, HaveRoom, IsBack, RequestsView, requests_of, weigh_numbers}
use Rattle.sip_resolver.specs.Tasks.{TaskView, WaitingView, sought_of}
use Rattle.sip_resolver.specs.WaitingQueues.{IsWithoutFirstFor}
use Rattle.sip_resolver.specs.declared.earliest.Earliest.{Earliest}

module _ (ready held : Queued TaskView) (waiting : Queued WaitingView) (ended : Queued Ended) (limit : ℕ) (earliest : Earliest)
    (numbers : FilterView) (kept : AreKept ready held waiting ended limit earliest numbers) where
  abbrev count : ℕ
  count = length ready.items + length held.items + length waiting.items + length ended.items

  abbrev untils : List (Option ℕ)
  untils = untils_in ready.items held.items waiting.items

  -- one more can be counted
  pub few-there : count < limit → earliest.count < 18446744073709551615
  few-there room =
      let few = few-at ready.items held.items waiting.items earliest kept.earliest_is in
      let fits = kept.fits in
      omega (arith, few, room, fits)

  pub few-numbers : count < limit → All (λ count. count < 18446744073709551615) numbers.counts
  few-numbers room =
      few-of-each (requests_of ready.items held.items waiting.items ended.items limit) numbers kept.numbers_are limit room kept.fits

  -- what is known after one more, and after one less
  abbrev Added : Earliest → Option ℕ → Type 0
  Added now until = (untils : List (Option ℕ)) → IsEarliest untils earliest → IsEarliest (until ∷ untils) now

  abbrev Removed : Earliest → Option ℕ → Type 0
  Removed now until = (untils : List (Option ℕ)) → IsEarliest (until ∷ untils) earliest → IsEarliest untils now

  abbrev Noted : FilterView → ℕ → Type 0
  Noted filter number = (total : (ℕ → ℕ) → ℕ) → Counts total numbers → Counts (λ h. total h + h number) filter

  abbrev Struck : FilterView → ℕ → Type 0
  Struck filter number = (total : (ℕ → ℕ) → ℕ) → Counts (λ h. total h + h number) numbers → Counts total filter

  abbrev old : RequestsView
  old = requests_of ready.items held.items waiting.items ended.items limit

  -- ---- the numbers

  numbers-more : (sought : Sought) (new : RequestsView) (filter : FilterView) → IsBack sought old new → Noted filter sought.number
      → Counts (weigh_numbers new) filter
  numbers-more sought new filter back noted =
      counts-as (λ h. weigh_numbers old h + h sought.number) (weigh_numbers new) filter
      (λ h. sym (back.weighs (λ it. h it.number))) (noted (weigh_numbers old) kept.numbers_are)

  abbrev IsLess : RequestsView → ℕ → Type 0
  IsLess new number = (h : ℕ → ℕ) → weigh_numbers old h ≡ weigh_numbers new h + h number

  numbers-with : (number : ℕ) (new : RequestsView) → IsLess new number → Counts (λ h. weigh_numbers new h + h number) numbers
  numbers-with number new less = counts-as (weigh_numbers old) (λ h. weigh_numbers new h + h number) numbers less kept.numbers_are

  numbers-less : (number : ℕ) (new : RequestsView) (filter : FilterView) → IsLess new number → Struck filter number
      → Counts (weigh_numbers new) filter
  numbers-less number new filter less struck = struck (weigh_numbers new) (numbers-with number new less)

  number-there : (number : ℕ) (new : RequestsView) → IsLess new number → 0 < count_at number numbers
  number-there number new less = some-at number (weigh_numbers new) numbers (numbers-with number new less)

  ready-weighs : (task : TaskView) (new : Queued TaskView) → ready.items ≡ task ∷ new.items
      → IsLess (requests_of new.items held.items waiting.items ended.items limit) task.number
  ready-weighs task new first = λ h.
      let its = sum_by-cons (λ (it : TaskView). h it.number) task new.items in
      rw first (omega (arith, its))

  held-weighs : (task : TaskView) (new : Queued TaskView) → held.items ≡ task ∷ new.items
      → IsLess (requests_of ready.items new.items waiting.items ended.items limit) task.number
  held-weighs task new first = λ h.
      let its = sum_by-cons (λ (it : TaskView). h it.number) task new.items in
      rw first (omega (arith, its))

  waiting-weighs : (first later : List WaitingView) (one : WaitingView) → waiting.items ≡ first ++ one ∷ later
      → IsLess (requests_of ready.items held.items (first ++ later) ended.items limit) one.task.number
  waiting-weighs first later one was = λ h.
      let whole = sum_by-append (λ (it : WaitingView). h it.task.number) first (one ∷ later) in
      let its = sum_by-cons (λ (it : WaitingView). h it.task.number) one later in
      let left = sum_by-append (λ (it : WaitingView). h it.task.number) first later in
      rw was (omega (arith, whole, its, left))

  ended-weighs : (one : Ended) (new : Queued Ended) → ended.items ≡ one ∷ new.items
      → IsLess (requests_of ready.items held.items waiting.items new.items limit) one.sought.number
  ended-weighs one new first = λ h.
      let its = sum_by-cons (λ (it : Ended). h it.sought.number) one new.items in
      rw first (omega (arith, its))

  pub ready-there : (task : TaskView) (new : Queued TaskView) → ready.items ≡ task ∷ new.items → 0 < count_at task.number numbers
  ready-there task new first = number-there task.number (requests_of new.items held.items waiting.items ended.items limit)
      (ready-weighs task new first)

  pub held-there : (task : TaskView) (new : Queued TaskView) → held.items ≡ task ∷ new.items → 0 < count_at task.number numbers
  held-there task new first = number-there task.number (requests_of ready.items new.items waiting.items ended.items limit)
      (held-weighs task new first)

  pub waiting-there : (first later : List WaitingView) (one : WaitingView) → waiting.items ≡ first ++ one ∷ later
      → 0 < count_at one.task.number numbers
  waiting-there first later one was = number-there one.task.number
      (requests_of ready.items held.items (first ++ later) ended.items limit) (waiting-weighs first later one was)

  pub ended-there : (one : Ended) (new : Queued Ended) → ended.items ≡ one ∷ new.items → 0 < count_at one.sought.number numbers
  ended-there one new first = number-there one.sought.number (requests_of ready.items held.items waiting.items new.items limit)
      (ended-weighs one new first)

  -- ---- one queue changes

  with-ready : (new : Queued TaskView) → new.room ≡ ready.room
      → length new.items + length held.items + length waiting.items + length ended.items ≤ limit
      → HaveRoom new held waiting ended limit
  with-ready new same few = record {
    ready_room = same ∙ kept.room.ready_room;
    held_room = kept.room.held_room;
    waiting_room = kept.room.waiting_room;
    ended_room = kept.room.ended_room;
    few = few;
  }

  with-held : (new : Queued TaskView) → new.room ≡ held.room
      → length ready.items + length new.items + length waiting.items + length ended.items ≤ limit
      → HaveRoom ready new waiting ended limit
  with-held new same few = record {
    ready_room = kept.room.ready_room;
    held_room = same ∙ kept.room.held_room;
    waiting_room = kept.room.waiting_room;
    ended_room = kept.room.ended_room;
    few = few;
  }

  with-waiting : (new : Queued WaitingView) → new.room ≡ waiting.room
      → length ready.items + length held.items + length new.items + length ended.items ≤ limit
      → HaveRoom ready held new ended limit
  with-waiting new same few = record {
    ready_room = kept.room.ready_room;
    held_room = kept.room.held_room;
    waiting_room = same ∙ kept.room.waiting_room;
    ended_room = kept.room.ended_room;
    few = few;
  }

  with-ended : (new : Queued Ended) → new.room ≡ ended.room
      → length ready.items + length held.items + length waiting.items + length new.items ≤ limit
      → HaveRoom ready held waiting new limit
  with-ended new same few = record {
    ready_room = kept.room.ready_room;
    held_room = kept.room.held_room;
    waiting_room = kept.room.waiting_room;
    ended_room = same ∙ kept.room.ended_room;
    few = few;
  }

  -- ---- one more

  pub ready-more : (task : TaskView) (new : Queued TaskView) (now : Earliest) (filter : FilterView)
      → new ≡ record ready { items = ready.items ++ task ∷ [] } → count < limit → Added now task.until → Noted filter task.number
      → AreKept new held waiting ended limit now filter
  ready-more task new now filter is room added noted =
      let items : new.items ≡ ready.items ++ task ∷ [] = ap (λ (q : Queued TaskView). q.items) is in
      let long = ap length items ∙ length-append ready.items (task ∷ []) in
      record {
        room = with-ready new (ap (λ (q : Queued TaskView). q.room) is) (omega (arith, long, room));
        fits = kept.fits;
        earliest_is = rw items (ready-too ready.items held.items waiting.items now task (added untils kept.earliest_is));
        numbers_are = rw items
            (numbers-more (sought_of task) (requests_of (ready.items ++ task ∷ []) held.items waiting.items ended.items limit)
            filter (weighing.ready-more old task) noted);
      }

  pub held-more : (task : TaskView) (new : Queued TaskView) (now : Earliest) (filter : FilterView)
      → new ≡ record held { items = held.items ++ task ∷ [] } → count < limit → Added now task.until → Noted filter task.number
      → AreKept ready new waiting ended limit now filter
  held-more task new now filter is room added noted =
      let items : new.items ≡ held.items ++ task ∷ [] = ap (λ (q : Queued TaskView). q.items) is in
      let long = ap length items ∙ length-append held.items (task ∷ []) in
      record {
        room = with-held new (ap (λ (q : Queued TaskView). q.room) is) (omega (arith, long, room));
        fits = kept.fits;
        earliest_is = rw items (held-too ready.items held.items waiting.items now task (added untils kept.earliest_is));
        numbers_are = rw items
            (numbers-more (sought_of task) (requests_of ready.items (held.items ++ task ∷ []) waiting.items ended.items limit)
            filter (weighing.held-more old task) noted);
      }

  pub waiting-more : (last : WaitingView) (new : Queued WaitingView) (now : Earliest) (filter : FilterView)
      → new ≡ record waiting { items = waiting.items ++ last ∷ [] } → count < limit → Added now last.task.until
      → Noted filter last.task.number
      → AreKept ready held new ended limit now filter
  waiting-more last new now filter is room added noted =
      let items : new.items ≡ waiting.items ++ last ∷ [] = ap (λ (q : Queued WaitingView). q.items) is in
      let long = ap length items ∙ length-append waiting.items (last ∷ []) in
      record {
        room = with-waiting new (ap (λ (q : Queued WaitingView). q.room) is) (omega (arith, long, room));
        fits = kept.fits;
        earliest_is = rw items (waiting-too ready.items held.items waiting.items now last (added untils kept.earliest_is));
        numbers_are = rw items
            (numbers-more (sought_of last.task)
            (requests_of ready.items held.items (waiting.items ++ last ∷ []) ended.items limit) filter (weighing.waiting-more
            old last) noted);
      }

  pub ended-more : (last : Ended) (new : Queued Ended) (filter : FilterView) → new ≡ record ended { items = ended.items ++ last ∷ [] }
      → count < limit → Noted filter last.sought.number → AreKept ready held waiting new limit earliest filter
  ended-more last new filter is room noted =
      let items : new.items ≡ ended.items ++ last ∷ [] = ap (λ (q : Queued Ended). q.items) is in
      let long = ap length items ∙ length-append ended.items (last ∷ []) in
      record {
        room = with-ended new (ap (λ (q : Queued Ended). q.room) is) (omega (arith, long, room));
        fits = kept.fits;
        earliest_is = kept.earliest_is;
        numbers_are = rw items (numbers-more last.sought (requests_of ready.items held.items waiting.items (ended.items ++ last ∷ []) limit)
            filter (weighing.ended-more old last) noted);
      }

  -- ---- one less

  pub ended-less : (one : Ended) (new : Queued Ended) (filter : FilterView) → ended.items ≡ one ∷ new.items → new.room ≡ ended.room
      → Struck filter one.sought.number → AreKept ready held waiting new limit earliest filter
  ended-less one new filter first same struck =
      let long = ap length first in
      let few = kept.room.few in
      record {
        room = with-ended new same (omega (arith, long, few));
        fits = kept.fits;
        earliest_is = kept.earliest_is;
        numbers_are = numbers-less one.sought.number (requests_of ready.items held.items waiting.items new.items limit) filter
            (ended-weighs one new first) struck;
      }

  pub ready-less : (task : TaskView) (new : Queued TaskView) (now : Earliest) (filter : FilterView) → ready.items ≡ task ∷ new.items
      → new.room ≡ ready.room → Removed now task.until → Struck filter task.number
      → AreKept new held waiting ended limit now filter
  ready-less task new now filter first same removed struck =
      let long = ap length first in
      let few = kept.room.few in
      let was = rw first at kept.earliest_is in
      record {
        room = with-ready new same (omega (arith, long, few));
        fits = kept.fits;
        earliest_is = removed (untils_in new.items held.items waiting.items) was;
        numbers_are = numbers-less task.number (requests_of new.items held.items waiting.items ended.items limit) filter
            (ready-weighs task new first) struck;
      }

  pub held-less : (task : TaskView) (new : Queued TaskView) (now : Earliest) (filter : FilterView) → held.items ≡ task ∷ new.items
      → new.room ≡ held.room → Removed now task.until → Struck filter task.number
      → AreKept ready new waiting ended limit now filter
  held-less task new now filter first same removed struck =
      let long = ap length first in
      let few = kept.room.few in
      let was = rw first at kept.earliest_is in
      record {
        room = with-held new same (omega (arith, long, few));
        fits = kept.fits;
        earliest_is = removed (untils_in ready.items new.items waiting.items)
            (held-out ready.items new.items waiting.items earliest task was);
        numbers_are = numbers-less task.number (requests_of ready.items new.items waiting.items ended.items limit) filter
            (held-weighs task new first) struck;
      }

  module _ (first later : List WaitingView) (one : WaitingView) (was : waiting.items ≡ first ++ one ∷ later) where
    its-untils : IsEarliest (one.task.until ∷ untils_in ready.items held.items (first ++ later)) earliest
    its-untils = waiting-out ready.items held.items first later earliest one (rw was at kept.earliest_is)

    pub waiting-counted : ends_at earliest.moment one.task.until ≤ earliest.count
    waiting-counted = counted one.task.until (untils_in ready.items held.items (first ++ later)) earliest its-untils

    pub waiting-less : (new : Queued WaitingView) (now : Earliest) (filter : FilterView) → new.items ≡ first ++ later
        → new.room ≡ waiting.room
        → Removed now one.task.until → Struck filter one.task.number → AreKept ready held new ended limit now filter
    waiting-less new now filter left same removed struck =
        let long = ap length was ∙ length-append first (one ∷ later) in
        let short = ap length left ∙ length-append first later in
        let few = kept.room.few in
        record {
          room = with-waiting new same (omega (arith, long, short, few));
          fits = kept.fits;
          earliest_is = rw left (removed (untils_in ready.items held.items (first ++ later)) its-untils);
          numbers_are = rw left
              (numbers-less one.task.number (requests_of ready.items held.items (first ++ later) ended.items limit) filter
              (waiting-weighs first later one was) struck);
        }

  -- the first one that waits for a reply is taken out from its place
  module _ (id : ℕ) (one : WaitingView) (new : Queued WaitingView) (out : IsWithoutFirstFor id one waiting new) where
    pub taken-counted : ends_at earliest.moment one.task.until ≤ earliest.count
    taken-counted = waiting-counted out.first out.later one out.was

    pub taken-there : 0 < count_at one.task.number numbers
    taken-there = waiting-there out.first out.later one out.was

    pub waiting-taken : (now : Earliest) (filter : FilterView) → Removed now one.task.until → Struck filter one.task.number
        → AreKept ready held new ended limit now filter
    waiting-taken now filter removed struck =
        waiting-less out.first out.later one out.was new now filter (ap (λ (q : Queued WaitingView). q.items) out.left)
        (ap (λ (q : Queued WaitingView). q.room) out.left) removed struck
