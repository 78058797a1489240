-- Requests that end because their time is over.
use Rattle.std.proofs.Common.{◌≡◌, ℕ, ◌+◌, ◌<◌, ◌≤◌, Bool, true, false, not, List, [], ◌∷◌, ◌++◌, length, refl, sym, ap, ◌∙◌, subst, arith}
use Rattle.std.specs.List.{All, filter, sum_by}
use Rattle.std.proofs.lemmas.List.{append-nil, append_assoc}
use Rattle.std.proofs.lemmas.List.Elements.{All-append, All-cons, All-filter, All-head, All-nil, All-tail, filter_passes}
use Rattle.std.proofs.lemmas.List.Sums.{sum_by-append, sum_by-cons}
use Rattle.answer_cache.specs.Seats.{GoesOn, SeatView, StoresNothing}
use Rattle.sip_selection.specs.Choice.{need}
use Rattle.sip_resolver.proofs.Abandoned.{questions-not, questions-through}
use Rattle.sip_resolver.proofs.Cancelling.{all-left, awaited-back}
use Rattle.sip_resolver.proofs.Circling.{Circled, circled-not, circled-on, circled-over}
use Rattle.sip_resolver.proofs.Going.{chosen}
use Rattle.sip_resolver.proofs.Standing.{goes-not, goes-through, nothing-not, nothing-through}
use Rattle.sip_resolver.proofs.Weighing.{same-not, same-through}
use Rattle.sip_resolver.specs.Cancels.{is_awaited, questions_left}
use Rattle.sip_resolver.specs.Ends.{EndsMore, IsByChoice}
use Rattle.sip_resolver.specs.Expiries.{AreExpired, EndsLate, HaveTime, IsLate, IsUnanswered, IsWithoutReply, has_time, is_expired, waits_in_time}
use Rattle.sip_resolver.specs.Idle.{AreAwaited, IsIn}
use Rattle.sip_resolver.specs.Outcomes.{Ended, IsOutcome, Sought}
use Rattle.sip_resolver.specs.Questions.{QuestionsView}
use Rattle.sip_resolver.specs.Requests.{AreSame, IsWithoutHeld, IsWithoutReady, IsWithoutWaiting, RequestsView, Stand, requests_of}
use Rattle.sip_resolver.specs.Resolvers.{Expires, ResolverView}
use Rattle.sip_resolver.specs.Tasks.{IsCounted, Lacks, TaskView, WaitingView, sought_of}
use Rattle.sip_resolver.specs.declared.outcome.Outcome.{Outcome}
use Rattle.sip_resolver.specs.declared.outcome.Outcome.TheVariants.{Targets, Refused, NoAnswer, NoServer, BadReply, Memory}

-- ---- one more ends

module _ (now : ℕ) where
  pub late-not : (ended : List Ended) → EndsLate now ended ended
  late-not ended = record { more = []; after = sym (append-nil ended); are = All-nil (IsLate now) }

  pub late-one : (old : List Ended) (ended : Ended) → is_expired now ended.sought.until ≡ true → IsWithoutReply ended.outcome
      → EndsLate now old (old ++ ended ∷ [])
  late-one old ended over outcome = record {
    more = ended ∷ [];
    after = refl;
    are = All-cons (IsLate now) ended [] (record { over = over; outcome = outcome }) (All-nil (IsLate now));
  }

  pub late-through : (old middle new : List Ended) → EndsLate now old middle → EndsLate now middle new → EndsLate now old new
  late-through old middle new front back = record {
    more = front.more ++ back.more;
    after = back.after ∙ ap (λ l. l ++ back.more) front.after ∙ append_assoc old front.more back.more;
    are = All-append (IsLate now) front.more back.more front.are back.are;
  }

pub choice-without-reply : (outcome : Outcome) → IsByChoice outcome → IsWithoutReply outcome
choice-without-reply (Targets list) it = tt
choice-without-reply (Refused reason) it = tt
choice-without-reply (NoAnswer question) it = absurd it
choice-without-reply (NoServer question) it = absurd it
choice-without-reply (BadReply question refusal) it = absurd it
choice-without-reply Memory it = tt

pub unanswered-without-reply : (task : TaskView) (outcome : Outcome) → IsUnanswered task outcome → IsWithoutReply outcome
unanswered-without-reply task (Targets list) it = absurd it
unanswered-without-reply task (Refused reason) it = absurd it
unanswered-without-reply task (NoAnswer question) it = tt
unanswered-without-reply task (NoServer question) it = absurd it
unanswered-without-reply task (BadReply question refusal) it = absurd it
unanswered-without-reply task Memory it = tt

-- the outcome of a request that ends without an answer that was lacking
pub unanswered-is : (gives : List ℕ → Type 0) (shows : ℕ → Type 0) (seat : SeatView) (task : TaskView) (outcome : Outcome)
    → IsUnanswered task outcome → IsCounted gives shows seat task → Lacks shows seat task
    → IsOutcome gives shows seat (sought_of task) outcome
unanswered-is gives shows seat task (Targets list) it counted lacks = absurd it
unanswered-is gives shows seat task (Refused reason) it counted lacks = absurd it
unanswered-is gives shows seat task (NoAnswer question) it counted lacks =
    (chosen gives shows seat task (need question) it counted, lacks question it)
unanswered-is gives shows seat task (NoServer question) it counted lacks = absurd it
unanswered-is gives shows seat task (BadReply question refusal) it counted lacks = absurd it
unanswered-is gives shows seat task Memory it counted lacks = tt

-- ---- one that stays, and one that doesn't

module _ {X : Type 0} (p : X → Bool) (x : X) where
  pub one-stays : p x ≡ true → x ∷ [] ≡ filter p (x ∷ [])
  one-stays is = rw is refl

  pub one-goes : p x ≡ false → [] ≡ filter p (x ∷ [])
  one-goes is = rw is refl

pub none-after : {X : Type 0} (items left : List X) → [] ≡ left → items ≡ items ++ left
none-after items left none = rw (← none) (sym (append-nil items))

-- ---- a turn of a queue

module _ (gives : List ℕ → Type 0) (shows : ℕ → Type 0) (now : ℕ) where
  -- some turned so far
  pub record Turns (before after : SeatView) (first last : RequestsView) : Type 0 where
    pub goes_on : GoesOn before after
    pub nothing : StoresNothing before after
    pub stand : Stand gives shows after last
    pub same : AreSame first last
    pub ends : EndsLate now first.ended last.ended

  pub turns-not : (seat : SeatView) (it : RequestsView) → Stand gives shows seat it → Turns seat seat it it
  turns-not seat it stand = record {
    goes_on = goes-not seat;
    nothing = nothing-not seat;
    stand = stand;
    same = same-not it;
    ends = late-not now it.ended;
  }

  -- and one more
  pub turns-too : (before seat after : SeatView) (first old new : RequestsView) (ended : List Ended) → Turns before seat first old
      → ended ≡ old.ended → AreSame old new → GoesOn seat after → StoresNothing seat after → Stand gives shows after new
      → EndsLate now ended new.ended → Turns before after first new
  turns-too before seat after first old new ended so is same on nothing stand ends = record {
    goes_on = goes-through before seat after so.goes_on on;
    nothing = nothing-through before seat after so.nothing nothing;
    stand = stand;
    same = same-through first old new so.same same;
    ends = late-through now first.ended old.ended new.ended so.ends (subst (λ l. EndsLate now l new.ended) is ends);
  }

-- the requests of the first, with those that can go on, are held or wait, and those that ended, of the other
abbrev pub ready-of : RequestsView → RequestsView → RequestsView
ready-of it other = requests_of other.ready it.held it.waiting other.ended it.limit

abbrev pub held-of : RequestsView → RequestsView → RequestsView
held-of it other = requests_of it.ready other.held it.waiting other.ended it.limit

abbrev pub waiting-of : RequestsView → RequestsView → RequestsView
waiting-of it other = requests_of it.ready it.held other.waiting other.ended it.limit

module _ (now : ℕ) (first old middle new : RequestsView) where
  -- the others stay
  pub others-ready : (task : TaskView) → old ≡ ready-of first old → IsWithoutReady task old middle
      → new ≡ record middle { ready = middle.ready ++ filter (has_time now) (task ∷ []); ended = new.ended }
      → new ≡ ready-of first new
  others-ready task so out back =
      let held : new.held ≡ first.held =
      ap (λ (v : RequestsView). v.held) back ∙ ap (λ (v : RequestsView). v.held) out.others ∙ ap (λ (v : RequestsView). v.held) so in
      let waiting : new.waiting ≡ first.waiting =
      ap (λ (v : RequestsView). v.waiting) back ∙ ap (λ (v : RequestsView). v.waiting) out.others
      ∙ ap (λ (v : RequestsView). v.waiting) so in
      let limit : new.limit ≡ first.limit =
      ap (λ (v : RequestsView). v.limit) back ∙ ap (λ (v : RequestsView). v.limit) out.others ∙ ap (λ (v : RequestsView). v.limit) so in
      λ i. record { ready = new.ready; held = held i; waiting = waiting i; ended = new.ended; limit = limit i }

  pub others-held : (task : TaskView) → old ≡ held-of first old → IsWithoutHeld task old middle
      → new ≡ record middle { held = middle.held ++ filter (has_time now) (task ∷ []); ended = new.ended }
      → new ≡ held-of first new
  others-held task so out back =
      let ready : new.ready ≡ first.ready =
      ap (λ (v : RequestsView). v.ready) back ∙ ap (λ (v : RequestsView). v.ready) out.others ∙ ap (λ (v : RequestsView). v.ready) so in
      let waiting : new.waiting ≡ first.waiting =
      ap (λ (v : RequestsView). v.waiting) back ∙ ap (λ (v : RequestsView). v.waiting) out.others
      ∙ ap (λ (v : RequestsView). v.waiting) so in
      let limit : new.limit ≡ first.limit =
      ap (λ (v : RequestsView). v.limit) back ∙ ap (λ (v : RequestsView). v.limit) out.others ∙ ap (λ (v : RequestsView). v.limit) so in
      λ i. record { ready = ready i; held = new.held; waiting = waiting i; ended = new.ended; limit = limit i }

  pub others-waiting : (it : WaitingView) → old ≡ waiting-of first old → IsWithoutWaiting it old middle
      → new ≡ record middle { waiting = middle.waiting ++ filter (waits_in_time now) (it ∷ []); ended = new.ended }
      → new ≡ waiting-of first new
  others-waiting it so out back =
      let ready : new.ready ≡ first.ready =
      ap (λ (v : RequestsView). v.ready) back ∙ ap (λ (v : RequestsView). v.ready) out.others ∙ ap (λ (v : RequestsView). v.ready) so in
      let held : new.held ≡ first.held =
      ap (λ (v : RequestsView). v.held) back ∙ ap (λ (v : RequestsView). v.held) out.others ∙ ap (λ (v : RequestsView). v.held) so in
      let limit : new.limit ≡ first.limit =
      ap (λ (v : RequestsView). v.limit) back ∙ ap (λ (v : RequestsView). v.limit) out.others ∙ ap (λ (v : RequestsView). v.limit) so in
      λ i. record { ready = ready i; held = held i; waiting = new.waiting; ended = new.ended; limit = limit i }

-- ---- a turn of those that wait

-- so many that waited were taken from the front, and put back but for those whose time is over
pub record Waited (now : ℕ) (old new : RequestsView) (asked asks : QuestionsView) (count : ℕ) : Type 0 where
  pub circled : Circled (waits_in_time now) old.waiting new.waiting count
  pub others : new ≡ record old { waiting = new.waiting; ended = new.ended }
  pub fewer : (id : ℕ) → is_awaited new.waiting id ≡ true → is_awaited old.waiting id ≡ true
  pub questions : asks ≡ questions_left old.waiting new.waiting asked

pub waited-not : (now : ℕ) (old : RequestsView) (asked : QuestionsView) → Waited now old old asked asked 0
waited-not now old asked = record {
  circled = circled-not (waits_in_time now) old.waiting;
  others = refl;
  fewer = λ id waits. waits;
  questions = questions-not asked old.waiting;
}

module _ (time : ℕ) (old now middle new : RequestsView) (asked asks then : QuestionsView) (it : WaitingView) (count : ℕ)
    (so : Waited time old now asked asks count) (out : IsWithoutWaiting it now middle) (less : count < length old.waiting)
    (back : new ≡ record middle { waiting = middle.waiting ++ filter (waits_in_time time) (it ∷ []); ended = new.ended })
    (left : then ≡ questions_left (it ∷ middle.waiting) new.waiting asks) where
  waiting-is : new.waiting ≡ middle.waiting ++ filter (waits_in_time time) (it ∷ [])
  waiting-is = ap (λ (v : RequestsView). v.waiting) back

  one-fewer : (id : ℕ) → is_awaited new.waiting id ≡ true → is_awaited now.waiting id ≡ true
  one-fewer id waits =
      let waits-too : is_awaited (middle.waiting ++ filter (waits_in_time time) (it ∷ [])) id ≡ true = rw waiting-is at waits in
      rw out.first (awaited-back (waits_in_time time) it middle.waiting id waits-too)

  questions-are : then ≡ questions_left old.waiting new.waiting asked
  questions-are =
      left
      ∙ ap (λ l. questions_left l new.waiting asks) (sym out.first)
      ∙ ap (λ q. questions_left now.waiting new.waiting q) so.questions
      ∙ questions-through asked old.waiting now.waiting new.waiting so.fewer one-fewer

  pub waited-on : Waited time old new asked then (count + 1)
  waited-on = record {
    circled = circled-on (waits_in_time time) old.waiting now.waiting middle.waiting new.waiting it count so.circled out.first less
        waiting-is;
    others = others-waiting time old now middle new it so.others out back;
    fewer = λ id waits. so.fewer id (one-fewer id waits);
    questions = questions-are;
  }

-- ---- the turn is over

module _ (now : ℕ) (first last : RequestsView) (count : ℕ) where
  pub over-ready : Circled (has_time now) first.ready last.ready count → last ≡ ready-of first last → length first.ready ≤ count
      → last ≡ record first { ready = filter (has_time now) first.ready; ended = last.ended }
  over-ready circled others all =
      others
      ∙ ap (λ l. requests_of l first.held first.waiting last.ended first.limit)
      (circled-over (has_time now) first.ready last.ready count circled all)

  pub over-held : Circled (has_time now) first.held last.held count → last ≡ held-of first last → length first.held ≤ count
      → last ≡ record first { held = filter (has_time now) first.held; ended = last.ended }
  over-held circled others all =
      others
      ∙ ap (λ l. requests_of first.ready l first.waiting last.ended first.limit)
      (circled-over (has_time now) first.held last.held count circled all)

  pub over-waiting : Circled (waits_in_time now) first.waiting last.waiting count → last ≡ waiting-of first last
      → length first.waiting ≤ count → last ≡ record first { waiting = filter (waits_in_time now) first.waiting; ended = last.ended }
  over-waiting circled others all =
      others
      ∙ ap (λ l. requests_of first.ready first.held l last.ended first.limit)
      (circled-over (waits_in_time now) first.waiting last.waiting count circled all)

-- ---- all three

-- those that wait turned, then those that can go on, then those that are held
pub all-expired : (now : ℕ) (first waited turned last : RequestsView)
    → waited ≡ record first { waiting = filter (waits_in_time now) first.waiting; ended = waited.ended }
    → turned ≡ record waited { ready = filter (has_time now) waited.ready; ended = turned.ended }
    → last ≡ record turned { held = filter (has_time now) turned.held; ended = last.ended }
    → EndsLate now first.ended waited.ended → EndsLate now waited.ended turned.ended → EndsLate now turned.ended last.ended
    → AreExpired now first last
all-expired now first waited turned last one two three late-one' late-two late-three =
    let ready : last.ready ≡ filter (has_time now) first.ready =
    ap (λ (v : RequestsView). v.ready) three ∙ ap (λ (v : RequestsView). v.ready) two
    ∙ ap (λ (v : RequestsView). filter (has_time now) v.ready) one in
    let held : last.held ≡ filter (has_time now) first.held =
    ap (λ (v : RequestsView). v.held) three ∙ ap (λ (v : RequestsView). filter (has_time now) v.held) two
    ∙ ap (λ (v : RequestsView). filter (has_time now) v.held) one in
    let waiting : last.waiting ≡ filter (waits_in_time now) first.waiting =
    ap (λ (v : RequestsView). v.waiting) three ∙ ap (λ (v : RequestsView). v.waiting) two ∙ ap (λ (v : RequestsView). v.waiting) one in
    let limit : last.limit ≡ first.limit =
    ap (λ (v : RequestsView). v.limit) three ∙ ap (λ (v : RequestsView). v.limit) two ∙ ap (λ (v : RequestsView). v.limit) one in
    record {
      ends = late-through now first.ended waited.ended last.ended late-one'
          (late-through now waited.ended turned.ended last.ended late-two late-three);
      others = λ i. record { ready = ready i; held = held i; waiting = waiting i; ended = last.ended; limit = limit i };
    }

-- the questions that those that wait leave
pub questions-expired : (first waited turned last : RequestsView) (asked asks : QuestionsView) (ready held : List TaskView)
    → asks ≡ questions_left first.waiting waited.waiting asked → turned ≡ record waited { ready = ready; ended = turned.ended }
    → last ≡ record turned { held = held; ended = last.ended } → asks ≡ questions_left first.waiting last.waiting asked
questions-expired first waited turned last asked asks ready held is two three =
    let waiting : last.waiting ≡ waited.waiting =
    ap (λ (v : RequestsView). v.waiting) three ∙ ap (λ (v : RequestsView). v.waiting) two in
    is ∙ ap (λ l. questions_left first.waiting l asked) (sym waiting)

-- all of it
pub all-expires : (now : ℕ) (first waited turned last : RequestsView) (asked asks : QuestionsView) (streams : Bool)
    → waited ≡ record first { waiting = filter (waits_in_time now) first.waiting; ended = waited.ended }
    → turned ≡ record waited { ready = filter (has_time now) waited.ready; ended = turned.ended }
    → last ≡ record turned { held = filter (has_time now) turned.held; ended = last.ended }
    → EndsLate now first.ended waited.ended → EndsLate now waited.ended turned.ended → EndsLate now turned.ended last.ended
    → AreSame first waited → AreSame waited turned → AreSame turned last → asks ≡ questions_left first.waiting waited.waiting asked
    → Expires now (record { requests = first; questions = asked; streams = streams })
    (record { requests = last; questions = asks; streams = streams })
all-expires now first waited turned last asked asks streams one two three late-one' late-two late-three same-one same-two same-three
    left =
    record {
      requests = all-expired now first waited turned last one two three late-one' late-two late-three;
      same = same-through first turned last (same-through first waited turned same-one same-two) same-three;
      questions = questions-expired first waited turned last asked asks (filter (has_time now) waited.ready)
          (filter (has_time now) turned.held) left two three;
      streams = refl;
    }

-- each waits for a question that is out still
pub awaits-expired : (now : ℕ) (old new : ResolverView) → Expires now old new → AreAwaited old.requests old.questions
    → AreAwaited new.requests new.questions
awaits-expired now old new it all =
    let waiting : new.requests.waiting ≡ filter (waits_in_time now) old.requests.waiting =
    ap (λ (v : RequestsView). v.waiting) it.requests.others in
    let few : All (IsIn old.questions.datagrams.tickets old.questions.streams.tickets) new.requests.waiting =
    rw waiting
    (All-filter (waits_in_time now) (IsIn old.questions.datagrams.tickets old.questions.streams.tickets) old.requests.waiting all) in
    rw it.questions (all-left old.requests.waiting new.requests.waiting old.questions few)

-- ---- none is late after it

abbrev count-of : Bool → ℕ
count-of true = 1
count-of false = 0

-- how many of them are late
module _ {X : Type 0} (late : X → Bool) where
  abbrev counted : X → ℕ
  counted x = count-of (late x)

  abbrev in-time : X → Type 0
  in-time x = not (late x) ≡ true

  none-by : (is : Bool) → not is ≡ true → count-of is ≡ 0
  none-by true is = absurd cc
  none-by false is = refl

  in-time-by : (is : Bool) → count-of is ≡ 0 → not is ≡ true
  in-time-by true is = absurd cc
  in-time-by false is = refl

  none-late : (xs : List X) → All in-time xs → sum_by counted xs ≡ 0
  none-late [] all = refl
  none-late (x ∷ xs) all =
      let one = none-by (late x) (All-head in-time x xs all) in
      let rest = none-late xs (All-tail in-time x xs all) in
      let whole = sum_by-cons counted x xs in
      omega (arith, one, rest, whole)

  all-in-time : (xs : List X) → sum_by counted xs ≡ 0 → All in-time xs
  all-in-time [] none = All-nil in-time
  all-in-time (x ∷ xs) none =
      let whole = sum_by-cons counted x xs in
      All-cons in-time x xs (in-time-by (late x) (omega (arith, none, whole))) (all-in-time xs (omega (arith, none, whole)))

module _ (now : ℕ) where
  abbrev is-late : Sought → Bool
  is-late sought = is_expired now sought.until

  abbrev late-weight : Sought → ℕ
  late-weight sought = count-of (is-late sought)

  -- after the late ones have ended
  pub time-after : (old new : RequestsView) → AreExpired now old new → HaveTime now new
  time-after old new it =
      rw it.others (record {
        ready = filter_passes (has_time now) old.ready;
        held = filter_passes (has_time now) old.held;
        waiting = filter_passes (waits_in_time now) old.waiting;
      })

  -- so none of the same requests is late
  pub time-still : (old new : RequestsView) (kind : Outcome → Type 0) → HaveTime now old → AreSame old new
      → EndsMore kind old.ended new.ended → HaveTime now new
  time-still old new kind have same ends =
      let ready = none-late (λ (task : TaskView). is-late (sought_of task)) old.ready have.ready in
      let held = none-late (λ (task : TaskView). is-late (sought_of task)) old.held have.held in
      let waiting = none-late (λ (it : WaitingView). is-late (sought_of it.task)) old.waiting have.waiting in
      let whole = same.1 late-weight in
      let more = sum_by-append (λ (it : Ended). late-weight it.sought) old.ended ends.more in
      let ended : sum_by (λ (it : Ended). late-weight it.sought) new.ended
      ≡ sum_by (λ (it : Ended). late-weight it.sought) old.ended + sum_by (λ (it : Ended). late-weight it.sought) ends.more =
      rw ends.after more in
      record {
        ready = all-in-time (λ (task : TaskView). is-late (sought_of task)) new.ready
            (omega (arith, ready, held, waiting, whole, ended));
        held = all-in-time (λ (task : TaskView). is-late (sought_of task)) new.held
            (omega (arith, ready, held, waiting, whole, ended));
        waiting = all-in-time (λ (it : WaitingView). is-late (sought_of it.task)) new.waiting
            (omega (arith, ready, held, waiting, whole, ended));
      }
