-- That no request inside is late, by the moment before which none ends.
use Rattle.std.proofs.Common.{◌≡◌, ℕ, ◌<◌, ◌≤◌, nat_le, Bool, true, false, not, List, [], ◌∷◌, ◌++◌, Option, Some, None, refl, ap, arith}
use Rattle.std.specs.List.{All, filter, filter_map, sum_by}
use Rattle.std.proofs.lemmas.Bool.{leb-false, lt-leb}
use Rattle.std.proofs.lemmas.List.Elements.{All-cons, All-head, All-nil, All-tail, All-weaker}
use Rattle.sip_resolver.proofs.Abandoned.{questions-not}
use Rattle.sip_resolver.proofs.Earlier.{moments, moments-in, never-any, none-sooner}
use Rattle.sip_resolver.proofs.Expiring.{late-not}
use Rattle.sip_resolver.proofs.Weighing.{same-not}
use Rattle.sip_resolver.specs.Earliest.{IsEarliest, ends_before, untils_in}
use Rattle.sip_resolver.specs.Expiries.{AreExpired, HaveTime, has_time, is_expired, untils_of, waits_in_time}
use Rattle.sip_resolver.specs.Requests.{RequestsView}
use Rattle.sip_resolver.specs.Resolvers.{Expires, ResolverView}
use Rattle.sip_resolver.specs.Tasks.{TaskView, WaitingView}
use Rattle.sip_resolver.specs.declared.earliest.Earliest.{Earliest}

keep-all : {X : Type 0} (p : X → Bool) (items : List X) → All (λ it. p it ≡ true) items → filter p items ≡ items
keep-all p [] all = refl
keep-all p (x ∷ items) all =
    rw (All-head (λ it. p it ≡ true) x items all)
    (ap (λ l. x ∷ l) (keep-all p items (All-tail (λ it. p it ≡ true) x items all)))

both-of : {X : Type 0} (P : X → Type 0) (front back : List X) → All P (front ++ back) → All P front × All P back
both-of P [] back all = (All-nil P, all)
both-of P (x ∷ front) back all =
    let k = both-of P front back (All-tail P x (front ++ back) all) in
    (All-cons P x front (All-head P x (front ++ back) all) k.0, k.1)

module _ (now : ℕ) where
  not-yet : (until : ℕ) → now < until → not (nat_le until now) ≡ true
  not-yet until later = rw (lt-leb until now later) refl

  one-later : {X : Type 0} (until_of : X → Option ℕ) (x : X) (items : List X) (until : Option ℕ) → until_of x ≡ until
      → All (λ it. now < it) (filter_map until_of (x ∷ items))
      → (not (is_expired now until) ≡ true) × All (λ it. now < it) (filter_map until_of items)
  one-later until_of x items None is later = (refl, rw is at later)
  one-later until_of x items (Some until) is later =
      let here : All (λ it. now < it) (until ∷ filter_map until_of items) = rw is at later in
      (not-yet until (All-head (λ it. now < it) until _ here), All-tail (λ it. now < it) until _ here)

  all-later : {X : Type 0} (until_of : X → Option ℕ) (items : List X) → All (λ it. now < it) (filter_map until_of items)
      → All (λ it. not (is_expired now (until_of it)) ≡ true) items
  all-later until_of [] later = All-nil (λ it. not (is_expired now (until_of it)) ≡ true)
  all-later until_of (x ∷ items) later =
      let k = one-later until_of x items (until_of x) refl later in
      All-cons (λ it. not (is_expired now (until_of it)) ≡ true) x items k.0 (all-later until_of items k.1)

  -- where all end later, each has time left
  all-have : (it : RequestsView) → All (λ until. now < until) (untils_of it) → HaveTime now it
  all-have it later =
      let ready = filter_map (λ (task : TaskView). task.until) it.ready in
      let held = filter_map (λ (task : TaskView). task.until) it.held in
      let waiting = filter_map (λ (one : WaitingView). one.task.until) it.waiting in
      let one = both-of (λ until. now < until) (ready ++ held) waiting later in
      let two = both-of (λ until. now < until) ready held one.0 in
      record {
        ready = all-later (λ (task : TaskView). task.until) it.ready two.0;
        held = all-later (λ (task : TaskView). task.until) it.held two.1;
        waiting = all-later (λ (one : WaitingView). one.task.until) it.waiting one.1;
      }

  later-than : (first : Option ℕ) (untils : List (Option ℕ)) → sum_by (ends_before first) untils ≡ 0 → is_expired now first ≡ false
      → All (λ until. now < until) (moments untils)
  later-than None untils none not-yet = rw (never-any untils none) (All-nil (λ until. now < until))
  later-than (Some first) untils none not-yet =
      let after = leb-false first now not-yet in
      All-weaker (λ until. first ≤ until) (λ until. now < until) (λ until least. omega (arith, least, after)) (moments untils)
      (none-sooner first untils none)

  pub have-time : (it : RequestsView) (first : Earliest) → IsEarliest (untils_in it.ready it.held it.waiting) first
      → is_expired now first.moment ≡ false → HaveTime now it
  have-time it first so not-yet =
      let all = later-than first.moment (untils_in it.ready it.held it.waiting) so.none_before not-yet in
      all-have it (rw (moments-in it.ready it.held it.waiting) at all)

  expired-not : (it : RequestsView) → HaveTime now it → AreExpired now it it
  expired-not it have = record {
    ends = late-not now it.ended;
    others = rw (
      keep-all (has_time now) it.ready have.ready,
      keep-all (has_time now) it.held have.held,
      keep-all (waits_in_time now) it.waiting have.waiting,
    ) refl;
  }

  pub expires-not : (it : ResolverView) → HaveTime now it.requests → Expires now it it
  expires-not it have = record {
    requests = expired-not it.requests have;
    same = same-not it.requests;
    questions = questions-not it.questions it.requests.waiting;
    streams = refl;
  }
