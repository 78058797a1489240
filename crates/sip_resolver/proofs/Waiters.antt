-- Those that wait for one reply, among all that wait.
use Rattle.std.proofs.Common.{◌≡◌, ◌≢◌, nat_eq, ℕ, ◌<◌, ◌≤◌, ◌||◌, Bool, true, false, List, [], ◌∷◌, ◌++◌, Some, length, refl, sym, ap, ◌∙◌, eq-eqb, rules, arith}
use Rattle.std.specs.List.{All, remove, slice_get}
use Rattle.std.proofs.lemmas.List.{length-append}
use Rattle.std.proofs.lemmas.List.Elements.{All-cons, All-head, All-tail, filter-append}
use Rattle.std.proofs.lemmas.Option.{get_or_from_slice_get}
use Rattle.std.proofs.Math.Seq.{get_or-append_seam}
use Rattle.sip_resolver.specs.Cancels.{is_awaited}
use Rattle.sip_resolver.specs.Queues.{Queued}
use Rattle.sip_resolver.specs.Requests.{IsWithoutNumbered, IsWithoutWaitingFor, RequestsView, count_of, requests_of, waiting_for, waiting_without, waits_for, waits_for_other}
use Rattle.sip_resolver.specs.Tasks.{TaskView, WaitingView}
use Rattle.sip_resolver.specs.WaitingQueues.{IsWithoutFirstFor, IsWithoutFirstNumbered}

module _ (id : ℕ) where
  abbrev waiter : TaskView → WaitingView
  waiter task = record { id = id; task = task }

  -- ---- one of them

  not-for-by : (it : WaitingView) (is : Bool) → nat_eq it.id id ≡ is → it.id ≢ id → waiting_for id (it ∷ []) ≡ []
  not-for-by it true same other = absurd (let its : it.id ≡ id = search rules in other its)
  not-for-by it false same other = rw same refl

  for-it : (task : TaskView) (later : List WaitingView) → waiting_for id (waiter task ∷ later) ≡ waiter task ∷ waiting_for id later
  for-it task later = rw (eq-eqb id id refl) refl

  without-it : (task : TaskView) (later : List WaitingView) → waiting_without id (waiter task ∷ later) ≡ waiting_without id later
  without-it task later = rw (eq-eqb id id refl) refl

  -- ---- the first of them

  module _ (task : TaskView) (first later : List WaitingView) where
    pub for-first : waiting_for id first ≡ []
        → waiting_for id (first ++ waiter task ∷ later) ≡ waiter task ∷ waiting_for id (first ++ later)
    for-first none =
        filter-append (waits_for id) first (waiter task ∷ later)
        ∙ ap (λ l. l ++ waiting_for id (waiter task ∷ later)) none
        ∙ for-it task later
        ∙ ap (λ l. waiter task ∷ l ++ waiting_for id later) (sym none)
        ∙ ap (λ l. waiter task ∷ l) (sym (filter-append (waits_for id) first later))

    pub without-first : waiting_without id (first ++ waiter task ∷ later) ≡ waiting_without id (first ++ later)
    without-first =
        filter-append (waits_for_other id) first (waiter task ∷ later)
        ∙ ap (λ l. waiting_without id first ++ l) (without-it task later)
        ∙ sym (filter-append (waits_for_other id) first later)

  -- ---- none of them

  none-by : (x : WaitingView) (xs : List WaitingView) (is : Bool) → nat_eq x.id id ≡ is → waiting_for id (x ∷ xs) ≡ []
      → (nat_eq x.id id ≡ false) × (waiting_for id xs ≡ [])
  none-by x xs true is none = absurd (let no = rw is at none in cc)
  none-by x xs false is none = (is, rw is at none)

  pub none-of-id : (waiting : List WaitingView) → All (λ it. it.id ≢ id) waiting → waiting_for id waiting ≡ []
  none-of-id [] others = refl
  none-of-id (x ∷ xs) others =
      let first = not-for-by x (nat_eq x.id id) refl (All-head (λ (it : WaitingView). it.id ≢ id) x xs others) in
      filter-append (waits_for id) (x ∷ []) xs
      ∙ rw (first, none-of-id xs (All-tail (λ (it : WaitingView). it.id ≢ id) x xs others)) refl

  pub all-without : (waiting : List WaitingView) → waiting_for id waiting ≡ [] → waiting_without id waiting ≡ waiting
  all-without [] none = refl
  all-without (x ∷ xs) none =
      let k = none-by x xs (nat_eq x.id id) refl none in
      rw k.0 (ap (λ l. x ∷ l) (all-without xs k.1))

  pub none-awaited : (waiting : List WaitingView) → waiting_for id waiting ≡ [] → is_awaited waiting id ≡ false
  none-awaited [] none = refl
  none-awaited (x ∷ xs) none =
      let k = none-by x xs (nat_eq x.id id) refl none in rw k.0 (none-awaited xs k.1)

  either-by : (a b : Bool) → b ≡ true → (a || b) ≡ true
  either-by true b is = refl
  either-by false b is = is

  pub there-awaited : (task : TaskView) (first later : List WaitingView) → is_awaited (first ++ waiter task ∷ later) id ≡ true
  there-awaited task [] later = rw (eq-eqb id id refl) refl
  there-awaited task (x ∷ first) later = either-by (nat_eq x.id id) (is_awaited (first ++ waiter task ∷ later) id)
      (there-awaited task first later)

-- ---- one is taken out from its place

module _ {X : Type 0} (x : X) (later : List X) where
  pub left-of : (first : List X) → remove (first ++ x ∷ later) (length first) ≡ first ++ later
  left-of [] = refl
  left-of (y ∷ first) = ap (λ l. y ∷ l) (left-of first)

  pub within-of : (first : List X) → length first < length (first ++ x ∷ later)
  within-of [] = omega arith
  within-of (y ∷ first) = let rest = within-of first in omega (arith, rest)

  pub taken-of : (first : List X) (it : X) → slice_get (first ++ x ∷ later) (length first) ≡ Some it → it ≡ x
  taken-of first it there =
      sym (get_or_from_slice_get (first ++ x ∷ later) (length first) it it there) ∙ get_or-append_seam first x later it

  -- what holds of all holds of the others, and of it
  pub all-of : (P : X → Type 0) (first : List X) → All P (first ++ x ∷ later) → All P (first ++ later) × P x
  all-of P [] all = (All-tail P x later all, All-head P x later all)
  all-of P (y ∷ first) all =
      let k = all-of P first (All-tail P y (first ++ x ∷ later) all) in
      (All-cons P y (first ++ later) (All-head P y (first ++ x ∷ later) all) k.0, k.1)

module _ (id : ℕ) (old new : RequestsView) (it : WaitingView) (was now : Queued WaitingView)
    (out : IsWithoutFirstFor id it was now) where
  its-self : it ≡ waiter id it.task
  its-self = ap (λ n. record { id = n; task = it.task }) out.waits

  pub out-of-place : old.waiting ≡ was.items → new ≡ record old { waiting = now.items } → count_of old ≤ old.limit
      → IsWithoutWaitingFor id it.task old new
  out-of-place same is few =
      let others : new ≡ record old { waiting = out.first ++ out.later } =
      is ∙ ap (λ (q : Queued WaitingView). requests_of old.ready old.held q.items old.ended old.limit) out.left in
      record {
        first = out.first;
        later = out.later;
        was = same ∙ out.was ∙ ap (λ w. out.first ++ w ∷ out.later) its-self;
        is_first = out.is_first;
        others = others;
        room =
            let all = ap length same ∙ ap length out.was ∙ length-append out.first (it ∷ out.later) in
            let left = length-append out.first out.later in
            rw others (omega (arith, few, all, left));
      }

-- one of a number is taken out from its place
pub numbered-out : (number : ℕ) (old new : RequestsView) (it : WaitingView) (was now : Queued WaitingView)
    → IsWithoutFirstNumbered number it was now → old.waiting ≡ was.items → new ≡ record old { waiting = now.items }
    → count_of old ≤ old.limit → IsWithoutNumbered number it old new
numbered-out number old new it was now out same is few =
    let others : new ≡ record old { waiting = out.first ++ out.later } =
    is ∙ ap (λ (q : Queued WaitingView). requests_of old.ready old.held q.items old.ended old.limit) out.left in
    record {
      first = out.first;
      later = out.later;
      was = same ∙ out.was;
      has_number = out.has_number;
      others = others;
      room =
          let all = ap length same ∙ ap length out.was ∙ length-append out.first (it ∷ out.later) in
          let left = length-append out.first out.later in
          rw others (omega (arith, few, all, left));
    }
