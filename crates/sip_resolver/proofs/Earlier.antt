-- The first moment by which one of some requests ends, as they come and go.
use Rattle.std.proofs.Common.{◌≡◌, ◌↔◌, ◌<◌, ◌≤◌, ◌+◌, ℕ, nat_eq, nat_lt, Bool, true, false, if◌then◌else◌, List, [], ◌∷◌, ◌++◌, Option, Some, None, length, map, refl, sym, ap, ◌∙◌, arith, rules}
use Rattle.std.specs.List.{All, Contains, filter_map, sum_by}
use Rattle.std.proofs.lemmas.Bool.{lt-ltb, ltb-true}
use Rattle.std.proofs.lemmas.Bool.Decides.{nat_tests}
use Rattle.std.proofs.lemmas.List.{length-append, length-map}
use Rattle.std.proofs.lemmas.List.Elements.{All-cons, All-head, All-nil, All-tail, Contains-append_right, filter_map-append}
use Rattle.std.proofs.lemmas.List.Sums.{sum_by-append, sum_by-cons, sum_by-le, sum_by-le-sum_by, sum_by_push}
use Rattle.std.specs.Bool.{IsTrue}
use Rattle.std.specs.Option.{MatchOption}
use Rattle.sip_resolver.specs.Earliest.{IsEarliest, ends_at, ends_before, untils_in}
use Rattle.sip_resolver.specs.Questions.{IsLeast}
use Rattle.sip_resolver.specs.Tasks.{TaskView, WaitingView}
use Rattle.sip_resolver.specs.declared.earliest.Earliest.{Earliest}

abbrev pub earliest_at : Option ℕ → ℕ → Earliest
earliest_at moment count = record { moment = moment; count = count }

-- ---- what one counts for

at-most-one : (is : Bool) → (if is then 1 else 0) ≤ 1
at-most-one true = omega arith
at-most-one false = omega arith

no-more : (is of : Bool) → (is ≡ true → of ≡ true) → (if is then 1 else 0) ≤ (if of then 1 else 0)
no-more true true on = omega arith
no-more true false on = absurd (let no = on refl in cc)
no-more false of on = omega arith

same-as : (a b : ℕ) → nat_eq a b ≡ true → a ≡ b
same-as a b is = search rules

sooner : (until moment other : ℕ) → until < moment → nat_lt other until ≡ true → nat_lt other moment ≡ true
sooner until moment other less is = let its = ltb-true other until is in lt-ltb other moment (omega (arith, its, less))

there-too : (until moment other : ℕ) → until < moment → nat_eq other until ≡ true → nat_lt other moment ≡ true
there-too until moment other less is = let its = same-as other until is in lt-ltb other moment (omega (arith, its, less))

-- what ends before a moment ends before none
before-none : (until : ℕ) (other : Option ℕ) → ends_before (Some until) other ≤ ends_before None other
before-none until None = omega arith
before-none until (Some other) = at-most-one (nat_lt other until)

at-none : (until : ℕ) (other : Option ℕ) → ends_at (Some until) other ≤ ends_before None other
at-none until None = omega arith
at-none until (Some other) = at-most-one (nat_eq other until)

-- what ends before a moment, or at it, ends before a later one
before-later : (until moment : ℕ) → until < moment → (other : Option ℕ) → ends_before (Some until) other ≤ ends_before (Some moment) other
before-later until moment less None = omega arith
before-later until moment less (Some other) =
    no-more (nat_lt other until) (nat_lt other moment) (sooner until moment other less)

at-later : (until moment : ℕ) → until < moment → (other : Option ℕ) → ends_at (Some until) other ≤ ends_before (Some moment) other
at-later until moment less None = omega arith
at-later until moment less (Some other) =
    no-more (nat_eq other until) (nat_lt other moment) (there-too until moment other less)

no-sooner : (until moment : ℕ) → moment ≤ until → ends_before (Some moment) (Some until) ≡ 0
no-sooner until moment less = grind (arith, nat_tests)

is-at : (until moment : ℕ) → until ≡ moment → ends_at (Some moment) (Some until) ≡ 1
is-at until moment same = grind (arith, nat_tests)

one-at-most : (moment other : Option ℕ) → ends_at moment other ≤ 1
one-at-most moment None = omega arith
one-at-most None (Some other) = omega arith
one-at-most (Some moment) (Some other) = at-most-one (nat_eq other moment)

-- ---- one more

none-of : (f g : Option ℕ → ℕ) → ((other : Option ℕ) → f other ≤ g other) → (untils : List (Option ℕ)) → sum_by g untils ≡ 0
    → sum_by f untils ≡ 0
none-of f g less untils none = let all = sum_by-le-sum_by f g untils less in omega (arith, all, none)

module _ (untils : List (Option ℕ)) where
  -- a request without such a moment changes nothing
  never-too : (it : Earliest) → IsEarliest untils it → IsEarliest (None ∷ untils) it
  never-too it so =
      let before = sum_by-cons (ends_before it.moment) None untils in
      let at = sum_by-cons (ends_at it.moment) None untils in
      let none = so.none_before in
      let many = so.count_is in
      record { none_before = omega (arith, before, none); count_is = omega (arith, at, many) }

  first-by : (until : ℕ) → sum_by (ends_before (Some until)) untils ≡ 0 → sum_by (ends_at (Some until)) untils ≡ 0
      → IsEarliest (Some until ∷ untils) (earliest_at (Some until) 1)
  first-by until before at =
      let before-it = sum_by-cons (ends_before (Some until)) (Some until) untils in
      let at-it = sum_by-cons (ends_at (Some until)) (Some until) untils in
      let none = no-sooner until until (omega arith) in
      let one = is-at until until refl in
      record { none_before = omega (arith, before, before-it, none); count_is = omega (arith, at, at-it, one) }

  -- it is the first one with such a moment
  pub first-too : (until : ℕ) (it : Earliest) → it.moment ≡ None → IsEarliest untils it
      → IsEarliest (Some until ∷ untils) (earliest_at (Some until) 1)
  first-too until it is so =
      let none = rw is at so.none_before in
      first-by until (none-of (ends_before (Some until)) (ends_before None) (before-none until) untils none)
      (none-of (ends_at (Some until)) (ends_before None) (at-none until) untils none)

  -- it ends before the others
  pub sooner-too : (until moment : ℕ) (it : Earliest) → it.moment ≡ Some moment → until < moment → IsEarliest untils it
      → IsEarliest (Some until ∷ untils) (earliest_at (Some until) 1)
  sooner-too until moment it is less so =
      let none = rw is at so.none_before in
      first-by until (none-of (ends_before (Some until)) (ends_before (Some moment)) (before-later until moment less) untils none)
      (none-of (ends_at (Some until)) (ends_before (Some moment)) (at-later until moment less) untils none)

-- ---- the requests inside

module _ (h : Option ℕ → ℕ) where
  abbrev pub of-task : TaskView → ℕ
  of-task task = h task.until

  abbrev pub of-waiting : WaitingView → ℕ
  of-waiting waiting = h waiting.task.until

  sum-map : {X : Type 0} (f : X → Option ℕ) (xs : List X) → sum_by h (map f xs) ≡ sum_by (λ x. h (f x)) xs
  sum-map f [] = refl
  sum-map f (x ∷ xs) =
      sum_by-cons h (f x) (map f xs) ∙ ap (λ n. h (f x) + n) (sum-map f xs) ∙ sym (sum_by-cons (λ x. h (f x)) x xs)

  pub parts : (ready held : List TaskView) (waiting : List WaitingView)
      → sum_by h (untils_in ready held waiting) ≡ sum_by of-task ready + sum_by of-task held + sum_by of-waiting waiting
  parts ready held waiting =
      let readies = map (λ (task : TaskView). task.until) ready in
      let helds = map (λ (task : TaskView). task.until) held in
      let waitings = map (λ (it : WaitingView). it.task.until) waiting in
      let all = sum_by-append h (readies ++ helds) waitings in
      let some-of = sum_by-append h readies helds in
      let one = sum-map (λ (task : TaskView). task.until) ready in
      let two = sum-map (λ (task : TaskView). task.until) held in
      let three = sum-map (λ (it : WaitingView). it.task.until) waiting in
      omega (arith, all, some-of, one, two, three)

-- they end as others do, in another order
as-sums : (few many : List (Option ℕ)) (it : Earliest) → ((h : Option ℕ → ℕ) → sum_by h few ≡ sum_by h many) → IsEarliest few it
    → IsEarliest many it
as-sums few many it same so = record {
  none_before = sym (same (ends_before it.moment)) ∙ so.none_before;
  count_is = sym (same (ends_at it.moment)) ∙ so.count_is;
}

module _ (ready held : List TaskView) (waiting : List WaitingView) (it : Earliest) where
  -- no more end at the moment than are inside
  few-by : (moment : Option ℕ) → sum_by (ends_at moment) (untils_in ready held waiting) ≤ length ready + length held + length waiting
  few-by moment =
      let all = sum_by-le (ends_at moment) 1 (untils_in ready held waiting) (λ k d small. one-at-most moment _) in
      let readies = map (λ (task : TaskView). task.until) ready in
      let helds = map (λ (task : TaskView). task.until) held in
      let waitings = map (λ (it : WaitingView). it.task.until) waiting in
      let whole = length-append (readies ++ helds) waitings in
      let front = length-append readies helds in
      let one = length-map ready (λ (task : TaskView). task.until) in
      let two = length-map held (λ (task : TaskView). task.until) in
      let three = length-map waiting (λ (it : WaitingView). it.task.until) in
      omega (arith, all, whole, front, one, two, three)

  pub few-at : IsEarliest (untils_in ready held waiting) it → it.count ≤ length ready + length held + length waiting
  few-at so = rw (← so.count_is) (few-by it.moment)

  module _ (task : TaskView) where
    pub ready-too : IsEarliest (task.until ∷ untils_in ready held waiting) it → IsEarliest (untils_in (ready ++ task ∷ []) held waiting) it
    ready-too so =
        as-sums (task.until ∷ untils_in ready held waiting) (untils_in (ready ++ task ∷ []) held waiting) it
        (λ h.
        let one = sum_by-cons h task.until (untils_in ready held waiting) in
        let was = parts h ready held waiting in
        let is = parts h (ready ++ task ∷ []) held waiting in
        let more = sum_by_push (of-task h) ready task in
        omega (arith, one, was, is, more)) so

    pub held-too : IsEarliest (task.until ∷ untils_in ready held waiting) it → IsEarliest (untils_in ready (held ++ task ∷ []) waiting) it
    held-too so =
        as-sums (task.until ∷ untils_in ready held waiting) (untils_in ready (held ++ task ∷ []) waiting) it
        (λ h.
        let one = sum_by-cons h task.until (untils_in ready held waiting) in
        let was = parts h ready held waiting in
        let is = parts h ready (held ++ task ∷ []) waiting in
        let more = sum_by_push (of-task h) held task in
        omega (arith, one, was, is, more)) so

    pub held-out : IsEarliest (untils_in ready (task ∷ held) waiting) it → IsEarliest (task.until ∷ untils_in ready held waiting) it
    held-out so =
        as-sums (untils_in ready (task ∷ held) waiting) (task.until ∷ untils_in ready held waiting) it
        (λ h.
        let one = sum_by-cons h task.until (untils_in ready held waiting) in
        let is = parts h ready held waiting in
        let was = parts h ready (task ∷ held) waiting in
        let more = sum_by-cons (of-task h) task held in
        omega (arith, one, was, is, more)) so

  pub waiting-too : (last : WaitingView) → IsEarliest (last.task.until ∷ untils_in ready held waiting) it
      → IsEarliest (untils_in ready held (waiting ++ last ∷ [])) it
  waiting-too last so =
      as-sums (last.task.until ∷ untils_in ready held waiting) (untils_in ready held (waiting ++ last ∷ [])) it
      (λ h.
      let one = sum_by-cons h last.task.until (untils_in ready held waiting) in
      let was = parts h ready held waiting in
      let is = parts h ready held (waiting ++ last ∷ []) in
      let more = sum_by_push (of-waiting h) waiting last in
      omega (arith, one, was, is, more)) so

pub waiting-out : (ready held : List TaskView) (first later : List WaitingView) (it : Earliest) (one : WaitingView)
    → IsEarliest (untils_in ready held (first ++ one ∷ later)) it
    → IsEarliest (one.task.until ∷ untils_in ready held (first ++ later)) it
waiting-out ready held first later it one so =
    as-sums (untils_in ready held (first ++ one ∷ later)) (one.task.until ∷ untils_in ready held (first ++ later)) it
    (λ h.
    let single = sum_by-cons h one.task.until (untils_in ready held (first ++ later)) in
    let was = parts h ready held (first ++ one ∷ later) in
    let is = parts h ready held (first ++ later) in
    let whole = sum_by-append (of-waiting h) first (one ∷ later) in
    let its = sum_by-cons (of-waiting h) one later in
    let left = sum_by-append (of-waiting h) first later in
    omega (arith, single, was, is, whole, its, left)) so

-- as many end at the moment as are counted
pub counted : (until : Option ℕ) (untils : List (Option ℕ)) (it : Earliest) → IsEarliest (until ∷ untils) it
    → ends_at it.moment until ≤ it.count
counted until untils it so =
    let all = sum_by-cons (ends_at it.moment) until untils in let many = so.count_is in omega (arith, all, many)

-- ---- the least of the moments

abbrev pub moments : List (Option ℕ) → List ℕ
moments untils = filter_map (λ until. until) untils

not-sooner : (first until : ℕ) → ends_before (Some first) (Some until) ≡ 0 → first ≤ until
not-sooner first until none = grind (arith, nat_tests)

-- none comes before it
pub none-sooner : (first : ℕ) (untils : List (Option ℕ)) → sum_by (ends_before (Some first)) untils ≡ 0
    → All (λ it. first ≤ it) (moments untils)
none-sooner first [] none = All-nil (λ it. first ≤ it)
none-sooner first (None ∷ xs) none =
    none-sooner first xs (let all = sum_by-cons (ends_before (Some first)) None xs in omega (arith, all, none))
none-sooner first (Some x ∷ xs) none =
    let all = sum_by-cons (ends_before (Some first)) (Some x) xs in
    All-cons (λ it. first ≤ it) x (moments xs) (not-sooner first x (omega (arith, all, none)))
    (none-sooner first xs (omega (arith, all, none)))

-- and the other way round
pub as-none : (first : ℕ) (untils : List (Option ℕ)) → All (λ it. first ≤ it) (moments untils)
    → sum_by (ends_before (Some first)) untils ≡ 0
as-none first [] all = refl
as-none first (None ∷ xs) all =
    let rest = as-none first xs all in
    let whole = sum_by-cons (ends_before (Some first)) None xs in
    omega (arith, rest, whole)
as-none first (Some x ∷ xs) all =
    let rest = as-none first xs (All-tail (λ it. first ≤ it) x (moments xs) all) in
    let whole = sum_by-cons (ends_before (Some first)) (Some x) xs in
    let its = no-sooner x first (All-head (λ it. first ≤ it) x (moments xs) all) in
    omega (arith, rest, whole, its)

-- none has one
pub never-any : (untils : List (Option ℕ)) → sum_by (ends_before None) untils ≡ 0 → moments untils ≡ []
never-any [] none = refl
never-any (None ∷ xs) none =
    never-any xs (let all = sum_by-cons (ends_before None) None xs in omega (arith, all, none))
never-any (Some x ∷ xs) none = absurd (let all = sum_by-cons (ends_before None) (Some x) xs in omega (arith, all, none))

pub as-never : (untils : List (Option ℕ)) → moments untils ≡ [] → IsEarliest untils (earliest_at None 0)
as-never [] none = record { none_before = refl; count_is = refl }
as-never (None ∷ xs) none = never-too xs (earliest_at None 0) (as-never xs none)
as-never (Some x ∷ xs) none = absurd cc

here-by : (first x : ℕ) (is : Bool) → nat_eq x first ≡ is → (xs : List (Option ℕ))
    → 0 < sum_by (ends_at (Some first)) (Some x ∷ xs)
    → (0 < sum_by (ends_at (Some first)) xs → Contains (moments xs) first) → Contains (x ∷ moments xs) first
here-by first x true is xs some-of rest = (0, omega arith, same-as x first is)
here-by first x false is xs some-of rest =
    let all = sum_by-cons (ends_at (Some first)) (Some x) xs in
    let none : ends_at (Some first) (Some x) ≡ 0 = rw is refl in
    Contains-append_right (x ∷ []) (moments xs) first (rest (omega (arith, all, none, some-of)))

-- one ends at it
pub one-there : (first : ℕ) (untils : List (Option ℕ)) → 0 < sum_by (ends_at (Some first)) untils → Contains (moments untils) first
one-there first [] some-of = absurd (omega (arith, some-of))
one-there first (None ∷ xs) some-of =
    one-there first xs (let all = sum_by-cons (ends_at (Some first)) None xs in omega (arith, all, some-of))
one-there first (Some x ∷ xs) some-of = here-by first x (nat_eq x first) refl xs some-of (one-there first xs)

moments-map : {X : Type 0} (f : X → Option ℕ) (xs : List X) → moments (map f xs) ≡ filter_map f xs
moments-map f [] = refl
moments-map f (x ∷ xs) = rw (moments-map f xs) refl

-- those of the requests inside
pub moments-in : (ready held : List TaskView) (waiting : List WaitingView)
    → moments (untils_in ready held waiting)
    ≡ filter_map (λ (task : TaskView). task.until) ready ++ filter_map (λ (task : TaskView). task.until) held
    ++ filter_map (λ (it : WaitingView). it.task.until) waiting
moments-in ready held waiting =
    let readies = map (λ (task : TaskView). task.until) ready in
    let helds = map (λ (task : TaskView). task.until) held in
    let waitings = map (λ (it : WaitingView). it.task.until) waiting in
    rw (
      filter_map-append (λ (it : Option ℕ). it) (readies ++ helds) waitings,
      filter_map-append (λ (it : Option ℕ). it) readies helds,
      moments-map (λ (task : TaskView). task.until) ready,
      moments-map (λ (task : TaskView). task.until) held,
      moments-map (λ (it : WaitingView). it.task.until) waiting,
    ) refl

-- ---- the moment that is known is the least

module _ (untils : List (Option ℕ)) where
  pub least-known : (moment : Option ℕ) (count : ℕ) (past : Bool)
      → MatchOption moment (past ≡ false) (λ _. IsTrue past ↔ (count ≡ 0)) → past ≡ false → IsEarliest untils (earliest_at moment count)
      → IsLeast (moments untils) moment
  least-known None count past is not so = never-any untils so.none_before
  least-known (Some moment) count past is not so =
      let some-of : (count ≡ 0) → ⊥ = λ none. let yes = is.1 none in absurd cc in
      let many = so.count_is in
      (one-there moment untils (omega (arith, some-of, many)), none-sooner moment untils so.none_before)

  pub earliest-found : (moment count : ℕ) → IsLeast (moments untils) (Some moment) → count ≡ sum_by (ends_at (Some moment)) untils
      → IsEarliest untils (earliest_at (Some moment) count)
  earliest-found moment count least is =
      record { none_before = as-none moment untils least.1; count_is = sym is }
