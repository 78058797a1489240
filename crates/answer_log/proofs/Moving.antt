-- Each step keeps the rule.
use Rattle.std.proofs.Common.{◌≡◌, ◌≢◌, ℕ, ◌<◌, ◌==◌, ◌⊎◌, inl, inr, Bool, true, false, List, []}
use Rattle.std.proofs.Common.{◌∷◌, ◌++◌, ◌≤◌, length, refl, ap, sym, ◌∙◌, subst, arith, append_assoc, set, None, Some, length-set}
use Rattle.std.proofs.lemmas.List.{append-nil, get_or-set_same}
use Rattle.std.proofs.lemmas.List.Elements.{filter-append}
use Rattle.std.proofs.lemmas.Bool.{eqb-true, eqb-false}
use Rattle.std.proofs.lemmas.Bool.Decides.{nat_tests}
use mathlib.Core.List.{IsPrefix}
use prog.Atomic.{either}
use Rattle.logbook.specs.Pages.{Cell, cell, keeps, gives, adds, Nib, no_nib, may_write, step, Moves, Goes, Away}
use Rattle.answer_log.specs.declared.store.Store.{Store}
use Rattle.answer_log.specs.declared.event.Event.{Event}
use Rattle.answer_log.specs.declared.event.Counted.{Counted}
use Rattle.answer_log.specs.declared.event.Event.TheVariants.{Asks, Named, Opened, Placed}
use Rattle.answer_log.specs.Counts.{count, Counts}
use Rattle.answer_log.specs.Groups.{group_limit, group_in}
use Rattle.answer_log.specs.Histories.{IsFull, IsHistory, IsSound, in_group}
use Rattle.answer_log.specs.Logs.{groups_in, seat_of, seats_in, history, placed_of, top, top_from, Linked, In}
use Rattle.answer_log.specs.Rules.{IsKept, node_at}
use Rattle.answer_log.specs.Steps.{Looks, Follows, Claims, Tries}
use Rattle.answer_log.proofs.Counting.{counts_keep, counts_add, kept_answer, more_answer}
use Rattle.answer_log.proofs.Growing.{history-more}
use Rattle.answer_log.proofs.Chains.{group-low, in-group, placed-append, placed-here, placed-else, same-top, top-on}
use Rattle.answer_log.proofs.Logs.{unplaced-of, once-named, once-placed, in-linked, history-append}
use Rattle.answer_log.proofs.Logs.{Begun, begun-groups, begun-in, begun-seats, groups-append, groups-prefix, in-here}
use Rattle.answer_log.proofs.Logs.{seats-append, seat-append, seat-prefix, linked-right, linked-append, linked-map, in-left}
use Rattle.answer_log.proofs.Logs.{in-cases}
use Rattle.answer_log.proofs.Cells.{cell-adds, home-in, same-cell, idle, keep-else, keeps-low, apart, keeps-out, keeps-trans, keeps-adds}

-- the link is that of a placed node
abbrev pub IsPlaced : List Event → ℕ → Type 0
IsPlaced log link = (before : List Event) × (after : List Event) × (node : ℕ) × (store : Store)
    × (log ≡ before ++ Placed node store link ∷ after)

abbrev pub shown : List Event → List Event
shown log = log

head-home : (cs : List Cell) (log : List Event) → IsKept cs log → (group : ℕ) → group < groups_in log → (cell cs group).1 ≡ true
head-home cs log kept group low = ap (λ (c : Cell). c.1) (kept.heads group low)

idle-home : (cs : List Cell) (log : List Event) → IsKept cs log → (cell cs (groups_in log)).1 ≡ true
idle-home cs log kept = ap (λ (c : Cell). c.1) kept.idle

-- a log that keeps the rule has a first event
begun-kept : (cs : List Cell) (log : List Event) → IsKept cs log → Begun log
begun-kept cs log kept = begun-groups log (let least = kept.groups.0 in omega arith)

-- a question is in one of the groups
low-of : (cs : List Cell) (log : List Event) → IsKept cs log → (x : Store) → group_in (groups_in log) x.question < groups_in log
low-of cs log kept x = group-low (groups_in log) (let least = kept.groups.0 in omega arith) x.question

-- with no event and no change of a word
pub kept-same : (cs : List Cell) (log : List Event) (k n : ℕ) → (cell cs k).1 ≡ true → n ≡ (cell cs k).0 → IsKept cs log
    → IsKept (set cs k (n, true)) (log ++ [])
kept-same cs log k n home e kept =
    let P : List Cell → Type 0 = λ c. IsKept c (log ++ []) in
    let Q : List Event → Type 0 = λ l. IsKept cs l in
    subst P (sym (same-cell cs k n home e)) (subst Q (sym (append-nil log)) kept)

pub kept-adds : (cs : List Cell) (log : List Event) → IsKept cs log → IsKept (cs ++ (0, false) ∷ []) log
kept-adds cs log kept = record {
  seats = kept.seats;
  groups = kept.groups;
  heads = λ group low. cell-adds cs group ∙ kept.heads group low;
  idle = cell-adds cs (groups_in log) ∙ kept.idle;
  linked = λ group. linked-map (groups_in log) cs (cs ++ (0, false) ∷ []) 0 (placed_of (groups_in log) group log)
      (keeps-adds (groups_in log) cs) (kept.linked group);
  twins = kept.twins;
  named = kept.named;
  unique = kept.unique;
  once = kept.once;
  history = kept.history;
}

-- the word at a link is the node placed before it for its group
pub placed-cell : (cs : List Cell) (log a b : List Event) (n l : ℕ) (x : Store) → IsKept cs log → log ≡ a ++ Placed n x l ∷ b
    → cell cs l ≡ (top (groups_in log) (group_in (groups_in log) x.question) a, true)
placed-cell cs log a b n l x kept split =
    let s : ℕ = groups_in log in
    let g : ℕ = group_in s x.question in
    let L : List Event → Type 0 = λ w. Linked s cs 0 w in
    let its : placed_of s g log ≡ placed_of s g a ++ Placed n x l ∷ placed_of s g b =
    ap (placed_of s g) split ∙ (placed-append s g a (Placed n x l ∷ b) ∙ ap (λ w. placed_of s g a ++ w) (placed-here s g n x l b refl)) in
    let r = linked-right s cs 0 (placed_of s g a) (Placed n x l ∷ placed_of s g b) (subst L its (kept.linked g)) in r.1

pub longer : (v g log a b : List Event) (e : Event) → v ++ g ≡ log → v ≡ a ++ e ∷ b → log ≡ a ++ e ∷ (b ++ g)
longer v g log a b e p split = sym p ∙ (ap (λ w. w ++ g) split ∙ append_assoc a (e ∷ b) g)

pub look_moves : (v : List Event) (group : ℕ) (ask : Event) → group < groups_in v → seat_of ask < 64
    → Moves IsKept shown (Counts ask) group (v, (no_nib, None)) (λ n. n) (Looks (step group 0 0 ask) (v, (no_nib, None)))
look_moves v group ask its low cs log kept pre away =
    let T : List Event → Type 0 = λ w. (cell cs group).0 ≡ top (groups_in w) group w in
    let on : groups_in log ≡ groups_in v = groups-prefix v log pre (begun-groups v (omega arith)) in
    let there : group < groups_in log = omega arith in
    let home = head-home cs log kept group there in
    let r : Counted = kept_answer (count (seat_of ask) log) in (
      home-in cs group home,
      home,
      (
        keeps,
        [],
        Some r,
        tt,
        kept-same cs log group (cell cs group).0 home refl kept,
        inr (r, refl, refl, counts_keep ask log low),
        (
          subst T (sym (append-nil log)) (ap (λ (c : Cell). c.0) (kept.heads group there)),
          (r, refl, (ap (count (seat_of ask)) (sym (append-nil log)), refl)),
        ),
      ),
    )

-- the word at a link, by the groups of the front that was seen
seen-cell : (cs : List Cell) (v log a b : List Event) (n l : ℕ) (x : Store) → IsKept cs log → IsPrefix v log
    → v ≡ a ++ Placed n x l ∷ b → (cell cs l).0 ≡ top (groups_in v) (group_in (groups_in v) x.question) a
seen-cell cs v log a b n l x kept pre split =
    let e : Event = Placed n x l in
    let I : List Event → Type 0 = λ w. In e w in
    let T : ℕ → Type 0 = λ s. (cell cs l).0 ≡ top s (group_in s x.question) a in
    subst T (groups-prefix v log pre (begun-in e v (subst I (sym split) (in-here e a b))))
    (ap (λ (c : Cell). c.0) (placed-cell cs log a (b ++ pre.0) n l x kept (longer v pre.0 log a b e pre.1 split)))

pub follow_moves : (v : List Event) (l : ℕ) (r : Counted) → IsPlaced v l
    → Moves IsKept shown (Counts (Asks 0 0)) l (v, (no_nib, Some r)) (λ n. n) (Follows (step l 0 0 (Asks 0 0)) (v, (no_nib, Some r)))
follow_moves v l r placed cs log kept pre away =
    let c = placed-cell cs log placed.0 (placed.1 ++ pre.0) placed.2 l placed.3 kept
    (longer v pre.0 log placed.0 placed.1 (Placed placed.2 placed.3 l) pre.1 placed.4) in
    let home : (cell cs l).1 ≡ true = ap (λ (c : Cell). c.1) c in (
      home-in cs l home,
      home,
      (
        keeps,
        [],
        Some r,
        tt,
        kept-same cs log l (cell cs l).0 home refl kept,
        inl (refl, append-nil log),
        λ a b n x split. seen-cell cs v log a b n l x kept pre split,
      ),
    )

pub some-name : (cs : List Cell) (log : List Event) → IsKept cs log → (n : ℕ) (x : Store) (l : ℕ) → In (Placed n x l) log → n ≢ 0
some-name cs log kept n x l i none =
    let m = kept.named n x l (kept.twins n x l i) in
    let num : n ≡ node_at x.seat m.1.0 = m.1.1 in
    absurd (omega (arith, num))

-- a node whose link is out was not placed
not-placed : (cs : List Cell) (log : List Event) (n : ℕ) (x : Store) (l : ℕ) → IsKept cs log → In (Named n x l) log
    → (cell cs l).1 ≡ false → (y : Store) (k : ℕ) → In (Placed n y k) log → ⊥
not-placed cs log n x l kept named out y k i =
    let same = kept.unique n x y l k named (kept.twins n y k i) in
    let s : ℕ = groups_in log in
    let g : ℕ = group_in s y.question in
    let home = in-linked s cs 0 (placed_of s g log) n y k (kept.linked g) (in-group s n y k log i) in
    let e : (cell cs l).1 ≡ (cell cs k).1 = ap (λ j. (cell cs j).1) same.1 in
    absurd (cc (out, home, e))

new-named : (n m : ℕ) (x y : Store) (l k node_count seats : ℕ) → Named n x l ≡ Named m y k → n ≡ node_at x.seat node_count
    → x.seat < seats
    → (y.seat < seats) × ((p : ℕ) × (m ≡ node_at y.seat p))
new-named n m x y l k node_count seats q is some =
    let a : m ≡ n = cc (q) in
    let b : y.seat ≡ x.seat = cc (q) in
    (omega arith, (node_count, omega arith))

kept-named : (cs : List Cell) (log : List Event) (n : ℕ) (x : Store) (l node_count : ℕ) → IsKept cs log
    → ((y : Store) (k : ℕ) → In (Named n y k) log → ⊥) → n ≡ node_at x.seat node_count → x.seat < seats_in log
    → IsKept cs (log ++ Named n x l ∷ [])
kept-named cs [] n x l node_count kept none is some = absurd (omega arith)
kept-named cs (first ∷ rest) n x l node_count kept none is some =
    let log : List Event = first ∷ rest in
    let s : ℕ = groups_in log in
    let e : Event = Named n x l in record {
      seats = let same = seats-append log (e ∷ []) (omega arith) in let few = kept.seats in omega arith;
      groups = kept.groups;
      heads = λ group low. kept.heads group low ∙ sym (ap (λ (m : ℕ). (m, true)) (top-on s group 0 log (e ∷ [])));
      idle = kept.idle;
      linked = λ group.
          let L : List Event → Type 0 = λ w. Linked s cs 0 w in
          subst L (sym (placed-append s group log (e ∷ [])))
          (linked-append s cs 0 (placed_of s group log) [] (kept.linked group) tt);
      twins = λ m y k i. elim (in-cases (Placed m y k) log (e ∷ []) i) [
        | inl j ↦ in-left (Named m y k) log (e ∷ []) (kept.twins m y k j)
        | inr j ↦ elim j [ inl q ↦ absurd (cc (q)) | inr z ↦ absurd z ]
      ];
      named = λ m y k i. elim (in-cases (Named m y k) log (e ∷ []) i) [
        | inl j ↦ (let it = kept.named m y k j in (seat-append y.seat log (e ∷ []) it.0, it.1))
        | inr j ↦ elim j [
          | inl q ↦
              new-named n m x y l k node_count (seats_in (log ++ e ∷ [])) q is (seat-append x.seat log (e ∷ []) some)
          | inr z ↦ absurd z
        ]
      ];
      unique = λ m y z k j a b. elim (in-cases (Named m y k) log (e ∷ []) a) [
        | inl c ↦ elim (in-cases (Named m z j) log (e ∷ []) b) [
          | inl d ↦ kept.unique m y z k j c d
          | inr d ↦ elim d [
            | inl q ↦
                (let w : n ≡ m = cc (q) in let I : ℕ → Type 0 = λ r. In (Named r y k) log in absurd (none y k (subst I (sym w) c)))
            | inr z ↦
                absurd z
          ]
        ]
        | inr c ↦ elim c [
          | inl q ↦ elim (in-cases (Named m z j) log (e ∷ []) b) [
            | inl d ↦ (let w : n ≡ m = cc (q) in let I : ℕ → Type 0 = λ r. In (Named r z j) log in absurd (none z j (subst I (sym w) d)))
            | inr d ↦ elim d [ inl r ↦ (cc (q, r), cc (q, r)) | inr z ↦ absurd z ]
          ]
          | inr z ↦ absurd z
        ]
      ];
      once = once-named log n x l kept.once;
      history = let H : List Store → Type 0 = λ h. IsHistory s h in subst H
          (sym (history-append log (e ∷ []) ∙ append-nil (history log))) kept.history;
    }

-- whether the log has the name
abbrev Has : ℕ → List Event → Type 0
Has n log = ((y : Store) × (k : ℕ) × In (Named n y k) log) ⊎ ((y : Store) (k : ℕ) → In (Named n y k) log → ⊥)

has-later : (n : ℕ) (e : Event) (log : List Event) → ((y : Store) (k : ℕ) → e ≡ Named n y k → ⊥) → Has n log → Has n (e ∷ log)
has-later n e log ne h = elim h [
  | inl p ↦ inl (p.0, p.1, inr p.2)
  | inr f ↦ inr (λ y k i. elim i [ inl q ↦ ne y k q | inr j ↦ f y k j ])
]

has-when : (n m : ℕ) (x : Store) (l : ℕ) (log : List Event) → (b : Bool) → (m == n) ≡ b → Has n log → Has n (Named m x l ∷ log)
has-when n m x l log true is h = let e : m ≡ n = grind (arith, nat_tests) in inl (x, l, inl (ap (λ (k : ℕ). Named k x l) e))
has-when n m x l log false is h = has-later n (Named m x l) log (λ y k q. let e : m ≡ n = cc (q) in absurd (grind (arith, nat_tests))) h

has : (n : ℕ) (log : List Event) → Has n log
has n [] = inr (λ y k i. i)
has n (Opened t g ∷ log) = has-later n (Opened t g) log (λ y k q. absurd (cc (q))) (has n log)
has n (Asks s t ∷ log) = has-later n (Asks s t) log (λ y k q. absurd (cc (q))) (has n log)
has n (Named m x l ∷ log) = has-when n m x l log (m == n) refl (has n log)
has n (Placed m x l ∷ log) = has-later n (Placed m x l) log (λ y k q. absurd (cc (q))) (has n log)

claim_goes : (v : List Event) (node_count n : ℕ) (x : Store) → n ≡ node_at x.seat node_count → x.seat < 64 → x.seat < seats_in v
    → (cs : List Cell) (log : List Event)
    → IsKept cs log → IsPrefix v log → groups_in log < length cs → Has n log
    → Goes IsKept shown (Counts (Named n x 0)) (groups_in log) (v, (no_nib, None)) (λ n. either (n == 0) 0 n)
    (Claims (step (groups_in log) 0 0 (Named n x 0)) (v, (no_nib, None))) cs log
claim_goes v node_count n x is some low cs log kept pre long h =
    let s : ℕ = groups_in log in
    let n0 : ℕ = either ((cell cs s).0 == 0) 0 (cell cs s).0 in
    let cs' : List Cell = set cs s (n0, true) in
    let same : cs' ≡ cs = same-cell cs s n0 (idle-home cs log kept) (idle (cell cs s).0) in
    let K : List Cell → Type 0 = λ c. IsKept c log in
    let kept' : IsKept cs' log = subst K (sym same) kept in
    elim h [
      | inl p ↦
          (let r : Counted = kept_answer (count x.seat log) in
          let m = kept.named n p.0 p.1 p.2 in
          let below : p.0.seat < 64 = (let its = m.0 in let few = kept.seats in omega arith) in
          let I : List Event → Type 0 = λ w. In (Named n p.0 p.1) w in
          let L : List Event → Type 0 = λ w. groups_in w < length cs in (
            adds,
            [],
            Some r,
            tt,
            (let Q : List Event → Type 0 = λ w. IsKept (cs' ++ (0, false) ∷ []) w in
                subst Q (sym (append-nil log)) (kept-adds cs' log kept')),
            inr (r, refl, refl, counts_keep (Named n x 0) log some),
            (
              length cs,
              subst L (sym (append-nil log)) long,
              refl,
              (
                r,
                refl,
                inr (
                  (ap (count x.seat) (sym (append-nil log)), refl),
                  (p.0, p.1, subst I (sym (append-nil log)) p.2, below, m.1),
                ),
              ),
            ),
          ))
      | inr none ↦
          (let r : Counted = more_answer (count x.seat log) in
          let e : Event = Named n x (length cs) in
          let L : ℕ → Type 0 = λ groups. groups < length cs in (
            adds,
            e ∷ [],
            Some r,
            tt,
            kept-adds cs' (log ++ e ∷ []) (kept-named cs' log n x (length cs) node_count kept' none is (seat-prefix x.seat v log pre low)),
            inr (r, refl, refl, counts_add (Named n x 0) e log refl some),
            (
              length cs,
              subst L (sym (groups-append log (e ∷ []) (begun-kept cs log kept))) long,
              refl,
              (r, refl, inl (refl, (pre.0, ap (λ w. w ++ e ∷ []) (sym pre.1), ap (count x.seat) (sym pre.1)))),
            ),
          ))
    ]

pub claim_moves : (v : List Event) (node_count n : ℕ) (x : Store) → n ≡ node_at x.seat node_count → x.seat < 64 → x.seat < seats_in v
    → Moves IsKept shown (Counts (Named n x 0)) (groups_in v) (v, (no_nib, None)) (λ n. either (n == 0) 0 n)
    (Claims (step (groups_in v) 0 0 (Named n x 0)) (v, (no_nib, None)))
claim_moves v node_count n x is some low cs log kept pre away =
    let on : groups_in log ≡ groups_in v = groups-prefix v log pre (begun-seats v (omega arith)) in
    let G : ℕ → Type 0 = λ k. (k < length cs) × ((cell cs k).1 ≡ true)
    × Goes IsKept shown (Counts (Named n x 0)) k (v, (no_nib, None)) (λ n. either (n == 0) 0 n)
    (Claims (step k 0 0 (Named n x 0)) (v, (no_nib, None))) cs log in
    let long = home-in cs (groups_in log) (idle-home cs log kept) in
    subst G on (long, idle-home cs log kept, claim_goes v node_count n x is some low cs log kept pre long (has n log))

out-apart : (cs : List Cell) (k : ℕ) (v : ℕ) (j : ℕ) → (cell cs j).1 ≡ false → (cell cs k).1 ≡ true
    → (cell (set cs k (v, true)) j).1 ≡ false
out-apart cs k v j out home =
    let ne : j ≢ k = (λ p. apart cs j k out home (sym p)) in
    ap (λ (c : Cell). c.1) (keep-else cs k v j (cell cs j) ne refl) ∙ out

module _ (cs : List Cell) (log : List Event) (n : ℕ) (x : Store) (k v : ℕ) (kept : IsKept cs log) (out : (cell cs k).1 ≡ false) where
  abbrev so_many : ℕ
  so_many = groups_in log

  -- the head of its group leads to a node that was placed, and the other heads stay
  placed-head : (group : ℕ) → group < so_many → (is : Bool) → (group_in so_many x.question == group) ≡ is
      → cell (set (set cs (group_in so_many x.question) (n, true)) k (v, true)) group
      ≡ (top so_many group (log ++ Placed n x k ∷ []), true)
  placed-head group low true is =
      let g : ℕ = group_in so_many x.question in
      let same : g ≡ group = eqb-true g group is in
      let home = head-home cs log kept g (low-of cs log kept x) in
      let cs1 : List Cell = set cs g (n, true) in
      let P : ℕ → Type 0 = λ j. cell cs1 j ≡ (n, true) in
      let first : cell cs1 group ≡ (n, true) = subst P same (get_or-set_same cs g (n, true) (0, false) (home-in cs g home)) in
      let out1 = out-apart cs g n k out home in
      keep-else cs1 k v group (n, true) (apart cs1 k group out1 (ap (λ (c : Cell). c.1) first)) first
      ∙ sym (ap (λ (m : ℕ). (m, true)) (top-on so_many group 0 log (Placed n x k ∷ [])
      ∙ ap (top_from (top so_many group log)) (placed-here so_many group n x k [] same)))
  placed-head group low false is =
      let g : ℕ = group_in so_many x.question in
      let other = eqb-false g group is in
      let home = head-home cs log kept g (low-of cs log kept x) in
      let cs1 : List Cell = set cs g (n, true) in
      let old : cell cs1 group ≡ (top so_many group log, true) =
      keep-else cs g n group (top so_many group log, true) (λ p. other (sym p)) (kept.heads group low) in
      let out1 = out-apart cs g n k out home in
      keep-else cs1 k v group (top so_many group log, true) (apart cs1 k group out1 (ap (λ (c : Cell). c.1) old)) old
      ∙ sym (ap (λ (m : ℕ). (m, true)) (top-on so_many group 0 log (Placed n x k ∷ [])
      ∙ ap (top_from (top so_many group log)) (placed-else so_many group n x k [] other)))

-- the chain of its group goes on with a node that was placed, and the other chains stay
placed-links : (groups : ℕ) (cs : List Cell) (log : List Event) (n : ℕ) (x : Store) (l : ℕ)
    → ((group : ℕ) → Linked groups cs 0 (placed_of groups group log))
    → groups < l → cell cs l ≡ (top groups (group_in groups x.question) log, true)
    → (group : ℕ) → (is : Bool) → (group_in groups x.question == group) ≡ is
    → Linked groups cs 0 (placed_of groups group (log ++ Placed n x l ∷ []))
placed-links groups cs log n x l links some link group true is =
    let e : Event = Placed n x l in
    let same = eqb-true (group_in groups x.question) group is in
    let L : List Event → Type 0 = λ w. Linked groups cs 0 w in
    let P : ℕ → Type 0 = λ g. cell cs l ≡ (top groups g log, true) in
    subst L (sym (placed-append groups group log (e ∷ [])
    ∙ ap (λ w. placed_of groups group log ++ w) (placed-here groups group n x l [] same)))
    (linked-append groups cs 0 (placed_of groups group log) (e ∷ []) (links group) (some, subst P same link, tt))
placed-links groups cs log n x l links some link group false is =
    let e : Event = Placed n x l in
    let other = eqb-false (group_in groups x.question) group is in
    let L : List Event → Type 0 = λ w. Linked groups cs 0 w in
    subst L (sym (placed-append groups group log (e ∷ [])
    ∙ ap (λ w. placed_of groups group log ++ w) (placed-else groups group n x l [] other)))
    (linked-append groups cs 0 (placed_of groups group log) [] (links group) tt)

same-named : (n m : ℕ) (x y : Store) (l k : ℕ) (log : List Event) → Placed n x l ≡ Placed m y k → In (Named n x l) log
    → In (Named m y k) log
same-named n m x y l k log q i =
    let e : Named n x l ≡ Named m y k = cc (q) in
    let P : Event → Type 0 = λ w. In w log in
    subst P e i

kept-placed : (cs : List Cell) (log : List Event) (pen : Nib) (n : ℕ) (x : Store) → IsKept cs log
    → (pen.key < length cs) × ((cell cs pen.key).1 ≡ false) → In (Named n x pen.key) log → groups_in log < pen.key
    → pen.value ≡ top (groups_in log) (group_in (groups_in log) x.question) log → IsSound x
    → (IsFull (groups_in log) (history log) x.question → ⊥)
    → IsKept (set (set cs (group_in (groups_in log) x.question) (n, true)) pen.key (pen.value, true)) (log ++ Placed n x pen.key ∷ [])
kept-placed cs [] pen n x kept out named some value sound room = absurd named
kept-placed cs (first ∷ rest) pen n x kept out named some value sound room =
    let log : List Event = first ∷ rest in
    let s : ℕ = groups_in log in
    let l : ℕ = pen.key in
    let g : ℕ = group_in s x.question in
    let g_low : g < s = low-of cs log kept x in
    let cs1 : List Cell = set cs g (n, true) in
    let cs' : List Cell = set cs1 pen.key (pen.value, true) in
    let e : Event = Placed n x l in
    let out1 : (cell cs1 pen.key).1 ≡ false = out-apart cs g n pen.key out.1 (head-home cs log kept g g_low) in
    let one1 : cell cs1 s ≡ (0, true) = keep-else cs g n s (0, true) (λ q. absurd (omega arith)) kept.idle in
    let one : cell cs' s ≡ (0, true) = keep-else cs1 pen.key pen.value s (0, true)
    (apart cs1 pen.key s out1 (ap (λ (c : Cell). c.1) one1)) one1 in
    let in_time : pen.key < length cs1 = (let q = out.0 in omega (arith, length-set {A = Cell})) in
    let there : cell cs' pen.key ≡ (pen.value, true) = get_or-set_same cs1 pen.key (pen.value, true) (0, false) in_time in
    let stays = keeps-trans s cs cs1 cs' (keeps-low s cs g n (omega arith)) (keeps-out s cs1 pen.key pen.value out1) in
    let link : cell cs' l ≡ (top s g log, true) = there ∙ ap (λ (m : ℕ). (m, true)) value in
    let old : (m : ℕ) (y : Store) (k : ℕ) → In (Named m y k) (log ++ e ∷ []) → In (Named m y k) log =
    (λ m y k i. elim (in-cases (Named m y k) log (e ∷ []) i) [
      | inl j ↦ j
      | inr j ↦
          elim j [ inl q ↦ absurd (cc (q)) | inr z ↦ absurd z ]
    ]) in
    let low : x.seat < seats_in log = (kept.named n x l named).0 in record {
      seats = let same = seats-append log (e ∷ []) (omega arith) in let few = kept.seats in omega arith;
      groups = kept.groups;
      heads = λ group below. placed-head cs log n x pen.key pen.value kept out.1 group below _ refl;
      idle = one;
      linked = λ group.
          placed-links s cs' log n x l (λ h. linked-map s cs cs' 0 (placed_of s h log) stays (kept.linked h)) some link group _ refl;
      twins = λ m y k i. elim (in-cases (Placed m y k) log (e ∷ []) i) [
        | inl j ↦ in-left (Named m y k) log (e ∷ []) (kept.twins m y k j)
        | inr j ↦ elim j [ inl q ↦ in-left (Named m y k) log (e ∷ []) (same-named n m x y l k log q named) | inr z ↦ absurd z ]
      ];
      named = λ m y k i. let it = kept.named m y k (old m y k i) in (seat-append y.seat log (e ∷ []) it.0, it.1);
      unique = λ m y z k j a b. kept.unique m y z k j (old m y k a) (old m z j b);
      once = once-placed log n x l (unplaced-of n log (not-placed cs log n x l kept named out.1)) kept.once;
      history = let H : List Store → Type 0 = λ h. IsHistory s h in subst H (sym (history-append log (e ∷ [])))
          (history-more s (history log) x sound room kept.history);
    }

module _ (v seen : List Event) (pen : Nib) (n : ℕ) (x : Store) (old : ℕ) (right : pen.right ≡ may_write)
    (named : In (Named n x pen.key) v) (value : pen.value ≡ old) (later : IsPrefix seen v) (sound : IsSound x)
    (low : x.seat < 64) where
  -- where the head is as it was then, nothing was placed for the group since
  same-since : (cs : List Cell) (log : List Event) → IsKept cs log → IsPrefix v log
      → top (groups_in log) (group_in (groups_in log) x.question) seen ≡ old
      → (cell cs (group_in (groups_in log) x.question)).0 ≡ old
      → in_group (groups_in log) (group_in (groups_in log) x.question) (history log)
      ≡ in_group (groups_in log) (group_in (groups_in log) x.question) (history seen)
  same-since cs log kept pre last found =
      let s : ℕ = groups_in log in
      let g : ℕ = group_in s x.question in
      let more : List Event = later.0 ++ pre.0 in
      let whole : seen ++ more ≡ log = sym (append_assoc seen later.0 pre.0) ∙ (ap (λ w. w ++ pre.0) later.1 ∙ pre.1) in
      let none = same-top s g seen more log whole kept.once (some-name cs log kept)
      (sym (ap (λ (c : Cell). c.0) (kept.heads g (low-of cs log kept x))) ∙ (found ∙ sym last)) in
      ap (λ w. in_group s g (history w)) (sym whole)
      ∙ (ap (in_group s g) (history-append seen more)
      ∙ (filter-append (λ it. group_in s it.question == g) (history seen) (history more)
      ∙ (ap (λ k. in_group s g (history seen) ++ k) none ∙ append-nil (in_group s g (history seen)))))

  try_goes : (cs : List Cell) (log : List Event) → IsKept cs log → (pre : IsPrefix v log) → Away pen cs → groups_in log < pen.key
      → top (groups_in log) (group_in (groups_in log) x.question) seen ≡ old
      → (IsFull (groups_in log) (history seen) x.question → ⊥) → (b : Bool)
      → ((cell cs (group_in (groups_in log) x.question)).0 == old) ≡ b
      → Goes IsKept shown (Counts (Placed n x 0)) (group_in (groups_in log) x.question) (v, (pen, None)) (λ m. either (m == old) n m)
      (Tries (step (group_in (groups_in log) x.question) old n (Placed n x 0)) (v, (pen, None))) cs log
  try_goes cs log kept pre away some last room true b =
      let s : ℕ = groups_in log in
      let g : ℕ = group_in s x.question in
      let found : (cell cs g).0 ≡ old = grind (arith, nat_tests) in
      let same = same-since cs log kept pre last found in
      let tops : pen.value ≡ top s g log = value ∙ (sym found ∙ ap (λ (c : Cell). c.0) (kept.heads g (low-of cs log kept x))) in
      let N : List Event → Type 0 = λ w. In (Named n x pen.key) w in
      let G : List Store → Type 0 = λ k. group_limit ≤ length k → ⊥ in
      let e : Event = Placed n x pen.key in
      let r : Counted = more_answer (count x.seat log) in (
        gives,
        e ∷ [],
        Some r,
        right,
        rw b (kept-placed cs log pen n x kept (away right) (subst N pre.1 (in-left (Named n x pen.key) v pre.0 named)) some tops sound
            (subst G (sym same) room)),
        inr (r, refl, refl, counts_add (Placed n x 0) e log refl low),
        (r, refl, rw b (refl, (pre.0, ap (λ w. w ++ e ∷ []) (sym pre.1), ap (count x.seat) (sym pre.1)))),
      )
  try_goes cs log kept pre away some last room false b =
      let s : ℕ = groups_in log in
      let g : ℕ = group_in s x.question in
      let T : List Event → Type 0 = λ w. (cell cs g).0 ≡ top (groups_in w) g w in
      let r : Counted = kept_answer (count x.seat log) in (
        keeps,
        [],
        Some r,
        tt,
        rw b (kept-same cs log g (cell cs g).0 (head-home cs log kept g (low-of cs log kept x)) refl kept),
        inr (r, refl, refl, counts_keep (Placed n x 0) log low),
        (
          r,
          refl,
          rw b (
            subst T (sym (append-nil log)) (ap (λ (c : Cell). c.0) (kept.heads g (low-of cs log kept x))),
            refl,
            (ap (count x.seat) (sym (append-nil log)), refl),
          ),
        ),
      )

  pub try_moves : groups_in v < pen.key → top (groups_in v) (group_in (groups_in v) x.question) seen ≡ old
      → (IsFull (groups_in v) (history seen) x.question → ⊥)
      → Moves IsKept shown (Counts (Placed n x 0)) (group_in (groups_in v) x.question) (v, (pen, None)) (λ m. either (m == old) n m)
      (Tries (step (group_in (groups_in v) x.question) old n (Placed n x 0)) (v, (pen, None)))
  try_moves some last room cs log kept pre away =
      let on : groups_in log ≡ groups_in v = groups-prefix v log pre (begun-in (Named n x pen.key) v named) in
      let K : ℕ → Type 0 = λ s. (s < pen.key) × (top s (group_in s x.question) seen ≡ old)
      × (IsFull s (history seen) x.question → ⊥) in
      let G : ℕ → Type 0 = λ s. (group_in s x.question < length cs) × ((cell cs (group_in s x.question)).1 ≡ true)
      × Goes IsKept shown (Counts (Placed n x 0)) (group_in s x.question) (v, (pen, None)) (λ m. either (m == old) n m)
      (Tries (step (group_in s x.question) old n (Placed n x 0)) (v, (pen, None))) cs log in
      let knows = subst K (sym on) (some, last, room) in
      let g : ℕ = group_in (groups_in log) x.question in
      let home = head-home cs log kept g (low-of cs log kept x) in
      subst G on (home-in cs g home, home, try_goes cs log kept pre away knows.0 knows.1 knows.2 ((cell cs g).0 == old) refl)
