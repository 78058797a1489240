-- What a seat has, as its log grows.
use Rattle.std.proofs.Common.{◌≡◌, ◌≢◌, ℕ, suc, ◌+◌, ◌<◌, ◌≤◌, ◌==◌, inl, inr, Bool, true, false, List, [], ◌∷◌, ◌++◌, length, refl, ap}
use Rattle.std.proofs.Common.{sym, ◌∙◌, subst, arith, append_assoc, length-append, MatchBool}
use Rattle.std.proofs.lemmas.Bool.{ne_eqb}
use Rattle.std.proofs.lemmas.List.{append-nil}
use Rattle.std.proofs.lemmas.List.Elements.{filter-append}
use mathlib.Core.List.{IsPrefix}
use Rattle.logbook.specs.Pages.{Nib, Book, Named as Word}
use Rattle.answer_log.specs.Counts.{count}
use Rattle.answer_log.specs.Handles.{EndsWith, IsHandle, IsNamed, SeesMore}
use Rattle.answer_log.specs.Groups.{group_in}
use Rattle.answer_log.specs.Histories.{mine}
use Rattle.answer_log.specs.Logs.{groups_in, seat_of, seats_in, history, placed_of, top, top_from, In}
use Rattle.answer_log.specs.Rules.{node_at}
use Rattle.answer_log.specs.Steps.{Adds, Fits, NamesBelow, Same, Stays}
use Rattle.answer_log.specs.declared.event.Event.{Event}
use Rattle.answer_log.specs.declared.event.Event.TheVariants.{Asks, Named, Opened, Placed}
use Rattle.answer_log.specs.declared.handle.Handle.{Handle}
use Rattle.answer_log.specs.declared.store.Store.{Store}
use Rattle.answer_log.specs.declared.tally.Tally.{Tally}
use Rattle.answer_log.proofs.Counting.{count-same, count-here}
use Rattle.answer_log.proofs.Chains.{last_placed, top-on}
use Rattle.answer_log.proofs.Logs.{Quiet, begun-seats, groups-prefix, history-append, seats-append, quiet-in, in-cases, in-left, prefix_trans}

-- a log that is quiet of a seat has no stores of it
own-quiet : (seat : ℕ) (events : List Event) → Quiet seat events → mine (history events) seat ≡ []
own-quiet seat [] quiet = refl
own-quiet seat (Opened t g ∷ rest) quiet = own-quiet seat rest quiet.1
own-quiet seat (Asks s t ∷ rest) quiet = own-quiet seat rest quiet.1
own-quiet seat (Named n x l ∷ rest) quiet = own-quiet seat rest quiet.1
own-quiet seat (Placed n x l ∷ rest) quiet = rw (ne_eqb x.seat seat quiet.0) (own-quiet seat rest quiet.1)

own-more : (seat : ℕ) (old more new : List Event) → old ++ more ≡ new → Quiet seat more → mine (history new) seat ≡ mine (history old) seat
own-more seat old more new whole quiet =
    ap (λ log. mine (history log) seat) (sym whole)
    ∙ (ap (λ stores. mine stores seat) (history-append old more)
    ∙ (filter-append (λ store. store.seat == seat) (history old) (history more)
    ∙ (ap (λ stores. mine (history old) seat ++ stores) (own-quiet seat more quiet) ∙ append-nil (mine (history old) seat))))

pub history-prefix : (old new : List Event) → IsPrefix old new → IsPrefix (history old) (history new)
history-prefix old new p = (history p.0, sym (history-append old p.0) ∙ ap history p.1)

-- what was named stays named
named-on : (old new : List Event) → IsPrefix old new → (book : Book) (node : ℕ) (store : Store) (word : Word)
    → IsNamed book old node store word → IsNamed book new node store word
named-on old new p book node store word it =
    let I : List Event → Type 0 = λ log. In (Named node store word.key) log in record {
      link = it.link;
      named = subst I p.1 (in-left (Named node store word.key) old p.0 it.named);
    }

names_on : (old more new : List Event) (seat place : ℕ) → old ++ more ≡ new → Quiet seat more → NamesBelow seat place old
    → NamesBelow seat place new
names_on old more new seat place whole quiet low n x l i same =
    let I : List Event → Type 0 = λ e. In (Named n x l) e in
    elim (in-cases (Named n x l) old more (subst I (sym whole) i)) [
      | inl j ↦ low n x l j same
      | inr j ↦ absurd (quiet-in seat more (Named n x l) quiet j same)
    ]

-- what a hand has not seen yet has its groups
pub groups_seen : (h : Handle) (new : List Event) → IsHandle h → IsPrefix h.book.log new → groups_in new ≡ h.groups
groups_seen h new handle p =
    let some : 0 < seats_in h.book.log = (let seats = handle.seats in let below = handle.below in omega arith) in
    groups-prefix h.book.log new p (begun-seats h.book.log some) ∙ handle.groups

-- a hand goes on with the seats that its log was opened for
seats_on : (h k : Handle) (more : List Event) → IsHandle h → k.seats ≡ h.seats → h.book.log ++ more ≡ k.book.log → seats_in k.book.log
    ≡ k.seats
seats_on h k more handle same grown =
    let some : 0 < seats_in h.book.log = (let seats = handle.seats in let below = handle.below in omega arith) in
    ap seats_in (sym grown) ∙ (seats-append h.book.log more some ∙ (handle.seats ∙ sym same))

-- and with the groups that it was opened with
groups_on : (h k : Handle) (more : List Event) → IsHandle h → k.groups ≡ h.groups → h.book.log ++ more ≡ k.book.log
    → groups_in k.book.log ≡ k.groups
groups_on h k more handle same grown =
    groups_seen h k.book.log handle (more, grown) ∙ sym same

count_on : (h k : Handle) → IsHandle h → k.groups ≡ h.groups → (64 ≤ k.groups) × (k.groups ≤ 65536)
count_on h k handle same =
    let least = handle.group_count.0 in
    let most = handle.group_count.1 in
    (omega arith, omega arith)

below_on : (h k : Handle) → IsHandle h → k.number ≡ h.number → k.seats ≡ h.seats → k.number < k.seats
below_on h k handle number seats = let below = handle.below in omega arith

-- a hand whose book has grown, with nothing of its seat
handle_quiet : (h : Handle) (more new : List Event) → IsHandle h → h.book.log ++ more ≡ new → count h.number new ≡ h.tally.count
    → Quiet h.number more
handle_quiet h more new handle grown same = count-same h.number h.book.log more new grown (same ∙ sym handle.counted)

fits_on : (h k : Handle) → IsHandle h → k.number ≡ h.number → k.book.names ≡ h.book.names → Stays h.tally k.tally
    → Fits k.tally k.book.names k.number
fits_on h k handle number names stays =
    let F : ℕ → Type 0 = λ n. n < 64 in (
      stays.0,
      ap (λ n. n ∷ []) stays.1 ∙ (handle.fits.1 ∙ sym names),
      stays.2 ∙ (handle.fits.2 ∙ sym number),
      subst F (sym number)
          handle.fits.3,
    )

pub hand_on : (h k : Handle) (more : List Event) → IsHandle h → k.number ≡ h.number → k.seats ≡ h.seats → k.groups ≡ h.groups
    → k.node_count ≡ h.node_count
    → k.book.names ≡ h.book.names → Same h.tally k.tally (count h.number k.book.log) → h.book.log ++ more ≡ k.book.log
    → IsHandle k
hand_on h k more handle number seats groups node_count names same grown =
    let N : ℕ → Type 0 = λ n. NamesBelow n k.node_count k.book.log in
    let M : ℕ → Type 0 = λ n. NamesBelow h.number n k.book.log in record {
      seats = seats_on h k more handle seats grown;
      groups = groups_on h k more handle groups grown;
      group_count = count_on h k handle groups;
      below = below_on h k handle number seats;
      fits = fits_on h k handle number names same.0;
      counted = ap (λ n. count n k.book.log) number ∙ (same.2 ∙ sym same.1);
      names = subst N (sym number)
          (subst M (sym node_count)
          (names_on h.book.log more k.book.log h.number h.node_count grown (handle_quiet h more k.book.log handle grown same.2)
          handle.names));
    }

pub handle_sees : (h : Handle) (new : List Event) → IsHandle h → IsPrefix h.book.log new → count h.number new ≡ h.tally.count
    → SeesMore h.number h.book.log new
handle_sees h new handle p same = record {
  later = p;
  stores = history-prefix h.book.log new p;
  names = named-on h.book.log new p;
  own =
      own-more h.number h.book.log p.0 new p.1 (handle_quiet h p.0 new handle p.1 same);
}

-- till the event nothing of the seat had come
adds_quiet : (h : Handle) (e : Event) (new : List Event) → IsHandle h → (a : Adds e h.tally h.book.log new) → seat_of e ≡ h.number
    → Quiet h.number a.0
adds_quiet h e new handle a seat = handle_quiet h a.0 (h.book.log ++ a.0) handle refl
    (ap (λ n. count n (h.book.log ++ a.0)) (sym seat) ∙ a.2)

names_new : (log : List Event) (e : Event) (seat place : ℕ) → NamesBelow seat place log
    → ((n : ℕ) (x : Store) (l : ℕ) → e ≡ Named n x l → n < node_at seat place) → NamesBelow seat place (log ++ e ∷ [])
names_new log e seat place low new n x l i same =
    elim (in-cases (Named n x l) log (e ∷ []) i) [
      | inl j ↦ low n x l j same
      | inr j ↦ elim j [ inl q ↦ new n x l q | inr z ↦ absurd z ]
    ]

pub names_more : (seat p q : ℕ) (log : List Event) → p ≤ q → NamesBelow seat p log → NamesBelow seat q log
names_more seat p q log le low n x l i same = let h = low n x l i same in omega arith

-- a hand after an event of its seat
pub handle_adds : (h k : Handle) (e : Event) → IsHandle h → Adds e h.tally h.book.log k.book.log → k.number ≡ h.number → k.seats ≡ h.seats
    → k.groups ≡ h.groups → h.node_count ≤ k.node_count → k.book.names ≡ h.book.names → Stays h.tally k.tally
    → k.tally.count ≡ h.tally.count + 1 → seat_of e ≡ h.number
    → ((n : ℕ) (x : Store) (l : ℕ) → e ≡ Named n x l → n < node_at h.number k.node_count)
    → IsHandle k
handle_adds h k e handle a number seats groups node_count names stays more seat new =
    let quiet = adds_quiet h e k.book.log handle a seat in
    let whole : h.book.log ++ (a.0 ++ e ∷ []) ≡ k.book.log = sym (append_assoc h.book.log a.0 (e ∷ [])) ∙ sym a.1 in
    let N : ℕ → Type 0 = λ n. NamesBelow n k.node_count k.book.log in
    let L : List Event → Type 0 = λ l. NamesBelow h.number k.node_count l in
    let low = names_on h.book.log a.0 (h.book.log ++ a.0) h.number k.node_count refl quiet
    (names_more h.number h.node_count k.node_count h.book.log node_count handle.names) in
    let was : count h.number (h.book.log ++ a.0) ≡ h.tally.count = ap (λ n. count n (h.book.log ++ a.0)) (sym seat) ∙ a.2 in
    let one : count h.number k.book.log ≡ suc (count h.number (h.book.log ++ a.0)) =
    ap (count h.number) a.1 ∙ count-here h.number (h.book.log ++ a.0) e seat in
    let all : count h.number k.book.log ≡ k.tally.count = omega (arith, one, was, more) in record {
      seats = seats_on h k (a.0 ++ e ∷ []) handle seats whole;
      groups = groups_on h k (a.0 ++ e ∷ []) handle groups whole;
      group_count = count_on h k handle groups;
      below = below_on h k handle number seats;
      fits = fits_on h k handle number names stays;
      counted = ap (λ n. count n k.book.log) number ∙ all;
      names = subst N (sym number) (subst L (sym a.1) (names_new (h.book.log ++ a.0) e h.number k.node_count low new));
    }

-- what a named event leaves of the stores
pub named_sees : (h : Handle) (new : List Event) (n : ℕ) (x : Store) (l : ℕ) → IsHandle h → x.seat ≡ h.number
    → Adds (Named n x l) h.tally h.book.log new → SeesMore h.number h.book.log new
named_sees h new n x l handle same a =
    let old : List Event = h.book.log in
    let quiet = adds_quiet h (Named n x l) new handle a same in
    let whole : old ++ (a.0 ++ Named n x l ∷ []) ≡ new = sym (append_assoc old a.0 (Named n x l ∷ [])) ∙ sym a.1 in record {
      later = (a.0 ++ Named n x l ∷ [], whole);
      stores = history-prefix old new (a.0 ++ Named n x l ∷ [], whole);
      names = named-on old new (a.0 ++ Named n x l ∷ [], whole);
      own = ap (λ log. mine (history log) h.number) a.1
          ∙ (ap (λ stores. mine stores h.number) (history-append (old ++ a.0) (Named n x l ∷ []) ∙ append-nil (history (old ++ a.0)))
          ∙ own-more h.number old a.0 (old ++ a.0) refl quiet);
    }

-- what a placed event leaves of the stores
placed_sees : (h : Handle) (new : List Event) (n : ℕ) (x : Store) (l : ℕ) → IsHandle h → x.seat ≡ h.number
    → Adds (Placed n x l) h.tally h.book.log new → EndsWith x (history h.book.log) (history new)
placed_sees h new n x l handle same a =
    let old : List Event = h.book.log in
    let quiet = adds_quiet h (Placed n x l) new handle a same in
    let O : ℕ → Type 0 = λ seat. mine (history (old ++ a.0)) seat ≡ mine (history old) seat in record {
      front = history (old ++ a.0);
      last = ap history a.1 ∙ history-append (old ++ a.0) (Placed n x l ∷ []);
      later = history-prefix old (old ++ a.0) (a.0, refl);
      own = subst O (sym same) (own-more h.number old a.0 (old ++ a.0) refl quiet);
    }

-- where the node of a group placed last has changed, the history has grown
grows : (groups group : ℕ) (old new : List Event) → IsPrefix old new → top groups group old ≢ top groups group new
    → length (history old) < length (history new)
grows groups group old new p ne =
    let L : List Event → Type 0 = λ l. length (history old) < length (history l) in
    subst L p.1 (elim (last_placed groups group (top groups group old) p.0) [
      | inl h ↦ absurd (ne (sym h.0 ∙ (sym (top-on groups group 0 old p.0) ∙ ap (top groups group) p.1)))
      | inr h ↦
          (let node : ℕ = top_from (top groups group old) (placed_of groups group p.0) in
          let more : history p.0 ≡ history h.before ++ h.store ∷ history h.after =
          ap history h.split ∙ history-append h.before (Placed node h.store h.link ∷ h.after) in
          let n : length (history p.0) ≡ length (history h.before) + length (h.store ∷ history h.after) =
          ap length more ∙ length-append (history h.before) (h.store ∷ history h.after) in
          let m : length (history (old ++ p.0)) ≡ length (history old) + length (history p.0) =
          ap length (history-append old p.0) ∙ length-append (history old) (history p.0) in
          omega arith)
    ])

pub named_low : (seat place m : ℕ) (y : Store) (k : ℕ) → m ≡ node_at seat place → (n : ℕ) (x : Store) (l : ℕ) → Named m y k ≡ Named n x l
    → n < node_at seat (place + 1)
named_low seat place m y k is n x l q = let e : m ≡ n = cc (q) in omega arith

placed_low : (seat place m : ℕ) (y : Store) (k : ℕ) (n : ℕ) (x : Store) (l : ℕ) → Placed m y k ≡ Named n x l → n < node_at seat place
placed_low seat place m y k n x l q = absurd (cc (q))

-- what a try says
abbrev pub Tried : Bool → Handle → List Event → Tally → ℕ → Store → ℕ → ℕ → Nib → Nib → Type 0
Tried won h new tally n x l old before after =
    MatchBool won (Adds (Placed n x l) h.tally h.book.log new × (tally.count ≡ h.tally.count + 1))
    ((old ≢ top (groups_in new) (group_in (groups_in new) x.question) new) × (after ≡ before) × Same h.tally tally (count x.seat new))

module _ (h : Handle) (n : ℕ) (x : Store) (l old : ℕ) (before after : Nib) (handle : IsHandle h) (seat : x.seat ≡ h.number) where
  pub tried_handle : (k : Handle) → k.number ≡ h.number → k.seats ≡ h.seats → k.groups ≡ h.groups → k.node_count ≡ h.node_count
      → k.book.names ≡ h.book.names
      → Stays h.tally k.tally → IsPrefix h.book.log k.book.log
      → (won : Bool) → Tried won h k.book.log k.tally n x l old before after → IsHandle k
  tried_handle k number seats groups node_count names stays pre true m =
      handle_adds h k (Placed n x l) handle m.0 number seats groups (omega (arith, node_count)) names stays m.1 seat
      (placed_low h.number k.node_count n x l)
  tried_handle k number seats groups node_count names stays pre false m =
      hand_on h k pre.0 handle number seats groups node_count names (m.2.0, m.2.1, ap (λ s. count s k.book.log) (sym seat) ∙ m.2.2) pre.1

  pub tried_sees : (new : List Event) (tally : Tally) → IsPrefix h.book.log new → (won : Bool)
      → Tried won h new tally n x l old before after
      → MatchBool won (EndsWith x (history h.book.log) (history new)) (SeesMore h.number h.book.log new)
  tried_sees new tally pre true m = placed_sees h new n x l handle seat m.0
  tried_sees new tally pre false m = handle_sees h new handle pre (ap (λ s. count s new) (sym seat) ∙ m.2.2)

  pub tried_lost : (new : List Event) (tally : Tally) → IsPrefix h.book.log new → (won : Bool)
      → Tried won h new tally n x l old before after
      → MatchBool won (Unit {0}) ((seen : List Event) → IsPrefix seen h.book.log
      → top h.groups (group_in h.groups x.question) seen ≡ old
      → length (history seen) < length (history new))
  tried_lost new tally pre true m = tt
  tried_lost new tally pre false m = λ seen later last.
      let on = groups_seen h new handle pre in
      let G : ℕ → Type 0 = λ groups. old ≢ top groups (group_in groups x.question) new in
      let group : ℕ = group_in h.groups x.question in
      let T : ℕ → Type 0 = λ node. node ≢ top h.groups group new in
      grows h.groups group seen new (prefix_trans seen h.book.log new later pre) (subst T (sym last) (subst G on m.0))
