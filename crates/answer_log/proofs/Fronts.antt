-- What holds of the front of a log that keeps the rule.
use Rattle.std.proofs.Common.{◌≡◌, ◌==◌, ◌<◌, ℕ, inl, inr, List, [], ◌∷◌, ◌++◌, length, refl, ap, sym, ◌∙◌, subst, arith, rules}
use Rattle.std.proofs.lemmas.List.{length-append}
use Rattle.std.proofs.Math.Seq.{take-append_seam}
use Rattle.std.proofs.lemmas.List.Elements.{filter-append, All-cons, All-nil, All-take}
use Rattle.std.specs.List.{All}
use Rattle.logbook.specs.Pages.{Cell}
use mathlib.Core.List.{IsPrefix}
use Rattle.answer_log.specs.Handles.{IsLog}
use Rattle.answer_log.specs.Groups.{group_in}
use Rattle.answer_log.specs.Histories.{IsHistory, IsSound, in_group}
use Rattle.answer_log.specs.Logs.{groups_in, history, seats_in, In}
use Rattle.answer_log.specs.Rules.{IsKept}
use Rattle.answer_log.specs.declared.event.Event.{Event}
use Rattle.answer_log.specs.declared.event.Event.TheVariants.{Asks, Named, Opened, Placed}
use Rattle.answer_log.specs.declared.store.Store.{Store}
use Rattle.answer_log.proofs.Chains.{one-top}
use Rattle.answer_log.proofs.Logs.{groups-prefix, history-append, in-here, in-left, prefix_trans}
use Rattle.answer_log.proofs.Moving.{some-name}

front-history : (groups : ℕ) (stores more : List Store) → IsHistory groups (stores ++ more) → IsHistory groups stores
front-history groups stores more it = record {
  sound = rw (← take-append_seam stores more) (All-take IsSound (length stores) (stores ++ more) it.sound);
  few = λ group.
      let few = it.few group in
      let split = filter-append (λ store. group_in groups store.question == group) stores more in
      let sizes = ap length split ∙ length-append (in_group groups group stores) (in_group groups group more) in
      omega arith;
}

-- what holds of each store that was placed
all-placed : (P : Store → Type 0) (log : List Event) → ((node : ℕ) (store : Store) (link : ℕ) → In (Placed node store link) log → P store)
    → All P (history log)
all-placed P [] each = All-nil P
all-placed P (Opened seats groups ∷ log) each = all-placed P log (λ node store link i. each node store link (inr i))
all-placed P (Asks seat count ∷ log) each = all-placed P log (λ node store link i. each node store link (inr i))
all-placed P (Named node store link ∷ log) each = all-placed P log (λ n x l i. each n x l (inr i))
all-placed P (Placed node store link ∷ log) each =
    All-cons P store (history log) (each node store link (inl refl)) (all-placed P log (λ n x l i. each n x l (inr i)))

-- a log in which something stands goes on with the seats that it was opened for
seats-front : (e : Event) (log more : List Event) → In e log → seats_in (log ++ more) ≡ seats_in log
seats-front e [] more i = absurd i
seats-front e (first ∷ log) more i = refl

-- the front of a log is a history, by the groups that it was opened with
history-front : (log whole : List Event) → IsPrefix log whole → IsHistory (groups_in whole) (history log)
    → IsHistory (groups_in log) (history log)
history-front [] whole pre it = record { sound = All-nil IsSound; few = λ group. search rules }
history-front (first ∷ log) whole pre it =
    let H : ℕ → Type 0 = λ groups. IsHistory groups (history (first ∷ log)) in
    subst H (groups-prefix (first ∷ log) whole pre tt) it

pub front-log : (cells : List Cell) (log whole : List Event) → IsPrefix log whole → IsKept cells whole → IsLog log
front-log cells log whole pre kept =
    let H : List Store → Type 0 = λ stores. IsHistory (groups_in whole) stores in
    let stores = front-history (groups_in whole) (history log) (history pre.0)
    (subst H (ap history (sym pre.1) ∙ history-append log pre.0) kept.history) in record {
      seats = all-placed (λ store. store.seat < seats_in log) log (λ node store link i.
          let E : List Event → Type 0 = λ events. In (Placed node store link) events in
          let there = subst E pre.1 (in-left (Placed node store link) log pre.0 i) in
          let low = (kept.named node store link (kept.twins node store link there)).0 in
          let same = ap seats_in (sym pre.1) ∙ seats-front (Placed node store link) log pre.0 i in
          omega arith);
      nodes = λ before after node store link split.
          let E : List Event → Type 0 = λ events. In (Placed node store link) events in
          let there : In (Placed node store link) log = subst E (sym split) (in-here (Placed node store link) before after) in
          some-name cells whole kept node store link (subst E pre.1 (in-left (Placed node store link) log pre.0 there));
      tops = λ front other group group' one two same.
          one-top (groups_in log) whole front (one.0 ++ pre.0) other (two.0 ++ pre.0) group group' (prefix_trans front log whole one pre).1
          (prefix_trans other log whole two pre).1 kept.once (some-name cells whole kept) same;
      history = history-front log whole pre stores;
    }
