-- A walk along the placed nodes.
use Rattle.std.proofs.Common.{◌≡◌, ◌≢◌, ℕ, inl, inr, List, [], ◌∷◌, ◌++◌, ap, sym, ◌∙◌, subst, append_assoc}
use mathlib.Core.List.{IsPrefix}
use Rattle.answer_log.specs.Handles.{IsLog}
use Rattle.answer_log.specs.Groups.{group_in}
use Rattle.answer_log.specs.Histories.{in_group}
use Rattle.answer_log.specs.Logs.{groups_in, history, In, top}
use Rattle.answer_log.specs.Cursors.{Ahead}
use Rattle.answer_log.specs.declared.event.Event.{Event}
use Rattle.answer_log.specs.declared.event.Event.TheVariants.{Placed}
use Rattle.answer_log.specs.declared.store.Store.{Store}
use Rattle.answer_log.specs.declared.cursor.Cursor.{Cursor}
use Rattle.answer_log.proofs.Chains.{last_placed, stores-last}
use Rattle.answer_log.proofs.Logs.{begun-in, groups-prefix, in-here}

-- where no node is next, nothing is ahead
pub at-end : (cursor : Cursor) (left : List Store) → IsLog cursor.seen.log → cursor.next ≡ 0 → Ahead cursor left → left ≡ []
at-end cursor left log none it = elim (last_placed (groups_in cursor.seen.log) it.group 0 it.front) [
  | inl h ↦ it.stores ∙ h.1
  | inr h ↦
      (let whole = it.split
      ∙ (ap (λ events. events ++ it.back) h.split
      ∙ append_assoc h.before (Placed (top (groups_in cursor.seen.log) it.group it.front) h.store h.link ∷ h.after) it.back) in
      absurd (log.nodes h.before (h.after ++ it.back)
      (top (groups_in cursor.seen.log) it.group it.front) h.store h.link whole (sym it.at ∙ none)))
]

-- the node that is next, as it was placed
pub record Next (cursor : Cursor) (left : List Store) : Type 0 where
  pub group : ℕ
  pub before : List Event
  pub after : List Event
  pub store : Store
  pub link : ℕ
  pub whole : cursor.seen.log ≡ before ++ Placed cursor.next store link ∷ after
  pub its : group_in (groups_in cursor.seen.log) store.question ≡ group
  pub stores : left ≡ in_group (groups_in cursor.seen.log) group (history before) ++ store ∷ []

pub is-next : (cursor : Cursor) (left : List Store) → cursor.next ≢ 0 → Ahead cursor left → Next cursor left
is-next cursor left some it = elim (last_placed (groups_in cursor.seen.log) it.group 0 it.front) [
  | inl h ↦ absurd (some (it.at ∙ h.0))
  | inr h ↦
      (let W : ℕ → Type 0 = λ node. cursor.seen.log ≡ h.before ++ Placed node h.store h.link ∷ (h.after ++ it.back) in record {
        group = it.group;
        before = h.before;
        after = h.after ++ it.back;
        store = h.store;
        link = h.link;
        whole = subst W (sym it.at) (it.split
            ∙ (ap (λ events. events ++ it.back) h.split
            ∙ append_assoc h.before (Placed (top (groups_in cursor.seen.log) it.group it.front) h.store h.link ∷ h.after) it.back));
        its = h.its;
        stores = it.stores ∙ stores-last (groups_in cursor.seen.log) it.group it.front h.before h.after
            (top (groups_in cursor.seen.log) it.group it.front) h.store h.link h.split h.its h.none;
      })
]

-- the walk has passed it
pub passed : (cursor new : Cursor) (left : List Store) (store : Store) → (it : Next cursor left) → it.store ≡ store
    → IsPrefix cursor.seen.log new.seen.log
    → new.next ≡ top (groups_in cursor.seen.log) (group_in (groups_in cursor.seen.log) it.store.question) it.before
    → (rest : List Store) × (left ≡ rest ++ store ∷ []) × Ahead new rest
passed cursor new left store it same later at =
    let groups : ℕ = groups_in cursor.seen.log in
    let L : Store → Type 0 = λ s. left ≡ in_group groups it.group (history it.before) ++ s ∷ [] in
    let P : List Event → Type 0 = λ events. In (Placed cursor.next it.store it.link) events in
    let here : In (Placed cursor.next it.store it.link) cursor.seen.log = subst P (sym it.whole)
    (in-here (Placed cursor.next it.store it.link) it.before it.after) in
    let on : groups_in new.seen.log ≡ groups = groups-prefix cursor.seen.log new.seen.log later
    (begun-in (Placed cursor.next it.store it.link) cursor.seen.log here) in (
      in_group groups it.group (history it.before),
      subst L same it.stores,
      record {
        group = it.group;
        front = it.before;
        back = Placed cursor.next it.store it.link ∷ (it.after ++ later.0);
        split = sym later.1 ∙ (ap (λ events. events ++ later.0) it.whole
            ∙ append_assoc it.before (Placed cursor.next it.store it.link ∷ it.after) later.0);
        at = at ∙ (ap (λ group. top groups group it.before) it.its ∙ ap (λ so. top so it.group it.before) (sym on));
        stores = ap (λ so. in_group so it.group (history it.before)) (sym on);
      },
    )
