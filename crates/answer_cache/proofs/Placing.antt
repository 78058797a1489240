-- A node is placed, or it is ready for another try.
use Rattle.std.proofs.Common.{◌≡◌, ◌+◌, ◌<◌, ◌≤◌, inr, ℕ, Bool, true, false, List, ◌++◌, length, MatchBool, MatchResult, IfErr, Ok, Err, ap, sym, ◌∙◌}
use Rattle.std.proofs.Common.{subst, arith, append_assoc, length-append}
use mathlib.Core.List.{IsPrefix}
use Rattle.std.specs.declared.result.Result.{Result}
use Rattle.logbook.specs.Pages.{Book, Nib, may_write}
use Rattle.answer_log.specs.Handles.{EndsWith, SeesMore, spent_of}
use Rattle.answer_log.specs.Groups.{group_in}
use Rattle.answer_log.specs.Logs.{history, top}
use Rattle.answer_log.specs.Spending.{Spending}
use Rattle.answer_log.specs.Steps.{store_by}
use Rattle.dns_answers.specs.Values.{AnswerValue}
use Rattle.answer_log.specs.declared.event.Event.{Event}
use Rattle.answer_log.specs.declared.handle.Handle.{Handle}
use Rattle.answer_log.specs.declared.store.Store.{Store}
use Rattle.dns_message.specs.declared.question.Question.{Question}
use Rattle.answer_cache.specs.Nodes.{IsReady, Says, WhyLost, WhyNotPut, store_in}
use Rattle.answer_cache.specs.Seats.{Offer}
use Rattle.answer_cache.specs.Shared.{Leaves, view_of}
use Rattle.answer_cache.specs.declared.refusal.StoreRefusal.{StoreRefusal}
use Rattle.answer_cache.specs.declared.refusal.StoreRefusal.TheVariants.{Lifeless, GenerationFull, Contended, Memory}
use Rattle.answer_cache.specs.declared.node.Node.{Node}

pub prefix-trans : {X : Type 0} (xs ys zs : List X) → IsPrefix xs ys → IsPrefix ys zs → IsPrefix xs zs
prefix-trans xs ys zs p q = (p.0 ++ q.0, sym (append_assoc xs p.0 q.0) ∙ (ap (λ l. l ++ q.0) p.1 ∙ q.1))

pub sees-trans : (seat : ℕ) (old mid new : List Event) → SeesMore seat old mid → SeesMore seat mid new → SeesMore seat old new
sees-trans seat old mid new one two = record {
  later = prefix-trans old mid new one.later two.later;
  stores = prefix-trans (history old) (history mid) (history new) one.stores two.stores;
  own = two.own ∙ one.own;
  names = λ book node store word it. two.names book node store word (one.names book node store word it);
}

-- a store that comes after more was seen
pub ends-on : (store : Store) (old mid new : List Event) → SeesMore store.seat old mid → EndsWith store (history mid) (history new)
    → EndsWith store (history old) (history new)
ends-on store old mid new one two = record {
  front = two.front;
  last = two.last;
  later = prefix-trans (history old) (history mid) two.front one.stores two.later;
  own = two.own ∙ one.own;
}

pub ready-on : (groups : ℕ) (book : Book) (old new : List Event) (seat : ℕ) (node : Node) (nib : Nib) → SeesMore seat old new
    → IsReady groups book old seat node nib → IsReady groups book new seat node nib
ready-on groups book old new seat node nib sees it = record {
  named = sees.names book node.node (store_in seat node) node.link it.named;
  right = it.right;
  its = it.its;
  above = it.above;
}

-- after a lost try the node is ready for another one
pub again : (groups : ℕ) (book its : Book) (old new : List Event) (seat : ℕ) (node : Node) (before after : Nib) (won : Bool) (X : Type 0)
    → IsReady groups book old seat node before
    → MatchBool won X (SeesMore seat old new)
    → MatchBool won (Unit {0}) ((its ≡ book) × (after.right ≡ may_write) × (after.key ≡ node.link.key))
    → MatchBool won (Unit {0}) ((its ≡ book) × IsReady groups book new seat node after)
again groups book its old new seat node before after true X it sees pen = tt
again groups book its old new seat node before after false X it sees pen = (
  pen.0,
  record {
    named = sees.names book node.node (store_in seat node) node.link it.named;
    right = pen.1;
    its = pen.2;
    above = it.above;
  },
)

-- what a list is longer by
pub longer : (xs ys : List Store) (n : ℕ) (zs : List Store) → IsPrefix xs ys → length ys + n ≤ length zs → length xs + n ≤ length zs
longer xs ys n zs p more = let sum = ap length (sym p.1) ∙ length-append xs p.0 in omega arith

pub store-is : (seat its : ℕ) (node : Node) (question : Question) (answer : AnswerValue) (moment : ℕ) → seat ≡ its
    → Says node question answer moment
    → store_in seat node ≡ store_by its question answer moment
store-is seat its node question answer moment same says = λ i. store_by (same i) (says.0 i) (says.1 i) (says.2 i)

-- what came of the tries, after more was seen
pub put-on : {A E : Type 0} (result : Result A E) (seat its : ℕ) (placed store : Store) (old mid new : List Event) → its ≡ seat
    → placed ≡ store → store.seat ≡ seat → SeesMore seat old mid
    → MatchResult result (λ _. EndsWith placed (history mid) (history new)) (λ _. SeesMore its mid new)
    → MatchResult result (λ _. EndsWith store (history old) (history new)) (λ _. SeesMore seat old new)
put-on (Ok a) seat its placed store old mid new number is mine' sees it =
    let E : Store → Type 0 = λ s. EndsWith s (history mid) (history new) in
    let S : ℕ → Type 0 = λ n. SeesMore n old mid in
    ends-on store old mid new (subst S (sym mine') sees) (subst E is it)
put-on (Err e) seat its placed store old mid new number is mine' sees it =
    let S : ℕ → Type 0 = λ n. SeesMore n mid new in sees-trans seat old mid new sees (subst S number it)

why-on : (groups : ℕ) (question : Question) (old mid new : List Store) (before after : Spending) (refusal : StoreRefusal) → IsPrefix old mid
    → WhyLost groups question mid new before after refusal → WhyNotPut groups question old new refusal
why-on groups question old mid new before after Lifeless p why = why
why-on groups question old mid new before after GenerationFull p why = why
why-on groups question old mid new before after Contended p why = longer old mid 16 new p why
why-on groups question old mid new before after Memory p why = tt

-- why the tries were lost, after more was seen
pub lost-on : {A : Type 0} (groups : ℕ) (result : Result A StoreRefusal) (its question : Question) (old mid now new : List Event) (was : ℕ)
    (begun spent : Spending)
    → its ≡ question → IsPrefix (history old) (history mid) → IsPrefix mid now → was ≡ top groups (group_in groups question) mid
    → IfErr result (λ refusal. (seen : List Event) → IsPrefix seen now → top groups (group_in groups its) seen ≡ was
    → WhyLost groups its (history seen) (history new) begun spent refusal)
    → IfErr result (WhyNotPut groups question (history old) (history new))
lost-on groups (Ok a) its question old mid now new was begun spent same before later last why = tt
lost-on groups (Err refusal) its question old mid now new was begun spent same before later last why =
    let W : Question → Type 0 = λ q. top groups (group_in groups q) mid ≡ was
    → WhyLost groups q (history mid) (history new) begun spent refusal in
    why-on groups question (history old) (history mid) (history new) begun spent refusal before (subst W same (why mid later) (sym last))

-- what is left after the tries were lost
leaves-why : (groups : ℕ) (question its : Question) (h k new : Handle) (before : List Store) (refusal : StoreRefusal)
    → (spent_of h).tries ≤ (spent_of k).tries → (spent_of h).missed ≤ (spent_of k).missed → (spent_of k).tries < (spent_of new).tries
    → WhyLost groups its before (history new.book.log) (spent_of k) (spent_of new) refusal
    → (old more : List Offer) → Leaves question (view_of h old) (view_of new more) refusal
leaves-why groups question its h k new before Lifeless tries missed tried why old more = absurd why
leaves-why groups question its h k new before GenerationFull tries missed tried why old more =
    λ same. absurd (omega (arith, same, tries, tried))
leaves-why groups question its h k new before Contended tries missed tried why old more = omega (arith, tries, tried)
leaves-why groups question its h k new before Memory tries missed tried why old more = inr (omega (arith, missed, why))

pub leaves-on : {A : Type 0} (groups : ℕ) (result : Result A StoreRefusal) (its question : Question) (h k new : Handle)
    (mid : List Event) (was : ℕ)
    → (spent_of h).tries ≤ (spent_of k).tries → (spent_of h).missed ≤ (spent_of k).missed → (spent_of k).tries < (spent_of new).tries
    → its ≡ question → IsPrefix mid k.book.log → was ≡ top groups (group_in groups question) mid
    → IfErr result (λ refusal. (seen : List Event) → IsPrefix seen k.book.log → top groups (group_in groups its) seen ≡ was
    → WhyLost groups its (history seen) (history new.book.log) (spent_of k) (spent_of new) refusal)
    → IfErr result (λ refusal. (old more : List Offer) → Leaves question (view_of h old) (view_of new more) refusal)
leaves-on groups (Ok a) its question h k new mid was tries missed tried same later last why = tt
leaves-on groups (Err refusal) its question h k new mid was tries missed tried same later last why =
    let W : Question → Type 0 = λ q. top groups (group_in groups q) mid ≡ was
    → WhyLost groups q (history mid) (history new.book.log) (spent_of k) (spent_of new) refusal in
    leaves-why groups question question h k new (history mid) refusal tries missed tried (subst W same (why mid later) (sym last))
