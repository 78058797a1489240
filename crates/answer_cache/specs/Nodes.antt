-- What holds of the nodes of a shared cache, and of a cursor along them.
use Rattle.std.specs.Prelude.{◌≡◌, ℕ, ◌+◌, ◌<◌, ◌≤◌, List, [], ◌∷◌, ◌++◌, length, Option, Some}
use Rattle.std.specs.Prelude.{None}
use Rattle.std.specs.Arc.{arc_value}
use Rattle.std.specs.List.{last_or}
use Rattle.dns_answers.specs.Values.{AnswerValue}
use Rattle.answer_log.specs.declared.event.Event.{Event}
use Rattle.logbook.specs.Pages.{Book, Nib, may_write}
use Rattle.dns_message.specs.declared.question.Question.{Question}
use Rattle.answer_log.specs.Groups.{hash_of, hashed_of}
use Rattle.answer_log.specs.Handles.{IsHandle, IsNamed, IsPlaced}
use Rattle.answer_log.specs.Histories.{IsFull, stores_of}
use Rattle.answer_log.specs.Spending.{Spending}
use Rattle.answer_log.specs.Steps.{store_by}
use Rattle.answer_log.specs.Cursors.{Ahead}
use Rattle.answer_log.specs.declared.handle.Handle.{Handle}
use Rattle.answer_log.specs.declared.store.Store.{Store}
use Rattle.answer_log.specs.declared.cursor.Cursor.{Cursor}
use Rattle.answer_cache.specs.Seats.{Offer, offer_of}
use Rattle.answer_cache.specs.declared.node.Node.{Node}
use Rattle.answer_cache.specs.declared.node.ShelfRefusal.{ShelfRefusal}
use Rattle.answer_cache.specs.declared.node.ShelfRefusal.TheVariants.{Unnamed, Untaken}
use Rattle.answer_cache.specs.declared.refusal.StoreRefusal.{StoreRefusal}
use Rattle.answer_cache.specs.declared.refusal.StoreRefusal.TheVariants.{Lifeless, GenerationFull}
use Rattle.answer_cache.specs.declared.refusal.StoreRefusal.TheVariants.{Contended, Memory}

-- what the nodes of a book are tagged with
abbrev pub numbers_of : Book → List ℕ
numbers_of book = book.number ∷ book.log_name ∷ book.cells_name ∷ []

-- the store of a node, by the seat that made it
abbrev pub store_in : ℕ → Node → Store
store_in seat node = store_by seat node.question (arc_value node.answer) node.moment

-- what a node says, without its seat
abbrev pub offer_of_node : Node → Offer
offer_of_node node = offer_of node.question (arc_value node.answer) node.moment

-- a node, as the log that its seat had seen names it
pub record IsNode (book : Book) (it : Node) : Type 0 where
  pub same : it.seen.book ≡ book
  pub tagged : it.tag ≡ hash_of (hashed_of it.question)
  pub seat : ℕ
  pub named : IsNamed book it.seen.log it.node (store_in seat it) it.link

abbrev pub IsShelved : List ℕ → Node → Type 0
IsShelved tag it = (numbers_of it.seen.book ≡ tag) × IsNode it.seen.book it

-- what a cursor meets: nothing where nothing is ahead, else the node of the last store ahead, which
-- was placed for it
abbrev pub Meets : Book → Cursor → List Store → Option Node → Type 0
Meets book cursor left None = left ≡ []
Meets book cursor left (Some node) = (rest : List Store) × (seat : ℕ)
    × (left ≡ rest ++ store_in seat node ∷ []) × Ahead cursor rest
    × IsPlaced cursor.seen.log node.node (store_in seat node)

-- the node of the last store of a question
abbrev pub IsLastOf : Question → List Store → Option Node → Type 0
IsLastOf question stores None = last_or None (stores_of question stores) ≡ None
IsLastOf question stores (Some node) =
    (seat : ℕ) × (last_or None (stores_of question stores) ≡ Some (store_in seat node))

-- so many links and tries at most were spent
pub record Costs (old new : Spending) (links tries : ℕ) : Type 0 where
  pub along : new.links ≤ old.links + links
  pub before : old.tries ≤ new.tries
  pub tried : new.tries ≤ old.tries + tries
  pub missed : old.missed ≤ new.missed

-- the handle goes on at its book
pub record Holds (book : Book) (old new : Handle) : Type 0 where
  pub handle : IsHandle new
  pub number : new.number ≡ old.number
  pub seats : new.seats ≡ old.seats
  pub groups : new.groups ≡ old.groups
  pub same : new.book.book ≡ book
  pub names : new.book.names ≡ old.book.names

-- what is to be placed in a log of so many groups: the log names the node so, and the pen writes
-- its link
pub record IsReady (groups : ℕ) (book : Book) (log : List Event) (seat : ℕ) (node : Node)
    (nib : Nib) : Type 0 where
  pub named : IsNamed book log node.node (store_in seat node) node.link
  pub right : nib.right ≡ may_write
  pub its : nib.key ≡ node.link.key
  pub above : groups < node.link.key

-- the node has this question with its hash, and this answer, from this moment on
abbrev pub Says : Node → Question → AnswerValue → ℕ → Type 0
Says node question answer moment = (node.question ≡ question) × (arc_value node.answer ≡ answer)
    × (node.moment ≡ moment) × (node.tag ≡ hash_of (hashed_of node.question))

-- a node that was not named leaves the places of its seat as they were
abbrev pub LeavesPlaces : Handle → Handle → ShelfRefusal → Type 0
LeavesPlaces old new Unnamed = new.node_count ≡ old.node_count
LeavesPlaces old new Untaken = Unit {0}

-- why a try does not begin, where the question's group is one of so many
abbrev pub WhyNoRoom : ℕ → Question → List Store → Spending → Spending → StoreRefusal → Type 0
WhyNoRoom groups question after old new Lifeless = ⊥
WhyNoRoom groups question after old new GenerationFull = IsFull groups after question
WhyNoRoom groups question after old new Contended = ⊥
WhyNoRoom groups question after old new Memory = old.missed < new.missed

-- why no try placed the node
abbrev pub WhyLost : ℕ → Question → List Store → List Store → Spending → Spending → StoreRefusal
    → Type 0
WhyLost groups question before after old new Lifeless = ⊥
WhyLost groups question before after old new GenerationFull = IsFull groups after question
WhyLost groups question before after old new Contended = length before + 16 ≤ length after
WhyLost groups question before after old new Memory = old.missed < new.missed

-- why nothing was put
abbrev pub WhyNotPut : ℕ → Question → List Store → List Store → StoreRefusal → Type 0
WhyNotPut groups question before after Lifeless = ⊥
WhyNotPut groups question before after GenerationFull = IsFull groups after question
WhyNotPut groups question before after Contended = length before + 16 ≤ length after
WhyNotPut groups question before after Memory = Unit {0}
