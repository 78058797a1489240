-- Questions that no request waits for any more.
use Rattle.std.proofs.Common.{◌≡◌, ℕ, ◌&&◌, ◌||◌, Bool, eq-eqb, true, false, not, nat_eq, List, [], ◌∷◌, ◌++◌, get_or, refl, sym, ap, ◌∙◌, rules}
use Rattle.std.specs.List.{All, filter, find}
use Rattle.std.proofs.lemmas.List.Elements.{filter_agree}
use Rattle.std.proofs.lemmas.List.Folds.{list_any-append, list_any_at}
use Rattle.dns_queries.specs.Tickets.{Asking, Ticket, has_id}
use Rattle.sip_resolver.specs.Cancels.{is_abandoned, is_awaited, questions_left, without_abandoned}
use Rattle.sip_resolver.specs.Questions.{QuestionsView, closed_both}
use Rattle.sip_resolver.specs.Requests.{waits_for}
use Rattle.sip_resolver.specs.Tasks.{WaitingView}

module _ {X : Type 0} (p q r : X → Bool) (same : (x : X) → (q x && p x) ≡ r x) where
  both-by : (x : X) (xs : List X) (is of : Bool) → q x ≡ is → p x ≡ of → (q x && p x) ≡ r x
      → filter p (filter q xs) ≡ filter r xs → filter p (filter q (x ∷ xs)) ≡ filter r (x ∷ xs)
  both-by x xs true true is of both rest =
      let its : r x ≡ true = let b = rw (is, of) at both in sym b in rw (is, of, its, rest) refl
  both-by x xs true false is of both rest =
      let its : r x ≡ false = let b = rw (is, of) at both in sym b in rw (is, of, its, rest) refl
  both-by x xs false of is of' both rest =
      let its : r x ≡ false = let b = rw is at both in sym b in rw (is, its, rest) refl

  -- what passes one test and then the other
  pub filter-twice : (xs : List X) → filter p (filter q xs) ≡ filter r xs
  filter-twice [] = refl
  filter-twice (x ∷ xs) = both-by x xs (q x) (p x) refl refl (same x) (filter-twice xs)

module _ {X : Type 0} (p : X → Bool) (all : (x : X) → p x ≡ true) where
  pub filter-all : (xs : List X) → filter p xs ≡ xs
  filter-all [] = refl
  filter-all (x ∷ xs) = rw (all x, filter-all xs) refl

module _ {X : Type 0} (p q : X → Bool) (passes : (x : X) → p x ≡ true → q x ≡ true) where
  found-by : (x : X) (xs : List X) (is of : Bool) → p x ≡ is → q x ≡ of → (p x ≡ true → q x ≡ true)
      → find p (filter q xs) ≡ find p xs → find p (filter q (x ∷ xs)) ≡ find p (x ∷ xs)
  found-by x xs true true is of on rest = rw (of, is) refl
  found-by x xs true false is of on rest = absurd (let yes = on is in cc)
  found-by x xs false true is of on rest = rw (of, is) rest
  found-by x xs false false is of on rest = rw (of, is) rest

  -- what is found stays where all that pass do
  pub found-still : (xs : List X) → find p (filter q xs) ≡ find p xs
  found-still [] = refl
  found-still (x ∷ xs) = found-by x xs (p x) (q x) refl refl (passes x) (found-still xs)

-- ---- who waits

awaited-more : (waiting : List WaitingView) (it : WaitingView) (id : ℕ)
    → is_awaited (waiting ++ it ∷ []) id ≡ (is_awaited waiting id || (nat_eq it.id id || false))
awaited-more waiting it id = list_any-append (waits_for id) waiting (it ∷ [])

fewer-by : (a b : Bool) → b ≡ true → (a || b) ≡ true
fewer-by true b is = refl
fewer-by false b is = is

-- who waits behind another waits
pub awaited-behind : (it : WaitingView) (waiting : List WaitingView) (id : ℕ) → is_awaited waiting id ≡ true
    → is_awaited (it ∷ waiting) id ≡ true
awaited-behind it waiting id is = fewer-by (nat_eq it.id id) (is_awaited waiting id) is

turned-by : (a b : Bool) → (b || (a || false)) ≡ true → (a || b) ≡ true
turned-by true b is = refl
turned-by false true is = refl
turned-by false false is = is

-- in front or behind
pub awaited-turned : (it : WaitingView) (waiting : List WaitingView) (id : ℕ) → is_awaited (waiting ++ it ∷ []) id ≡ true
    → is_awaited (it ∷ waiting) id ≡ true
awaited-turned it waiting id is =
    let is' = rw (awaited-more waiting it id) at is in turned-by (nat_eq it.id id) (is_awaited waiting id) is'

-- each is awaited by itself
pub awaited-self : (waiting : List WaitingView) → All (λ it. is_awaited waiting it.id ≡ true) waiting
awaited-self waiting k d small =
    let it : WaitingView = get_or waiting k d in list_any_at (waits_for it.id) waiting k d small (eq-eqb it.id it.id refl)

swapped-by : (a b c : Bool) → (a || (b || c)) ≡ (b || (a || c))
swapped-by true true c = refl
swapped-by true false c = refl
swapped-by false b c = refl

-- in its place or in front
pub awaited-moved : (first later : List WaitingView) (it : WaitingView) (id : ℕ)
    → is_awaited (first ++ it ∷ later) id ≡ is_awaited (it ∷ first ++ later) id
awaited-moved first later it id =
    list_any-append (waits_for id) first (it ∷ later)
    ∙ swapped-by (is_awaited first id) (nat_eq it.id id) (is_awaited later id)
    ∙ ap (λ rest. nat_eq it.id id || rest) (sym (list_any-append (waits_for id) first later))

-- ---- what is left

through-by : (a b c : Bool) → (b ≡ true → a ≡ true) → (c ≡ true → b ≡ true)
    → (not (a && not b) && not (b && not c)) ≡ not (a && not c)
through-by true true c first second = refl
through-by true false true first second = absurd (let no = second refl in cc)
through-by true false false first second = refl
through-by false true c first second = absurd (let no = first refl in cc)
through-by false false c first second = refl

-- those that were abandoned first, and then more
pub left-through : (old middle new : List WaitingView) (asking : Asking)
    → ((id : ℕ) → is_awaited middle id ≡ true → is_awaited old id ≡ true)
    → ((id : ℕ) → is_awaited new id ≡ true → is_awaited middle id ≡ true)
    → without_abandoned middle new (without_abandoned old middle asking) ≡ without_abandoned old new asking
left-through old middle new asking first second =
    ap (λ l. record asking { tickets = l })
    (filter-twice (λ (it : Ticket). not (is_abandoned middle new it.sent.id)) (λ (it : Ticket). not (is_abandoned old middle it.sent.id))
    (λ (it : Ticket). not (is_abandoned old new it.sent.id))
    (λ it.
    through-by (is_awaited old it.sent.id) (is_awaited middle it.sent.id) (is_awaited new it.sent.id) (first it.sent.id)
    (second it.sent.id))
    asking.tickets)

all-by : (old new : List WaitingView) (asking : Asking) → ((id : ℕ) → is_abandoned old new id ≡ false)
    → without_abandoned old new asking ≡ asking
all-by old new asking none =
    ap (λ l. record asking { tickets = l })
    (filter-all (λ (it : Ticket). not (is_abandoned old new it.sent.id)) (λ it. rw (none it.sent.id) refl) asking.tickets)

none-by : (a : Bool) → (a && not a) ≡ false
none-by true = refl
none-by false = refl

-- where the same waited
pub left-same : (old other new : List WaitingView) (asking : Asking) → ((id : ℕ) → is_awaited old id ≡ is_awaited other id)
    → without_abandoned old new asking ≡ without_abandoned other new asking
left-same old other new asking same =
    ap (λ l. record asking { tickets = l })
    (filter_agree (λ (it : Ticket). not (is_abandoned old new it.sent.id)) (λ (it : Ticket). not (is_abandoned other new it.sent.id))
    (λ it. rw (same it.sent.id) refl) asking.tickets)

-- nothing was abandoned
pub left-not : (waiting : List WaitingView) (asking : Asking) → without_abandoned waiting waiting asking ≡ asking
left-not waiting asking = all-by waiting waiting asking (λ id. none-by (is_awaited waiting id))

back-by : (a b : Bool) → ((a || b) && not (b || (a || false))) ≡ false
back-by true true = refl
back-by true false = refl
back-by false true = refl
back-by false false = refl

-- one was put back
pub left-back : (it : WaitingView) (waiting : List WaitingView) (asking : Asking)
    → without_abandoned (it ∷ waiting) (waiting ++ it ∷ []) asking ≡ asking
left-back it waiting asking =
    all-by (it ∷ waiting) (waiting ++ it ∷ []) asking
    (λ id. rw (awaited-more waiting it id) (back-by (nat_eq it.id id) (is_awaited waiting id)))

same-as : (a b : ℕ) → nat_eq a b ≡ true → a ≡ b
same-as a b is = search rules

turned-eq : (a b : ℕ) (is : Bool) → nat_eq a b ≡ is → nat_eq b a ≡ is
turned-eq a b true is = let same = same-as a b is in rw same (eq-eqb b b refl)
turned-eq a b false is = search rules

shared-by : (it : WaitingView) (waiting : List WaitingView) (id : ℕ) (is of : Bool) → nat_eq it.id id ≡ is → is_awaited waiting id ≡ of
    → is_awaited waiting it.id ≡ true → is_abandoned (it ∷ waiting) waiting id ≡ false
shared-by it waiting id true true is of shared = rw (is, of) refl
shared-by it waiting id true false is of shared =
    absurd (let same = same-as it.id id is in let no = rw same at shared in cc)
shared-by it waiting id false true is of shared = rw (is, of) refl
shared-by it waiting id false false is of shared = rw (is, of) refl

-- one is gone, and others wait for the same
pub left-shared : (it : WaitingView) (waiting : List WaitingView) (asking : Asking) → is_awaited waiting it.id ≡ true
    → without_abandoned (it ∷ waiting) waiting asking ≡ asking
left-shared it waiting asking shared =
    all-by (it ∷ waiting) waiting asking
    (λ id. shared-by it waiting id (nat_eq it.id id) (is_awaited waiting id) refl refl shared)

alone-by : (it : WaitingView) (waiting : List WaitingView) (id : ℕ) (is of : Bool) → nat_eq it.id id ≡ is → is_awaited waiting id ≡ of
    → is_awaited waiting it.id ≡ false → not (nat_eq id it.id) ≡ not (is_abandoned (it ∷ waiting) waiting id)
alone-by it waiting id true true is of alone =
    absurd (let same = same-as it.id id is in let no = rw same at alone in cc)
alone-by it waiting id true false is of alone = rw (is, of, turned-eq it.id id true is) refl
alone-by it waiting id false true is of alone = rw (is, of, turned-eq it.id id false is) refl
alone-by it waiting id false false is of alone = rw (is, of, turned-eq it.id id false is) refl

-- one is gone that alone waited
pub left-alone : (it : WaitingView) (waiting : List WaitingView) (asking : Asking) → is_awaited waiting it.id ≡ false
    → (record asking { tickets = filter (λ (ticket : Ticket). not (has_id it.id ticket)) asking.tickets })
    ≡ without_abandoned (it ∷ waiting) waiting asking
left-alone it waiting asking alone =
    ap (λ l. record asking { tickets = l })
    (filter_agree (λ (ticket : Ticket). not (has_id it.id ticket))
    (λ (ticket : Ticket). not (is_abandoned (it ∷ waiting) waiting ticket.sent.id))
    (λ ticket.
    alone-by it waiting ticket.sent.id (nat_eq it.id ticket.sent.id) (is_awaited waiting ticket.sent.id) refl refl alone)
    asking.tickets)

stays-by : (a b : Bool) → b ≡ true → not (a && not b) ≡ true
stays-by true b is = rw is refl
stays-by false b is = refl

-- what is awaited is left
pub awaited-left : (old new : List WaitingView) (asking : Asking) (id : ℕ) → is_awaited new id ≡ true
    → find (has_id id) (without_abandoned old new asking).tickets ≡ find (has_id id) asking.tickets
awaited-left old new asking id is =
    found-still (has_id id) (λ (it : Ticket). not (is_abandoned old new it.sent.id))
    (λ it same. stays-by (is_awaited old it.sent.id) (is_awaited new it.sent.id) (rw (same-as it.sent.id id same) is)) asking.tickets

-- ---- over datagrams and over streams

module _ (questions : QuestionsView) where
  pub questions-through : (old middle new : List WaitingView)
      → ((id : ℕ) → is_awaited middle id ≡ true → is_awaited old id ≡ true)
      → ((id : ℕ) → is_awaited new id ≡ true → is_awaited middle id ≡ true)
      → questions_left middle new (questions_left old middle questions) ≡ questions_left old new questions
  questions-through old middle new first second =
      rw (left-through old middle new questions.datagrams first second, left-through old middle new questions.streams first second) refl

  pub questions-same : (old other new : List WaitingView) → ((id : ℕ) → is_awaited old id ≡ is_awaited other id)
      → questions_left old new questions ≡ questions_left other new questions
  questions-same old other new same =
      rw (left-same old other new questions.datagrams same, left-same old other new questions.streams same) refl

  pub questions-not : (waiting : List WaitingView) → questions ≡ questions_left waiting waiting questions
  questions-not waiting = rw (left-not waiting questions.datagrams, left-not waiting questions.streams) refl

  pub questions-back : (it : WaitingView) (waiting : List WaitingView)
      → questions ≡ questions_left (it ∷ waiting) (waiting ++ it ∷ []) questions
  questions-back it waiting = rw (left-back it waiting questions.datagrams, left-back it waiting questions.streams) refl

  pub questions-shared : (it : WaitingView) (waiting : List WaitingView) → is_awaited waiting it.id ≡ true
      → questions ≡ questions_left (it ∷ waiting) waiting questions
  questions-shared it waiting shared =
      rw (left-shared it waiting questions.datagrams shared, left-shared it waiting questions.streams shared) refl

  pub questions-alone : (it : WaitingView) (waiting : List WaitingView) → is_awaited waiting it.id ≡ false
      → closed_both it.id questions ≡ questions_left (it ∷ waiting) waiting questions
  questions-alone it waiting alone =
      rw (← left-alone it waiting questions.datagrams alone, ← left-alone it waiting questions.streams alone) refl
