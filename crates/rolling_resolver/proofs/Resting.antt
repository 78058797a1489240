-- What the answers in the books rest on, as calls go on.
use Rattle.std.proofs.Common.{◌≡◌, inl, inr, ℕ, Bool, true, false, if◌then◌else◌, map, List, [], ◌∷◌, ◌++◌, Option, Some, None, IfSome, IsTrue, refl, sym, ap, ◌∙◌, subst}
use Rattle.std.specs.Bool.{OnFalse}
use Rattle.std.specs.List.{All, Contains}
use Rattle.std.specs.Option.{option_map}
use Rattle.std.proofs.lemmas.List.Elements.{All-cons, All-filter, All-head, All-map, All-nil, All-push, All-tail, All-weaker, Contains-append_left, Contains-push}
use Rattle.answer_log.specs.declared.store.Store.{Store}
use Rattle.answer_cache.specs.Carried.{carried_stores, has_question, last_stores, lives_at, living_of, unseated}
use Rattle.answer_cache.specs.Lists.{offered_too, own_store, stored_too}
use Rattle.answer_cache.specs.Seats.{Offer, SeatView, offer_of, store_of}
use Rattle.dns_answers.specs.Answers.{answer}
use Rattle.dns_answers.specs.Replies.{reply_refusal}
use Rattle.dns_answers.specs.Values.{AnswerValue}
use Rattle.dns_queries.specs.Events.{Means}
use Rattle.dns_queries.specs.declared.incoming.Ending.TheVariants as endings
use Rattle.dns_queries.specs.declared.incoming.Incoming.TheVariants as incoming
use Rattle.dns_message.specs.declared.question.Question.{Question}
use Rattle.sip_resolver.specs.Outcomes.{Ended, IsReplied}
use Rattle.sip_resolver.specs.Questions.{QuestionsView, asking_over}
use Rattle.sip_resolver.specs.declared.resolver.ReplyOutcome.{ReplyOutcome}
use Rattle.sip_resolver.specs.declared.resolver.Limits.{Limits}
use Rattle.sip_resolver.specs.declared.transmit.DnsTransport.{DnsTransport}
use Rattle.rolling_resolver.specs.Rests.{AllRestOn, GainsFrom, KeepsAnswers, RestsOn}
use Rattle.rolling_resolver.specs.Rolling.{Begins, CarriesOn, GenerationView, HandsToBook, Receives, RollingView, SameSeats, Takes, Tells, begun_generation, begun_rolling, living, none, nothing, older, reply, younger}

-- a store holds the answer of a reply among these octets
abbrev pub Stored : List (List ℕ) → Store → Type 0
Stored given store = IsReplied (Contains given) store.question store.answer

-- so does what was handed in
abbrev pub Handed : List (List ℕ) → Offer → Type 0
Handed given offer = IsReplied (Contains given) offer.question offer.answer

-- what rests on octets, at the older generation
abbrev pub OlderRests : List (List ℕ) → Option GenerationView → Type 0
OlderRests given draining = IfSome draining (λ it. RestsOn given it.seat)

-- ---- seats

-- nothing is in an empty book
empty-rests : (given : List (List ℕ)) (groups : ℕ) (limits : Limits) → RestsOn given (begun_generation groups limits).seat
empty-rests given groups limits = record { seen = All-nil (Stored given); offered = All-nil (Handed given) }

module _ (given : List (List ℕ)) (octets : List ℕ) where
  abbrev more : List (List ℕ)
  more = given ++ octets ∷ []

  -- what was among octets is among more
  replied-too : (question : Question) (found : AnswerValue) → IsReplied (Contains given) question found
      → IsReplied (Contains more) question found
  replied-too question found it = record {
    octets = it.octets;
    given = Contains-append_left given (octets ∷ []) it.octets it.given;
    answers = it.answers;
  }

  rests-too : (seat : SeatView) → RestsOn given seat → RestsOn more seat
  rests-too seat it = record {
    seen = All-weaker (Stored given) (Stored more) (λ (store : Store) s. replied-too store.question store.answer s) seat.seen it.seen;
    offered = All-weaker (Handed given) (Handed more) (λ (offer : Offer) s. replied-too offer.question offer.answer s) seat.offered
        it.offered;
  }

  older-rests-too : (draining : Option GenerationView) → OlderRests given draining → OlderRests more draining
  older-rests-too None it = it
  older-rests-too (Some before) it = rests-too before.seat it

  -- octets that mean an answer are a reply with it
  replied-by : (over : DnsTransport) (questions : QuestionsView) (id : ℕ) (question : Question) (found : AnswerValue)
      → Means (asking_over over questions) octets (incoming.Ended id question (endings.Answered found))
      → IsReplied (Contains more) question found
  replied-by over questions id question found it = record {
    octets = octets;
    given = Contains-push given octets;
    answers = record {
      it = it.message;
      begins = it.begins;
      taken = ap (λ (q : Question). reply_refusal q it.message) it.says.1 ∙ it.says.2.0;
      is = it.says.2.1 ∙ sym (ap (λ (q : Question). answer q it.message) it.says.1);
    };
  }

  offered-rests : (seat : SeatView) (offer : Offer) → Handed more offer → RestsOn more seat → RestsOn more (offered_too seat offer)
  offered-rests seat offer handed it =
      record { seen = it.seen; offered = All-push (Handed more) seat.offered offer it.offered handed }

  stored-rests : (seat : SeatView) (offer : Offer) → Handed more offer → RestsOn more seat → RestsOn more (stored_too seat offer)
  stored-rests seat offer handed it = record {
    seen = All-push (Stored more) seat.seen (store_of seat offer) it.seen handed;
    offered = All-push (Handed more) seat.offered offer it.offered handed;
  }

  handed-rests : (over : DnsTransport) (now : ℕ) (questions : QuestionsView) (old new : SeatView)
      → HandsToBook over octets now questions old new → RestsOn given old → RestsOn more new
  handed-rests over now questions old new (none same) it = subst (λ (s : SeatView). RestsOn more s) (sym same) (rests-too old it)
  handed-rests over now questions old new (reply id question found means (inl is)) it =
      subst (λ (s : SeatView). RestsOn more s) (sym is)
      (offered-rests old (offer_of question found now) (replied-by over questions id question found means) (rests-too old it))
  handed-rests over now questions old new (reply id question found means (inr is)) it =
      subst (λ (s : SeatView). RestsOn more s) (sym is)
      (stored-rests old (offer_of question found now) (replied-by over questions id question found means) (rests-too old it))

-- ---- generations

-- what rests on octets at the seat of an older generation
to-seat : (given : List (List ℕ)) (draining : Option GenerationView) → OlderRests given draining
    → IfSome (option_map (λ (g : GenerationView). g.seat) draining) (λ seat. RestsOn given seat)
to-seat given None it = it
to-seat given (Some before) it = it

of-seat : (given : List (List ℕ)) (draining : Option GenerationView)
    → IfSome (option_map (λ (g : GenerationView). g.seat) draining) (λ seat. RestsOn given seat)
    → OlderRests given draining
of-seat given None it = it
of-seat given (Some before) it = it

-- where the seats are as they were, the answers are
pub same-keeps : (old new : RollingView) → SameSeats old new → KeepsAnswers old new
same-keeps old new same given it = record {
  current = subst (λ (s : SeatView). RestsOn given s) (sym same.current) it.current;
  draining = of-seat given new.draining
      (subst (λ (o : Option SeatView). IfSome o (λ seat. RestsOn given seat)) (sym same.draining)
      (to-seat given old.draining it.draining));
}

-- the younger generation goes on at its seat
pub current-keeps : (old : RollingView) (after : GenerationView) → after.seat ≡ old.current.seat
    → KeepsAnswers old (record old { current = after })
current-keeps old after same given it =
    record { current = subst (λ (s : SeatView). RestsOn given s) (sym same) it.current; draining = it.draining }

-- ---- a generation begins

module _ (given : List (List ℕ)) where
  -- of stores that rest on octets, so do the last ones of their questions
  last-by : (b : Bool) (store : Store) (later : List Store) → Stored given store → All (Stored given) later
      → All (Stored given) (if b then later else store ∷ later)
  last-by true store later one others = others
  last-by false store later one others = All-cons (Stored given) store later one others

  last-rest : (stores : List Store) → All (Stored given) stores → All (Stored given) (last_stores stores)
  last-rest [] it = it
  last-rest (store ∷ later) it =
      last-by (has_question store.question later) store (last_stores later) (All-head (Stored given) store later it)
      (last-rest later (All-tail (Stored given) store later it))

  -- and those of them that live
  living-rest : (now : ℕ) (stores : List Store) → All (Stored given) stores
      → All (Stored given) (carried_stores (living_of now stores))
  living-rest now stores it =
      All-map (Stored given) own_store (living_of now stores)
      (All-filter (lives_at now) (Handed given) (map unseated (last_stores stores))
      (All-map (Handed given) unseated (last_stores stores) (last-rest stores it)))

  -- so what a generation carries on rests on what the one before it did
  carried-rests : (old new : SeatView) → CarriesOn old new → RestsOn given old → RestsOn given new
  carried-rests old new (living now few is) it =
      subst (RestsOn given) (sym is)
      (record { seen = living-rest now old.seen it.seen; offered = All-nil (Handed given) })
  carried-rests old new (nothing is) it =
      subst (RestsOn given) (sym is) (record { seen = All-nil (Stored given); offered = All-nil (Handed given) })

  older-rests : (draining : Option GenerationView) (seat : SeatView) → option_map (λ (it : GenerationView). it.seat) draining ≡ Some seat
      → RestsOn given seat → OlderRests given draining
  older-rests None seat is it = absurd cc
  older-rests (Some before) seat is it = subst (RestsOn given) (let same : seat ≡ before.seat = cc in same) it

-- the younger one is the older then
pub begun-keeps : (old new : RollingView) → Begins old new → KeepsAnswers old new
begun-keeps old new it given rests = record {
  current = carried-rests given old.current.seat new.current.seat it.carries rests.current;
  draining = older-rests given new.draining old.current.seat it.older rests.current;
}

-- a request is taken out of a generation
pub takes-keeps : (ended : Ended) (old new : RollingView) → Takes ended old new → KeepsAnswers old new
takes-keeps ended old new (older out) given it =
    subst (λ (s : RollingView). AllRestOn given s) (sym out.is) (record {
      current = it.current;
      draining = subst (λ (s : SeatView). RestsOn given s) (sym (ap (λ (g : GenerationView). g.seat) out.first.others))
          (subst (λ (d : Option GenerationView). OlderRests given d) out.was it.draining);
    })
takes-keeps ended old new (younger after out is) given it =
    subst (λ (s : RollingView). AllRestOn given s) (sym is) (current-keeps old after (ap (λ (g : GenerationView). g.seat) out.others) given it)

tells-keeps : (old new : RollingView) → Tells old new → KeepsAnswers old new
tells-keeps old new tells given it =
    let rests : AllRestOn given tells.middle = takes-keeps tells.ended old tells.middle tells.takes given it in
    subst (λ (s : RollingView). AllRestOn given s) (sym tells.is) (record { current = rests.current; draining = rests.draining })

-- where one is told, and where none is
pub told-keeps : (told : Bool) (old new : RollingView) → OnFalse told (new ≡ old) → (IsTrue told → Tells old new) → KeepsAnswers old new
told-keeps true old new same tells = tells-keeps old new (tells refl)
told-keeps false old new same tells = λ given it. subst (λ (s : RollingView). AllRestOn given s) (sym same) it

-- octets come in
pub receives-gains : (over : DnsTransport) (octets : List ℕ) (now : ℕ) (heard : ReplyOutcome) (old new : RollingView)
    → Receives over octets now heard old new → GainsFrom octets old new
receives-gains over octets now heard old new (younger after it is) given rests =
    subst (λ (s : RollingView). AllRestOn (given ++ octets ∷ []) s) (sym is) (record {
      current = handed-rests given octets over now old.current.core.questions old.current.seat after.seat it.hands rests.current;
      draining = older-rests-too given octets old.draining rests.draining;
    })
receives-gains over octets now heard old new (older before after was it is) given rests =
    subst (λ (s : RollingView). AllRestOn (given ++ octets ∷ []) s) (sym is) (record {
      current = rests-too given octets old.current.seat rests.current;
      draining = handed-rests given octets over now before.core.questions before.seat after.seat it.hands
          (subst (λ (d : Option GenerationView). OlderRests given d) was rests.draining);
    })

-- nothing is in the books at first
pub begun-rests : (groups : ℕ) (limits : Limits) → AllRestOn [] (begun_rolling groups limits)
begun-rests groups limits = record { current = empty-rests [] groups limits; draining = tt }
