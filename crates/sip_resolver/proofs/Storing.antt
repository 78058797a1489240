-- A store of what a reply had.
use Rattle.std.proofs.Common.{◌≡◌, ℕ, inl, inr, List, [], ◌∷◌, ◌++◌, Result, Ok, Err, sym, ◌∙◌}
use Rattle.std.specs.Result.{IfErr, OnOk}
use Rattle.std.proofs.lemmas.List.{append-nil}
use Rattle.std.proofs.lemmas.List.Elements.{All-nil, All-push, Contains-push}
use Rattle.std.specs.List.{All}
use Rattle.dns_answers.specs.Values.{AnswerValue}
use Rattle.dns_message.specs.declared.question.Question.{Question}
use Rattle.answer_cache.specs.Seats.{GoesOn, IsRefused, IsStored, SeatView, offer_of, store_of}
use Rattle.answer_cache.specs.declared.refusal.StoreRefusal.{StoreRefusal}
use Rattle.sip_locator.specs.Replies.{Answers}
use Rattle.sip_resolver.specs.Outcomes.{Counts, IsReplied}
use Rattle.sip_resolver.specs.Works.{HandsBy, IsHeard, MayHand, Works, offer_in}
use Rattle.sip_resolver.specs.Questions.{QuestionsView, asking_over}
use Rattle.sip_resolver.specs.Resolvers.{HandsIn, answer, nothing}
use Rattle.sip_resolver.specs.declared.transmit.DnsTransport.{DnsTransport}
use Rattle.dns_queries.specs.Events.{Means}
use Rattle.dns_queries.specs.declared.incoming.Ending.{Ending}
use Rattle.dns_queries.specs.declared.incoming.Ending.TheVariants.{Answered, Faulty}
use Rattle.dns_queries.specs.declared.incoming.Incoming.TheVariants as incoming

module _ (gives : List ℕ → Type 0) (shows : ℕ → Type 0) (old new : SeatView) (on : GoesOn old new) (octets : List ℕ)
    (given : gives octets) (now : ℕ) (shown : shows now) (question : Question) (answer : AnswerValue)
    (answers : Answers question octets answer)
    (offered : new.offered ≡ old.offered ++ offer_of question answer now ∷ []) where
  replied : IsReplied gives question answer
  replied = record { octets = octets; given = given; answers = answers }

  heard : All (IsHeard gives shows) (offer_of question answer now ∷ [])
  heard = All-push (IsHeard gives shows) [] (offer_of question answer now) (All-nil (IsHeard gives shows)) (replied, shown)

  pub works-stored : IsStored old new (offer_of question answer now) → Works gives shows old new
  works-stored it = record {
    goes_on = on;
    offers = offer_of question answer now ∷ [];
    offered = offered;
    heard = heard;
    stores = store_of old (offer_of question answer now) ∷ [];
    own = it.own;
    kept = All-push (λ store. IsHeard gives shows (offer_in store)) [] (store_of old (offer_of question answer now))
        (All-nil (λ store. IsHeard gives shows (offer_in store))) (replied, shown);
  }

  pub works-refused : (refusal : StoreRefusal) → IsRefused old new (offer_of question answer now) refusal → Works gives shows old new
  works-refused refusal it = record {
    goes_on = on;
    offers = offer_of question answer now ∷ [];
    offered = offered;
    heard = heard;
    stores = [];
    own = it.0 ∙ sym (append-nil old.own);
    kept = All-nil (λ store. IsHeard gives shows (offer_in store));
  }

  pub works-store : (result : Result Unit StoreRefusal) → OnOk result (IsStored old new (offer_of question answer now))
      → IfErr result (IsRefused old new (offer_of question answer now)) → Works gives shows old new
  works-store (Ok _) stored refused = works-stored stored
  works-store (Err refusal) stored refused = works-refused refusal refused

  -- the answer was handed in
  pub hands-store : (result : Result Unit StoreRefusal) → OnOk result (IsStored old new (offer_of question answer now))
      → IfErr result (IsRefused old new (offer_of question answer now)) → MayHand question answer now old new
  hands-store (Ok _) stored refused = inr (offered, inr stored.own)
  hands-store (Err refusal) stored refused = inr (offered, inl refused.0)

  -- what was stored counts
  pub counts : Counts gives shows new (record { question = question; answer = answer })
  counts = inr (replied, record { now = now; stands = rw offered (Contains-push old.offered (offer_of question answer now)) })

-- what octets that mean the end of a wait hand in
pub hands-in : (over : DnsTransport) (octets : List ℕ) (now : ℕ) (questions : QuestionsView) (old new : SeatView) (id : ℕ)
    (question : Question) (ending : Ending) → Means (asking_over over questions) octets (incoming.Ended id question ending)
    → HandsBy question ending now old new → HandsIn over octets now questions old new
hands-in over octets now questions old new id question (Answered found) means (inl quiet) = nothing quiet
hands-in over octets now questions old new id question (Answered found) means (inr hands) = answer id question found means hands
hands-in over octets now questions old new id question (Faulty refusal) means quiet = nothing quiet
