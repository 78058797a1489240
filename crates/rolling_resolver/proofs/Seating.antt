-- The seat of a list: what it stored is all that it has seen.
use Rattle.std.proofs.Common.{◌≡◌, refl, ℕ, inl, inr, List, [], ◌∷◌, ◌++◌, sym, ap, ◌∙◌}
use Rattle.answer_log.specs.declared.store.Store.{Store}
use Rattle.answer_cache.specs.Lists.{IsListSeat}
use Rattle.answer_cache.specs.Seats.{Offer, SeatView, StoresNothing, offer_of, store_of}
use Rattle.sip_resolver.specs.Questions.{QuestionsView}
use Rattle.sip_resolver.specs.Resolvers.{HandsIn, Hears, LeavesSeat, ResolverView, answer, nothing}
use Rattle.sip_resolver.specs.declared.resolver.ReplyOutcome.{ReplyOutcome}
use Rattle.sip_resolver.specs.declared.transmit.DnsTransport.{DnsTransport}
use Rattle.rolling_resolver.specs.Rolling.{HandsToBook, Learns, none, reply}
use Rattle.rolling_resolver.proofs.Soundness.{at_seat}

module _ (old new : SeatView) (was : IsListSeat old) (is : IsListSeat new) (number : new.number ≡ old.number)
    (groups : new.groups ≡ old.groups) where
  -- with the same stores it has seen the same, and what it was handed is all that can differ
  same-stores : (offered : List Offer) → new.own ≡ old.own → new.offered ≡ offered → new ≡ record old { offered = offered }
  same-stores offered own handed = λ j. record {
    number = number j;
    seen = (sym is.own ∙ own ∙ was.own) j;
    own = own j;
    offered = handed j;
    groups = groups j;
  }

  more-stores : (offered : List Offer) (store : Store) → new.own ≡ old.own ++ store ∷ [] → new.offered ≡ offered
      → new ≡ record old { seen = old.seen ++ store ∷ []; own = old.own ++ store ∷ []; offered = offered }
  more-stores offered store own handed = λ j. record {
    number = number j;
    seen = (sym is.own ∙ own ∙ ap (λ (l : List Store). l ++ store ∷ []) was.own) j;
    own = own j;
    offered = handed j;
    groups = groups j;
  }

  -- a call that stores nothing leaves it as it was
  unchanged : StoresNothing old new → new ≡ old
  unchanged it = same-stores old.offered it.own it.offered

  -- what octets hand in
  handed : (over : DnsTransport) (octets : List ℕ) (now : ℕ) (questions : QuestionsView)
      → HandsIn over octets now questions old new → HandsToBook over octets now questions old new
  handed over octets now questions (nothing it) = none (unchanged it)
  handed over octets now questions (answer id question found means (offered, inl own)) =
      reply id question found means (inl (same-stores (old.offered ++ offer_of question found now ∷ []) own offered))
  handed over octets now questions (answer id question found means (offered, inr own)) =
      reply id question found means
      (inr (more-stores (old.offered ++ offer_of question found now ∷ []) (store_of old (offer_of question found now)) own offered))

  -- what they leave of the generation at the seat
  pub learned : (over : DnsTransport) (octets : List ℕ) (now : ℕ) (heard : ReplyOutcome) (mark : ℕ) (core after : ResolverView)
      → Hears core after over octets heard → HandsIn over octets now core.questions old new → LeavesSeat old new heard
      → Learns over octets now heard (at_seat old mark core) (at_seat new mark after)
  learned over octets now heard mark core after hears hands leaves =
      record { mark = refl; hears = hears; hands = handed over octets now core.questions hands; leaves = leaves }
