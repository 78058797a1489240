-- What a resolver does at a seat, one part after the other.
use Rattle.std.proofs.Common.{ℕ, List, ◌++◌, ap, ◌∙◌, append_assoc}
use Rattle.std.proofs.lemmas.List.Elements.{All-append}
use Rattle.answer_cache.specs.Seats.{SeatView}
use Rattle.sip_resolver.specs.Works.{IsHeard, Works, offer_in}
use Rattle.sip_resolver.proofs.Standing.{goes-through}

module _ (gives : List ℕ → Type 0) (shows : ℕ → Type 0) where
  pub works-through : (old middle new : SeatView) → Works gives shows old middle → Works gives shows middle new → Works gives shows old new
  works-through old middle new front back = record {
    goes_on = goes-through old middle new front.goes_on back.goes_on;
    offers = front.offers ++ back.offers;
    offered = back.offered ∙ ap (λ l. l ++ back.offers) front.offered ∙ append_assoc old.offered front.offers back.offers;
    heard = All-append (IsHeard gives shows) front.offers back.offers front.heard back.heard;
    stores = front.stores ++ back.stores;
    own = back.own ∙ ap (λ l. l ++ back.stores) front.own ∙ append_assoc old.own front.stores back.stores;
    kept = All-append (λ store. IsHeard gives shows (offer_in store)) front.stores back.stores front.kept back.kept;
  }
