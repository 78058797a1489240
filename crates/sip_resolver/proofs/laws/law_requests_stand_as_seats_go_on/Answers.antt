use Rattle.std.proofs.Common.{◌∙◌}
use Rattle.sip_resolver.proofs.Standing.{goes-through, stand-later, works-quietly}
use Rattle.sip_resolver.proofs.laws.law_requests_stand_as_seats_go_on.Goals as goal

pub returns-clause-stand : goal.returns-clause-stand
returns-clause-stand g c = λ old new requests on nothing. stand-later _ _ old new (works-quietly _ _ old new on nothing) requests

pub returns-clause-quiet : goal.returns-clause-quiet
returns-clause-quiet g c = λ old new on nothing. works-quietly _ _ old new on nothing

pub returns-clause-works : goal.returns-clause-works
returns-clause-works g c = λ first old new on nothing works. record {
  goes_on = goes-through first old new works.goes_on on;
  offers = works.offers;
  offered = nothing.offered ∙ works.offered;
  heard = works.heard;
  stores = works.stores;
  own = nothing.own ∙ works.own;
  kept = works.kept;
}
