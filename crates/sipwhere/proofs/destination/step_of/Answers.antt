use Rattle.std.proofs.Common.{◌≡◌, Some, subst}
use Rattle.sip_uri.specs.Vias.{ViaText}
use Rattle.sip_selection.specs.RequestLines.{BeginsVia}
use Rattle.sipwhere.specs.Destinations.{IsStep}
use Rattle.sipwhere.proofs.HostNames.{names-host}
use Rattle.sipwhere.proofs.destination.step_of.Goals as goal

pub returns-in_err-rest-clause-step : goal.returns-in_err-rest-clause-step
returns-in_err-rest-clause-step c = λ via text.
    let none = c.in_err-rest.ensures text.0 text.1 in
    absurd cc

pub returns-in-Ok-clause-step : goal.returns-in-Ok-clause-step
returns-in-Ok-clause-step c = λ via text.
    let both : Some c.in_ok-rest.rest.now ≡ Some text.0 = c.in_ok-rest.ensures text.0 text.1 in
    let same : text.0 ≡ c.in_ok-rest.rest.now = cc in
    let begins : BeginsVia c.args.text.now c.in_ok-rest.rest.now = rw same at text.1 in
    let here : ViaText c.in_ok-rest.rest.now via = rw same at text.2 in
    let octets = c.as_bytes.ensures.value in
    subst (λ v. IsStep c.args.text.now v c.args.over c.past_connection.result)
    (c.in-Ok.ensures.seen via (rw octets here))
    (record {
      rest = c.in_ok-rest.rest.now;
      begins = begins;
      params = c.in-Ok.params;
      says = rw octets at c.in-Ok.ensures.found;
      route = c.response_route.result;
      is = c.response_route.ensures;
      first = c.past_connection.ensures;
    })

pub returns-in-Ok-clause-name : goal.returns-in-Ok-clause-name
returns-in-Ok-clause-name c =
    rw c.past_connection.ensures (names-host _ _ _ _ c.response_route.ensures c.in-Ok.ensures.maddr)

pub returns-in-Err-clause-step : goal.returns-in-Err-clause-step
returns-in-Err-clause-step c = λ via text.
    let both : Some c.in_ok-rest.rest.now ≡ Some text.0 = c.in_ok-rest.ensures text.0 text.1 in
    let same : text.0 ≡ c.in_ok-rest.rest.now = cc in
    let here : ViaText c.in_ok-rest.rest.now via = rw same at text.2 in
    let octets = c.as_bytes.ensures.value in
    absurd (c.in-Err.ensures.seen via (rw octets here))
