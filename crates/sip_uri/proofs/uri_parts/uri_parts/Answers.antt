use Rattle.std.proofs.Common.{◌≡◌, rules, ◌∙◌}
use Rattle.std.specs.Option.{option_map}
use Rattle.ip_text.specs.Parts.{before, behind}
use Rattle.sip_uri.specs.Readers.Uris.{uri_parts}
use Rattle.sip_uri.proofs.PlaceRows.{place_row, params_row, headers_row}
use Rattle.sip_uri.proofs.uri_parts.uri_parts.Goals as goal

pub returns-in_err-host-clause-value : goal.returns-in_err-host-clause-value
unfolding uri_parts
returns-in_err-host-clause-value c =
    let place = rw (place_row c.in_ok-rest.rest.now) at c.in_err-host.ensures.value in
    search (rules, place)

pub returns-in_err-transport-clause-value : goal.returns-in_err-transport-clause-value
unfolding uri_parts
returns-in_err-transport-clause-value c =
    let place = rw (place_row c.in_ok-rest.rest.now) at c.in_ok-host.ensures.value in
    let params : option_map (λ params. params.now) c.behind_place.result.0 ≡ behind 59 (before 63 c.in_ok-rest.rest.now) =
    rw c.in_ok-host.ensures.behind at c.behind_place.ensures.params ∙ params_row c.in_ok-rest.rest.now in
    let said = rw params at c.in_err-transport.ensures.value in
    search (rules, place, said)

pub returns-in_err-check_headers-clause-value : goal.returns-in_err-check_headers-clause-value
unfolding uri_parts
returns-in_err-check_headers-clause-value c =
    let place = rw (place_row c.in_ok-rest.rest.now) at c.in_ok-host.ensures.value in
    let params : option_map (λ params. params.now) c.behind_place.result.0 ≡ behind 59 (before 63 c.in_ok-rest.rest.now) =
    rw c.in_ok-host.ensures.behind at c.behind_place.ensures.params ∙ params_row c.in_ok-rest.rest.now in
    let headers : option_map (λ headers. headers.now) c.behind_place.result.1 ≡ behind 63 c.in_ok-rest.rest.now =
    rw c.in_ok-host.ensures.behind at c.behind_place.ensures.headers ∙ headers_row c.in_ok-rest.rest.now in
    let said = rw params at c.in_ok-transport.ensures.value in
    let checked = rw headers at c.in_err-check_headers.ensures in
    search (rules, place, said, checked)

pub returns-clause-value : goal.returns-clause-value
unfolding uri_parts
returns-clause-value c =
    let place = rw (place_row c.in_ok-rest.rest.now) at c.in_ok-host.ensures.value in
    let params : option_map (λ params. params.now) c.behind_place.result.0 ≡ behind 59 (before 63 c.in_ok-rest.rest.now) =
    rw c.in_ok-host.ensures.behind at c.behind_place.ensures.params ∙ params_row c.in_ok-rest.rest.now in
    let headers : option_map (λ headers. headers.now) c.behind_place.result.1 ≡ behind 63 c.in_ok-rest.rest.now =
    rw c.in_ok-host.ensures.behind at c.behind_place.ensures.headers ∙ headers_row c.in_ok-rest.rest.now in
    let said = rw params at c.in_ok-transport.ensures.value in
    let checked = rw headers at c.in_ok-check_headers.ensures in
    search (rules, place, said, checked)
