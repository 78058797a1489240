use Rattle.std.proofs.Common.{◌≡◌, Some, None, sym, ◌∙◌}
use Rattle.ip_text.specs.Parts.{behind_front}
use Rattle.sip_uri.specs.Readers.Hosts.{plain_host}
use Rattle.sip_uri.specs.Views.{host_of}
use Rattle.sip_uri.specs.ViaClasses.{is_in_host, row}
use Rattle.sip_uri.proofs.Fronts.{via_bracketed, no_via_host, via_host_there}
use Rattle.sip_uri.proofs.via_parts.via_host.Goals as goal
use Rattle.sip_uri.proofs.via_parts.via_host.Goals.{In-None}

pub returns-in-Some-clause-host : goal.returns-in-Some-clause-host
returns-in-Some-clause-host c =
    let some : behind_front 91 c.args.text.now ≡ Some c.in-Some.rest.now = rw c.in-Some.is at (sym c.behind_front.ensures) in
    c.via_host_in_brackets.ensures.host ∙ via_bracketed c.args.text.now c.in-Some.rest.now some

none : (c : In-None) → behind_front 91 c.args.text.now ≡ None
none c = rw c.in-None.is at (sym c.behind_front.ensures)

pub returns-in_err-plain_host-in-None-clause-host : goal.returns-in_err-plain_host-in-None-clause-host
returns-in_err-plain_host-in-None-clause-host c =
    let no : plain_host (row is_in_host c.args.text.now) ≡ None =
    rw c.cut.ensures.front at (sym c.in_err-plain_host-in-None.ensures.host) in
    rw c.from_residual.ensures (no_via_host c.args.text.now (none (goal.at.returns-in_err-plain_host-in-None-clause-host c).In-None) no)

pub returns-in_ok-plain_host-in-None-clause-host : goal.returns-in_ok-plain_host-in-None-clause-host
returns-in_ok-plain_host-in-None-clause-host c =
    let is : plain_host (row is_in_host c.args.text.now) ≡ Some (host_of c.in_ok-plain_host-in-None.field-0) =
    rw c.cut.ensures.front at (sym c.in_ok-plain_host-in-None.ensures.host) in
    via_host_there c.args.text.now (none (goal.at.returns-in_ok-plain_host-in-None-clause-host c).In-None) _ _ is
    (sym c.cut.ensures.back)
