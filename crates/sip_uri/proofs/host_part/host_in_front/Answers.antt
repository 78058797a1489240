use Rattle.std.proofs.Common.{◌≡◌, Some, None, sym, ◌∙◌}
use Rattle.ip_text.specs.Parts.{before, behind_front}
use Rattle.sip_uri.specs.Readers.Hosts.{plain_host}
use Rattle.sip_uri.specs.Views.{host_of}
use Rattle.sip_uri.proofs.Fronts.{bracketed, no_host, host_there}
use Rattle.sip_uri.proofs.host_part.host_in_front.Goals as goal
use Rattle.sip_uri.proofs.host_part.host_in_front.Goals.{In-None}

pub returns-in-Some-clause-host : goal.returns-in-Some-clause-host
returns-in-Some-clause-host c =
    let some : behind_front 91 c.args.text.now ≡ Some c.in-Some.rest.now = rw c.in-Some.is at (sym c.behind_front.ensures) in
    c.host_in_brackets.ensures.host ∙ bracketed c.args.text.now c.in-Some.rest.now some

none : (c : In-None) → behind_front 91 c.args.text.now ≡ None
none c = rw c.in-None.is at (sym c.behind_front.ensures)

pub returns-in_err-plain_host-in-None-clause-host : goal.returns-in_err-plain_host-in-None-clause-host
returns-in_err-plain_host-in-None-clause-host c =
    let no : plain_host (before 58 c.args.text.now) ≡ None =
    rw c.next_part.ensures.front at (sym c.in_err-plain_host-in-None.ensures.host) in
    rw c.from_residual.ensures (no_host c.args.text.now (none (goal.at.returns-in_err-plain_host-in-None-clause-host c).In-None) no)

pub returns-in_ok-plain_host-in-None-clause-host : goal.returns-in_ok-plain_host-in-None-clause-host
returns-in_ok-plain_host-in-None-clause-host c =
    let is : plain_host (before 58 c.args.text.now) ≡ Some (host_of c.in_ok-plain_host-in-None.field-0) =
    rw c.next_part.ensures.front at (sym c.in_ok-plain_host-in-None.ensures.host) in
    host_there c.args.text.now (none (goal.at.returns-in_ok-plain_host-in-None-clause-host c).In-None) _ _ is (sym c.next_part.ensures.back)
