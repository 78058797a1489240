use Rattle.std.proofs.Common.{◌≡◌, Some, None, sym, ◌∙◌}
use Rattle.std.specs.Option.{option_map}
use Rattle.ip_text.specs.Parts.{before, behind, behind_front}
use Rattle.sip_uri.specs.Readers.Hosts.{plain_host}
use Rattle.sip_uri.specs.Readers.Places.{is_in_place}
use Rattle.sip_uri.specs.ViaClasses.{row}
use Rattle.sip_uri.specs.Views.{host_of}
use Rattle.sip_uri.proofs.Fronts.{no_host, host_there}
use Rattle.sip_uri.proofs.PlaceRows.{host_row, port_row, behind_rows, front_row}
use Rattle.sip_uri.proofs.place.host_and_port.Goals as goal
use Rattle.sip_uri.proofs.place.host_and_port.Goals.{In-None}

none : (c : In-None) → behind_front 91 (row is_in_place c.args.text.now) ≡ None
none c = front_row c.args.text.now (rw c.in-None.is at (sym c.behind_front.ensures))

pub returns-in_err-plain_host-in-None-clause-host : goal.returns-in_err-plain_host-in-None-clause-host
returns-in_err-plain_host-in-None-clause-host c =
    let front : c.cut-in-None.result.0.now ≡ before 58 (row is_in_place c.args.text.now) =
    c.cut-in-None.ensures.front ∙ host_row c.args.text.now in
    let no : plain_host (before 58 (row is_in_place c.args.text.now)) ≡ None =
    rw front at (sym c.in_err-plain_host-in-None.ensures.host) in
    rw c.from_residual-in_err-plain_host-in-None.ensures
    (no_host (row is_in_place c.args.text.now) (none (goal.at.returns-in_err-plain_host-in-None-clause-host c).In-None) no)

pub returns-in_ok-plain_host-in-None-clause-host : goal.returns-in_ok-plain_host-in-None-clause-host
returns-in_ok-plain_host-in-None-clause-host c =
    let front : c.cut-in-None.result.0.now ≡ before 58 (row is_in_place c.args.text.now) =
    c.cut-in-None.ensures.front ∙ host_row c.args.text.now in
    let is : plain_host (before 58 (row is_in_place c.args.text.now)) ≡ Some (host_of c.in_ok-plain_host-in-None.field-0) =
    rw front at (sym c.in_ok-plain_host-in-None.ensures.host) in
    let port : behind 58 (row is_in_place c.args.text.now) ≡ option_map (λ digits. digits.now) c.port_in_front.result.0 =
    sym (rw c.cut-in-None.ensures.back at c.port_in_front.ensures.port ∙ port_row c.args.text.now) in
    host_there (row is_in_place c.args.text.now) (none (goal.at.returns-in_ok-plain_host-in-None-clause-host c).In-None) _ _ is port

pub returns-in_ok-plain_host-in-None-clause-behind : goal.returns-in_ok-plain_host-in-None-clause-behind
returns-in_ok-plain_host-in-None-clause-behind c =
    rw c.cut-in-None.ensures.back at c.port_in_front.ensures.behind ∙ behind_rows c.args.text.now
