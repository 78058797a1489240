-- A text spells a Via exactly where its reader reads that Via.
use Rattle.std.proofs.Common.{◌≡◌, ℕ, ◌≤◌, List, ◌++◌, length, Option, Some, None, Result, Ok, Err, ◌⊎◌, inl, inr, refl, sym, ap, ◌∙◌, arith}
use Rattle.std.specs.Option.{option_map, ok_or}
use Rattle.std.proofs.lemmas.Bool.Decides.{nat_tests}
use Rattle.sip_uri.specs.Hosts.{HostText}
use Rattle.sip_uri.specs.Views.{via_of}
use Rattle.sip_uri.specs.Transports.{spoken_of}
use Rattle.sip_uri.specs.Readers.Uris.{port_number}
use Rattle.sip_uri.specs.Readers.ViaRoutes.{ParamsOf}
use Rattle.sip_uri.specs.ViaClasses.{is_blank, is_in_port, row, behind_row}
use Rattle.sip_uri.specs.Readers.Vias.{behind_mark}
use Rattle.sip_uri.specs.Readers.ViaFronts.{behind_protocol, via_host, port_in, via_port, via_parts}
use Rattle.sip_uri.specs.Vias.{ViaParams, ViaText, HasProtocol}
use Rattle.sip_uri.specs.declared.host.Host.{Host}
use Rattle.sip_uri.specs.declared.via.Via.{Via}
use Rattle.sip_uri.specs.declared.via_parts.ViaParts.{ViaParts}
use Rattle.sip_uri.specs.declared.refusal.UriRefusal.{UriRefusal}
use Rattle.sip_uri.specs.declared.refusal.UriRefusal.TheVariants.{BadVia, BadHost, BadPort}
use Rattle.ip_text.proofs.Lists.{same_Ok}
use Rattle.sip_uri.proofs.HostOctets.{is_host_octet}
use Rattle.sip_uri.proofs.HostTexts.{host_octets}
use Rattle.sip_uri.proofs.UriPieces.{bind_of, from_ok_or}
use Rattle.sip_uri.proofs.Faults.{IsOfOctets, IsLater, OfLater, of_octets, then_later, or_later, either_of, or_fault}
use Rattle.sip_uri.proofs.ViaRows.{Ends, begins_apart}
use Rattle.sip_uri.proofs.ViaSteps.{follows}
use Rattle.sip_uri.proofs.ViaPieces.{protocol_read, protocol_again, protocol_found}
use Rattle.sip_uri.proofs.ViaPlaces.{via_host_read, via_host_again, some_in_host, via_port_read, via_port_again, port_follows}

-- ---- what is read is spelled

spelled : (text transport after further rest : List ℕ) (h : Host) (port : Option ℕ) (via : Via) → length text ≤ 1024
    → behind_protocol text ≡ Some (transport, after) → via_host after ≡ Some (h, further) → via_port further ≡ Ok (port, rest)
    → ViaParams rest
    → record { transport = spoken_of transport; host = h; port = port } ≡ via → ViaText text via
spelled text transport after further rest h port via short one two three params same =
    let p = protocol_read text transport after one in
    let host = via_host_read after h further two in
    let written = via_port_read further port rest three in
    rw (← same) (record {
      protocol = p.protocol;
      transport = transport;
      host = host.host;
      port = written.written;
      params = rest;
      joined = p.text_is ∙ ap (λ (t : List ℕ). p.protocol ++ t) (host.text_is ∙ ap (λ (t : List ℕ). host.host ++ t) written.text_is);
      short = short;
      is_protocol = p.is;
      is_transport = refl;
      is_host = host.is;
      is_port = written.is;
      are_params = params;
    })

params_at : (a b : List ℕ) → b ≡ a → ViaParams a → ViaParams b
params_at a b e is = rw e is

pub via_read : (text : List ℕ) (via : Via) (rest : List ℕ) → length text ≤ 1024 → via_parts text ≡ Ok (via, rest) → ViaParams rest
    → ViaText text via
unfolding via_parts
via_read text via rest short e params =
    let protocol = bind_of _ (ok_or (behind_protocol text) BadVia) (via, rest) e in
    let host = bind_of _ (ok_or (via_host protocol.0.1) BadHost) (via, rest) protocol.2 in
    let port = bind_of _ (via_port host.0.1) (via, rest) host.2 in
    let same = same_Ok _ (via, rest) port.2 in
    spelled text protocol.0.0 protocol.0.1 host.0.1 port.0.1 host.0.0 port.0.0 via short
    (from_ok_or (behind_protocol text) BadVia protocol.0 protocol.1)
    (from_ok_or (via_host protocol.0.1) BadHost host.0 host.1)
    port.1
    (params_at rest port.0.1 (ap (λ (p : Via × List ℕ). p.1) same) params)
    (ap (λ (p : Via × List ℕ). p.0) same)

-- ---- what is spelled is read

host_starts : (text rest : List ℕ) (h : Host) → HostText text h → Ends is_blank (text ++ rest)
unfolding is_host_octet
host_starts text rest h is =
    begins_apart is_host_octet is_blank (λ x e. grind (arith, nat_tests, e)) text rest (some_in_host text h is) (host_octets text h is)

pub via_again : (text : List ℕ) (via : Via) (is : ViaText text via) → via_parts text ≡ Ok (via, is.params)
unfolding via_parts
via_again text via is =
    let f = follows is.params is.are_params.keys is.are_params.are in
    let further : List ℕ = is.port ++ is.params in
    let after : List ℕ = is.host ++ further in
    let one = protocol_again is.protocol is.transport after is.is_protocol (host_starts is.host further via.host is.is_host) in
    let two = via_host_again is.host via.host further is.is_host (port_follows is.port via.port is.params is.is_port f) in
    let three = via_port_again is.port via.port is.params is.is_port f in
    let spoken : spoken_of is.transport ≡ via.transport = sym is.is_transport in
    ap via_parts is.joined ∙ rw one (rw two (rw three (rw spoken refl)))

fault_apart : {A : Type 0} (fault : UriRefusal) (x : A) → ◌≡◌ {A = Result A UriRefusal} (Err fault) (Ok x) → ⊥
fault_apart fault x e = cc

-- ---- its faults, and where its protocol is bad

port_later : (text : List ℕ) (o : Option (List ℕ)) → OfLater (port_in text o)
port_later text None = tt
port_later text (Some digits) =
    or_later (option_map (λ (port : ℕ). (Some port, behind_row is_in_port digits)) (port_number (row is_in_port digits))) BadPort tt

via_port_later : (text : List ℕ) → OfLater (via_port text)
unfolding via_port
via_port_later text = port_later text (behind_mark 58 text)

via_fault : (text : List ℕ) (fault : UriRefusal) → via_parts text ≡ Err fault → (ok_or (behind_protocol text) BadVia ≡ Err fault)
    ⊎ IsLater fault
unfolding via_parts
via_fault text =
    either_of (ok_or (behind_protocol text) BadVia) _ (λ protocol.
    then_later (ok_or (via_host protocol.1) BadHost) _ (or_later (via_host protocol.1) BadHost tt) (λ host.
    then_later (via_port host.1) _ (via_port_later host.1) (λ port. tt)))

pub via_octets : (text : List ℕ) (fault : UriRefusal) → via_parts text ≡ Err fault → IsOfOctets fault
via_octets text fault e =
    elim (via_fault text fault e) [
      | inl front ↦ rw (← or_fault (behind_protocol text) BadVia fault front) tt
      | inr later ↦ of_octets fault later
    ]

pub bad_protocol : (text : List ℕ) → via_parts text ≡ Err BadVia → HasProtocol text → ⊥
bad_protocol text e has =
    elim (via_fault text BadVia e) [
      | inl front ↦ (
          let again = protocol_found has.protocol has.transport has.rest has.is_protocol in
          let found : behind_protocol text ≡ Some (has.transport, behind_row is_blank has.rest) = ap behind_protocol has.joined ∙ again in
          fault_apart BadVia (has.transport, behind_row is_blank has.rest)
          (sym front ∙ ap (λ (o : Option (List ℕ × List ℕ)). ok_or o BadVia) found))
      | inr later ↦ later
    ]

protocol_lacks : (text : List ℕ) → (HasProtocol text → ⊥) → (o : Option (List ℕ × List ℕ)) → behind_protocol text ≡ o
    → behind_protocol text ≡ None
protocol_lacks text none None is = is
protocol_lacks text none (Some found) is =
    let read = protocol_read text found.0 found.1 is in
    absurd (none (record { protocol = read.protocol; transport = found.0; rest = found.1; joined = read.text_is; is_protocol = read.is }))

pub bad_protocol_again : (text : List ℕ) → (HasProtocol text → ⊥) → via_parts text ≡ Err BadVia
unfolding via_parts
bad_protocol_again text none = rw (protocol_lacks text none (behind_protocol text) refl) refl

pub protocol_there : (text : List ℕ) (via : Via) (rest : List ℕ) → via_parts text ≡ Ok (via, rest) → HasProtocol text
unfolding via_parts
protocol_there text via rest e =
    let protocol = bind_of _ (ok_or (behind_protocol text) BadVia) (via, rest) e in
    let read = protocol_read text protocol.0.0 protocol.0.1 (from_ok_or (behind_protocol text) BadVia protocol.0 protocol.1) in
    record { protocol = read.protocol; transport = protocol.0.0; rest = protocol.0.1; joined = read.text_is; is_protocol = read.is }

-- ---- what the reader answers

module _ (text : List ℕ) (parts : ViaParts) (rest : List ℕ) (read : via_parts text ≡ Ok (via_of parts, rest)) where
  pub spells_no_more : (via : Via) → ViaText text via → (via_of parts ≡ via) × ViaParams rest
  spells_no_more via is =
      let same = same_Ok (via_of parts, rest) (via, is.params) (sym read ∙ via_again text via is) in
      (ap (λ (p : Via × List ℕ). p.0) same, params_at is.params rest (ap (λ (p : Via × List ℕ). p.1) same) is.are_params)

pub none_spelled : (text : List ℕ) (fault : UriRefusal) → via_parts text ≡ Err fault → (via : Via) → ViaText text via → ⊥
none_spelled text fault e via is = fault_apart fault (via, is.params) (sym e ∙ via_again text via is)

-- the Via that is read has the parameters that follow what its reader read
pub via_and_params_read : (text : List ℕ) (via : Via) (rest : List ℕ) → length text ≤ 1024 → via_parts text ≡ Ok (via, rest)
    → ViaParams rest → ParamsOf text via rest
via_and_params_read text via rest short e params =
    let is = via_read text via rest short e params in
    let same = same_Ok (via, is.params) (via, rest) (sym (via_again text via is) ∙ e) in
    record { is = is; are = ap (λ (p : Via × List ℕ). p.1) same }

pub one_via : (text : List ℕ) (via via' : Via) → ViaText text via → ViaText text via' → via ≡ via'
one_via text via via' is is' =
    let same = same_Ok (via, is.params) (via', is'.params) (sym (via_again text via is) ∙ via_again text via' is') in
    ap (λ (p : Via × List ℕ). p.0) same
