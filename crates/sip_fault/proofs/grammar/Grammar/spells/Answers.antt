use Rattle.sip_fault.proofs.Spelled.{ok_iff}
use Rattle.sip_fault.proofs.grammar.Grammar.spells.Goals as goal
use Rattle.sip_uri.specs.Uris.{UriText}
use Rattle.sip_uri.specs.Vias.{ViaText}
use Rattle.sip_uri.specs.Views.{uri_of, via_of}

pub returns-in-Uri : goal.returns-in-Uri
returns-in-Uri c =
    rw (c.in-Uri.is, c.is_ok.ensures.value)
    (ok_iff (UriText c.args.octets.now) uri_of c.view_uri.result c.view_uri.ensures.found c.view_uri.ensures.seen)

pub returns-in-Via : goal.returns-in-Via
returns-in-Via c =
    rw (c.in-Via.is, c.is_ok-in-Via.ensures.value)
    (ok_iff (ViaText c.args.octets.now) via_of c.view_via.result c.view_via.ensures.found c.view_via.ensures.seen)
