use Rattle.std.proofs.Common.{◌≡◌, ℕ, List, Ok, Err, sym, ap, ◌∙◌, arith}
use Rattle.std.proofs.lemmas.Result.{err_from_is_err_and}
use Rattle.sip_uri.specs.Readers.ViaFronts.{via_parts}
use Rattle.sip_uri.specs.Views.{via_of}
use Rattle.sip_uri.specs.declared.refusal.UriRefusal.{UriRefusal}
use Rattle.sip_uri.specs.declared.refusal.UriRefusal.TheVariants.{TooLong, BadVia, Memory}
use Rattle.sip_uri.specs.declared.via.Via.{Via}
use Rattle.sip_uri.proofs.Faults.{IsOfOctets, IsLater, param_later, handed_on, handed_is, same_Err}
use Rattle.sip_uri.proofs.UriViews.{host_seen}
use Rattle.sip_uri.proofs.ViaTexts.{none_spelled, via_octets, via_and_params_read, bad_protocol, bad_protocol_again, protocol_there, spells_no_more}
use Rattle.sip_uri.proofs.via_text.via_and_params.Goals as goal
use Rattle.sip_uri.proofs.via_text.via_and_params.Goals.{In_err-parts, In_ok-parts}

refused : (c : In_err-parts) → via_parts c.args.octets.now ≡ Err c.in_err-parts.field-0.0
refused c = sym c.in_err-parts.ensures.value

pub returns-in_err-parts-clause-seen : goal.returns-in_err-parts-clause-seen
returns-in_err-parts-clause-seen c = λ via is.
    absurd (none_spelled c.args.octets.now c.in_err-parts.field-0.0
    (refused (goal.at.returns-in_err-parts-clause-seen c).In_err-parts) via is)

fault_of : (c : In_err-parts) → IsOfOctets c.in_err-parts.field-0.0
fault_of c = via_octets c.args.octets.now c.in_err-parts.field-0.0 (refused c)

pub returns-in_err-parts-clause-memory : goal.returns-in_err-parts-clause-memory
returns-in_err-parts-clause-memory c = λ wanted.
    let e = err_from_is_err_and c.from_residual.result c.from_residual.ensures.1 in
    handed_on IsOfOctets c.from_residual.result e.0 c.in_err-parts.field-0.0 Memory e.1 e.2
    (fault_of (goal.at.returns-in_err-parts-clause-memory c).In_err-parts) (λ no. no) wanted

pub returns-in_err-parts-clause-long : goal.returns-in_err-parts-clause-long
returns-in_err-parts-clause-long c =
    let e = err_from_is_err_and c.from_residual.result c.from_residual.ensures.1 in (
      λ long. absurd
          (handed_on IsOfOctets c.from_residual.result e.0 c.in_err-parts.field-0.0 TooLong e.1 e.2
          (fault_of (goal.at.returns-in_err-parts-clause-long c).In_err-parts) (λ no. no) long),
      λ more. absurd (omega (arith, more, c.if-octets-gt-TEXT_LIMIT.false)),
    )

pub returns-in_err-parts-clause-protocol : goal.returns-in_err-parts-clause-protocol
returns-in_err-parts-clause-protocol c =
    let e = err_from_is_err_and c.from_residual.result c.from_residual.ensures.1 in
    let is = refused (goal.at.returns-in_err-parts-clause-protocol c).In_err-parts in (
      λ bad. (
        c.if-octets-gt-TEXT_LIMIT.false,
        bad_protocol c.args.octets.now
            (is ∙ ap (λ (x : UriRefusal). Err x) (handed_is c.from_residual.result e.0 c.in_err-parts.field-0.0 BadVia e.1 e.2 bad)),
      ),
      λ none. (
          let again = bad_protocol_again c.args.octets.now none.1 in
          let same : c.in_err-parts.field-0.0 ≡ BadVia = same_Err {A = Via × List ℕ} c.in_err-parts.field-0.0 BadVia (sym is ∙ again) in
          e.1 ∙ ap (λ (x : UriRefusal). Err x) (e.2 ∙ same)),
    )

parsed : (c : In_ok-parts) → via_parts c.args.octets.now ≡ Ok (via_of c.in_ok-parts.parts, c.in_ok-parts.params.now)
parsed c = sym c.in_ok-parts.ensures.value

pub returns-in_err-check_via_params-clause-seen : goal.returns-in_err-check_via_params-clause-seen
returns-in_err-check_via_params-clause-seen c = λ via is.
    absurd (c.in_err-check_via_params.ensures.err
    (spells_no_more c.args.octets.now c.in_ok-parts.parts c.in_ok-parts.params.now
    (parsed (goal.at.returns-in_err-check_via_params-clause-seen c).In_ok-parts) via is).1)

pub returns-in_err-check_via_params-clause-protocol : goal.returns-in_err-check_via_params-clause-protocol
returns-in_err-check_via_params-clause-protocol c =
    let e = err_from_is_err_and c.from_residual-in_err-check_via_params.result c.from_residual-in_err-check_via_params.ensures.1 in
    let read = parsed (goal.at.returns-in_err-check_via_params-clause-protocol c).In_ok-parts in (
      λ bad. absurd
          (handed_on IsLater c.from_residual-in_err-check_via_params.result e.0 c.in_err-check_via_params.field-0.0 BadVia e.1 e.2
          (param_later c.in_err-check_via_params.field-0.0 c.in_err-check_via_params.ensures.fault) (λ no. no) bad),
      λ none. absurd (none.1 (protocol_there c.args.octets.now (via_of c.in_ok-parts.parts) c.in_ok-parts.params.now read)),
    )

pub returns-clause-found : goal.returns-clause-found
returns-clause-found c =
    via_and_params_read c.args.octets.now (via_of c.in_ok-parts.parts) c.in_ok-parts.params.now c.if-octets-gt-TEXT_LIMIT.false
    (parsed (goal.at.returns-clause-found c).In_ok-parts) c.in_ok-check_via_params.ensures.ok

pub returns-clause-seen : goal.returns-clause-seen
returns-clause-seen c = λ via is.
    (spells_no_more c.args.octets.now c.in_ok-parts.parts c.in_ok-parts.params.now
    (parsed (goal.at.returns-clause-seen c).In_ok-parts) via is).0

pub returns-clause-host : goal.returns-clause-host
returns-clause-host c = host_seen c.in_ok-parts.parts.host c.in_ok-parts.ensures.host

pub returns-clause-protocol : goal.returns-clause-protocol
returns-clause-protocol c =
    let read = parsed (goal.at.returns-clause-protocol c).In_ok-parts in (
      λ bad. absurd cc,
      λ none. absurd (none.1 (protocol_there c.args.octets.now (via_of c.in_ok-parts.parts) c.in_ok-parts.params.now read)),
    )
