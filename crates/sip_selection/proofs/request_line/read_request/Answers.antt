use Rattle.std.proofs.Common.{◌≡◌, Some, refl, ap}
use Rattle.std.proofs.lemmas.Result.{err_from_is_err_and}
use Rattle.sip_uri.specs.Vias.{ViaText}
use Rattle.sip_uri.specs.declared.uri.SipUri.{SipUri}
use Rattle.sip_uri.specs.declared.via.Via.{Via as ViaValue}
use Rattle.sip_selection.specs.declared.request.Request.TheVariants.{Uri, Via}
use Rattle.sip_selection.proofs.Colons.{not_both}
use Rattle.sip_selection.proofs.request_line.read_request.Goals as goal

pub returns-in_err-read_via-in-Some-clause-read : goal.returns-in_err-read_via-in-Some-clause-read
returns-in_err-read_via-in-Some-clause-read c (Uri uri) text =
    absurd (not_both c.args.line.now c.in-Some.rest.now uri text c.in-Some.ensures.begins)
returns-in_err-read_via-in-Some-clause-read c (Via via) text =
    let r = err_from_is_err_and c.from_residual.result c.from_residual.ensures.1 in
    let both : Some c.in-Some.rest.now ≡ Some text.0 = c.in-Some.ensures.all text.0 text.1 in
    let same : text.0 ≡ c.in-Some.rest.now = cc in
    let here : ViaText c.in-Some.rest.now via = rw same at text.2 in
    rw (r.1, r.2, c.in_err-read_via-in-Some.ensures.read via here) refl

pub returns-in_err-read_uri-in-None-clause-read : goal.returns-in_err-read_uri-in-None-clause-read
returns-in_err-read_uri-in-None-clause-read c (Uri uri) text =
    let r = err_from_is_err_and c.from_residual-in_err-read_uri-in-None.result c.from_residual-in_err-read_uri-in-None.ensures.1 in
    rw (r.1, r.2, c.in_err-read_uri-in-None.ensures.read uri text) refl
returns-in_err-read_uri-in-None-clause-read c (Via via) text =
    let no = c.in-None.ensures.all text.0 text.1 in
    absurd cc

pub returns-in_ok-read_via-in-Some-clause-read : goal.returns-in_ok-read_via-in-Some-clause-read
returns-in_ok-read_via-in-Some-clause-read c (Uri uri) text =
    absurd (not_both c.args.line.now c.in-Some.rest.now uri text c.in-Some.ensures.begins)
returns-in_ok-read_via-in-Some-clause-read c (Via via) text =
    let both : Some c.in-Some.rest.now ≡ Some text.0 = c.in-Some.ensures.all text.0 text.1 in
    let same : text.0 ≡ c.in-Some.rest.now = cc in
    let here : ViaText c.in-Some.rest.now via = rw same at text.2 in
    ap (λ (v : ViaValue). Via v) (c.in_ok-read_via-in-Some.ensures.read via here)

pub returns-in_ok-read_uri-in-None-clause-read : goal.returns-in_ok-read_uri-in-None-clause-read
returns-in_ok-read_uri-in-None-clause-read c (Uri uri) text = ap (λ (u : SipUri). Uri u) (c.in_ok-read_uri-in-None.ensures.read uri text)
returns-in_ok-read_uri-in-None-clause-read c (Via via) text =
    let no = c.in-None.ensures.all text.0 text.1 in
    absurd cc

pub returns-in_err-read_via-in-Some-clause-memory : goal.returns-in_err-read_via-in-Some-clause-memory
returns-in_err-read_via-in-Some-clause-memory c = λ refused.
    let r = err_from_is_err_and c.from_residual.result c.from_residual.ensures.1 in
    let spelled = c.in_err-read_via-in-Some.ensures.memory (cc) in
    (Via spelled.0, (c.in-Some.rest.now, c.in-Some.ensures.begins, spelled.1))

pub returns-in_err-read_uri-in-None-clause-memory : goal.returns-in_err-read_uri-in-None-clause-memory
returns-in_err-read_uri-in-None-clause-memory c = λ refused.
    let r = err_from_is_err_and c.from_residual-in_err-read_uri-in-None.result c.from_residual-in_err-read_uri-in-None.ensures.1 in
    let spelled = c.in_err-read_uri-in-None.ensures.memory (cc) in
    (Uri spelled.0, spelled.1)
