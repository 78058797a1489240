use Rattle.std.proofs.Common.{◌≡◌, ◌∙◌, ap, arith}
use Rattle.std.specs.String.{string_bytes}
use Rattle.std.proofs.lemmas.List.{take_all}
use Rattle.std.proofs.lemmas.List.Elements.{All-same}
use Rattle.sip_report.specs.Escapes as spec
use Rattle.sip_report.proofs.Shown.{text_printable}
use Rattle.sip_report.proofs.shown_text.shown_text.Goals as goal

pub returns-clause-printable : goal.returns-clause-printable
returns-clause-printable c =
    let octets = c.as_bytes-octet-items.result.now in
    let all : string_bytes c.loop-octet.shown ≡ spec.shown octets =
    c.loop-octet.invariant ∙ ap spec.shown (take_all c.loop-octet.octet-index octets (omega (arith, c.loop-octet-test.false))) in
    All-same spec.IsPrintable _ _ (all ∙ ap spec.shown c.as_bytes-octet-items.ensures.value)
    (text_printable c.args.text.now (λ i. omega (arith, c.type_inv.text i)))
