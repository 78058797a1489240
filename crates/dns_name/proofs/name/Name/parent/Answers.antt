use Rattle.std.proofs.lemmas.List.{append-nil}
use Rattle.std.proofs.Common.{ap, sym, ◌∙◌, Some}
use Rattle.dns_name.proofs.Wire.{behind_first, same_labels}
use Rattle.dns_name.proofs.name.Name.parent.Goals as goal

pub from_wire-requires : goal.from_wire-requires
from_wire-requires c =
    let parent = behind_first c.args.self.now c.wire.result.now c.in-Some.others.now c.wire.ensures.name c.wire.ensures.value
    (λ root. let none = c.in-Some.ensures.none root in absurd cc)
    (λ label labels is spelled. (c.in-Some.ensures.some label labels is spelled).1) in
    (parent.labels, parent.name', c.in_ok-octets.ensures ∙ append-nil c.in-Some.others.now ∙ parent.octets)

pub returns-clause-value : goal.returns-clause-value
returns-clause-value c =
    let parent = behind_first c.args.self.now c.wire.result.now c.in-Some.others.now c.wire.ensures.name c.wire.ensures.value
    (λ root. let none = c.in-Some.ensures.none root in absurd cc)
    (λ label labels is spelled. (c.in-Some.ensures.some label labels is spelled).1) in
    let spelled = c.from_wire.ensures ∙ c.in_ok-octets.ensures ∙ append-nil c.in-Some.others.now ∙ parent.octets in
    let labels = same_labels c.from_wire.result parent.labels spelled in
    ap Some labels ∙ sym parent.is
