use Rattle.std.proofs.Common.{ℕ, List, ◌∷◌, length, arith, sym, ap, ◌∙◌}
use Rattle.dns_name.specs.Labels.{small_letters}
use Rattle.dns_name.proofs.Wire.{same_labels}
use Rattle.dns_name.proofs.TextLabels.{IsTextLabel-from_none, IsName-prefixed, first_octets, prefixed_octets}
use Rattle.dns_name.proofs.name.Name.prefixed.Goals as goal

pub finish-requires : goal.finish-requires
finish-requires c =
    let service : List ℕ = c.args.service.now in
    let proto : List ℕ = c.args.proto.now in
    let is = IsTextLabel-from_none service (rw c.as_bytes-service.ensures.value at (sym c.in_ok-check_label.ensures)) in
    let is' = IsTextLabel-from_none proto (rw c.as_bytes-proto.ensures.value at (sym c.in_ok-check_label-2.ensures)) in
    let one = first_octets service proto c.args.self.now c.new-builder.result.octets.items c.push.new.self.octets.items
    c.as_bytes-service.result.now c.new-builder.ensures c.as_bytes-service.ensures.value c.push.ensures in
    let two = rw c.as_bytes-proto.ensures.value at c.push-2.ensures in
    let others = c.wire-others.ensures in (
      small_letters service ∷ small_letters proto ∷ c.args.self.now,
      IsName-prefixed service proto c.args.self.now is is' others.name (omega (arith, ap length others.value)),
      rw others.value
          (prefixed_octets service proto c.args.self.now c.push.new.self.octets.items c.push-2.new.self.octets.items one two),
    )

pub returns-clause-named : goal.returns-clause-named
returns-clause-named c =
    let service : List ℕ = c.args.service.now in
    let proto : List ℕ = c.args.proto.now in
    let one = first_octets service proto c.args.self.now c.new-builder.result.octets.items c.push.new.self.octets.items
    c.as_bytes-service.result.now c.new-builder.ensures c.as_bytes-service.ensures.value c.push.ensures in
    let two = rw c.as_bytes-proto.ensures.value at c.push-2.ensures in
    let spelled = prefixed_octets service proto c.args.self.now c.push.new.self.octets.items c.push-2.new.self.octets.items one two in
    same_labels c.in_ok-finish.field-0 (small_letters service ∷ small_letters proto ∷ c.args.self.now)
    (c.in_ok-finish.ensures ∙ rw c.wire-others.ensures.value spelled)
