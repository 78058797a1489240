use Rattle.std.proofs.Common.{◌≡◌, [], arith, refl, ap, ◌∙◌}
use Rattle.std.proofs.lemmas.Result.{err_from_is_err_and}
use Rattle.dns_name.specs.Labels.{IsName, labels_of}
use Rattle.dns_name.proofs.Runs.{one_reading, IsName-at}
use Rattle.dns_name.proofs.Wire.{IsWire-from_name, labels_of-wire_of}
use Rattle.dns_name.proofs.message.read_name_into_by.Goals as goal
use Rattle.dns_name.proofs.message.read_name_into_by.Goals.{In-Some}

-- ---- the name is one of at most 31 octets

read : (c : In-Some) → labels_of c.read_short_over.new.octets ≡ c.in-Some.ensures.some.0
read c =
    let here = c.in-Some.ensures.some in
    ap labels_of here.2 ∙ labels_of-wire_of here.0 (IsName-at c.args.bytes.now here.1).each

pub invariant_of-name : goal.invariant_of-name
invariant_of-name c =
    let here = c.in-Some.ensures.some in
    IsWire-from_name c.read_short_over.new.octets here.0 (IsName-at c.args.bytes.now here.1) here.2

pub returns-in-Some-clause-found : goal.returns-in-Some-clause-found
returns-in-Some-clause-found c =
    rw (read (goal.at.returns-in-Some-clause-found c).In-Some) c.in-Some.ensures.some.1

pub returns-in-Some-clause-read : goal.returns-in-Some-clause-read
returns-in-Some-clause-read c = λ labels end there.
    let same = one_reading c.args.bytes.now c.in-Some.ensures.some.1.labels there.labels in
    (read (goal.at.returns-in-Some-clause-read c).In-Some ∙ same.0, same.1)

-- ---- another name, or none

root : IsName []
root = record { each = tt; short = omega arith }

pub invariant_of-name-in_err-found : goal.invariant_of-name-in_err-found
invariant_of-name-in_err-found c =
    IsWire-from_name c.read_short_over.new.octets [] root (c.in_default.ensures.none refl)

pub returns-in_err-found-clause-refused : goal.returns-in_err-found-clause-refused
returns-in_err-found-clause-refused c =
    let p = err_from_is_err_and c.from_residual.result c.from_residual.ensures.1 in
    rw p.1 (ap labels_of (c.in_default.ensures.none refl) ∙ labels_of-wire_of [] root.each)
