use Rattle.std.proofs.Common.{◌+◌, arith}
use Rattle.dns_name.specs.Offsets.{NameAt}
use Rattle.dns_message.proofs.Owners.{name_pointed_to}
use Rattle.dns_message.proofs.owner.read_owner.Goals as goal
use Rattle.dns_message.proofs.owner.read_owner.Goals.{Then-is_pointer_to_asked}

-- the name of the question stands at the offset
this : (c : Then-is_pointer_to_asked) → NameAt c.args.bytes.now c.args.offset c.args.offset c.in-Some.asked.now.name.now (c.args.offset + 2)
this c =
    let asked = rw c.in-Some.is at c.requires.asked in
    name_pointed_to c.law_name_rests_before_its_end.ensures.within c.args.bytes.now c.args.offset c.in-Some.asked.now asked
    (omega (arith, c.if-asked-offset.true)) (c.is_pointer_to_asked.ensures c.if-is_pointer_to_asked.true)

pub returns-clause-found : goal.returns-clause-found
returns-clause-found c = rw c.in_ok-copy_from.ensures.ok (this (goal.at.returns-clause-found c).Then-is_pointer_to_asked)

pub returns-clause-read : goal.returns-clause-read
returns-clause-read c = λ name end there.
    let asked = this (goal.at.returns-clause-read c).Then-is_pointer_to_asked in
    rw c.in_ok-copy_from.ensures.ok
    (c.law_one_name_at_an_offset.ensures c.args.bytes.now c.args.offset c.args.offset (c.args.offset + 2) end
    c.in-Some.asked.now.name.now name asked there)

pub returns-in_err-copy_from-clause-memory : goal.returns-in_err-copy_from-clause-memory
returns-in_err-copy_from-clause-memory c = λ _.
    (c.in-Some.asked.now.name.now, c.args.offset + 2, this (goal.at.returns-in_err-copy_from-clause-memory c).Then-is_pointer_to_asked)
