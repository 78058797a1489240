use Rattle.std.proofs.Common.{ap, ◌∙◌, length, arith}
use Rattle.dns_zone.specs.Zones.{record_of}
use Rattle.dns_zone.specs.Authorities.{is_of}
use Rattle.dns_zone.proofs.Additions.{filled, whole}
use Rattle.dns_zone.proofs.reply.push_records.Goals as goal

pub returns-then-len-eq-ANSWER_LIMIT : goal.returns-then-len-eq-ANSWER_LIMIT
returns-then-len-eq-ANSWER_LIMIT c =
    let l = c.loop-entry in
    l.invariant.are ∙ filled (is_of c.args.type_number) (record_of c.args.owner.now) c.args.records.now.items c.args.entries.now
    l.entry-index
    (omega (arith, ap length l.invariant.are))

pub returns : goal.returns
returns c =
    let l = c.loop-entry in
    l.invariant.are ∙ whole (is_of c.args.type_number) (record_of c.args.owner.now) c.args.records.now.items c.args.entries.now
    l.entry-index
    (omega arith) (omega (arith, l.invariant.few, ap length l.invariant.are))
