use Rattle.std.proofs.Common.{ℕ, ◌+◌, ◌-◌, arith}
use Rattle.dns_name.specs.Offsets.{OctetAt}
use Rattle.dns_name.proofs.PlainRuns.{plain_name}
use Rattle.dns_name.proofs.message.read_plain_run.Goals as goal

pub returns-clause-name : goal.returns-clause-name
returns-clause-name c =
    let start = c.args.start in
    let end = c.behind_labels-end.result in
    let count : ℕ = end + 1 - start in
    let last = c.min.ensures in
    let within = c.behind_labels-end.ensures.within (omega (arith, last, c.if-start-limit.false)) in
    let here : OctetAt c.args.bytes.now end 0 = record { within = omega (arith, c.if-end-limit.false); is = c.if-bytes-end-ne0.false } in
    plain_name c.args.bytes.now c.args.octets.now c.put_small.new.octets start end count c.behind_labels-end.ensures.labels here
    (omega (arith, last, within)) c.requires.zeros c.put_small.ensures (omega (arith, c.behind_labels-end.ensures.forward))
