use Rattle.std.proofs.Common.{◌≡◌, ◌+◌, ◌-◌, ◌<◌, length, arith}
use Rattle.dns_name.proofs.LabelsFromTheEnd.{begins, dot_written, octet_written, IsPadded-set, IsPadded-wider}
use Rattle.dns_name.proofs.text.put_labels.Goals as goal
use Rattle.dns_name.proofs.text.put_labels.Goals.{then-octet-eq46, else-octet-eq46}

pub loop-at-init : goal.loop-at-init
loop-at-init c = record {
  padded = IsPadded-wider _ _ _ c.requires.zeros (omega arith) c.requires.short;
  written = begins _ _ c.requires.zeros c.requires.short;
}

pub loop-at-preserved : goal.loop-at-preserved
loop-at-preserved c =
    let l = c.loop-at in
    let before : l.at ≡ l.at - 1 + 1 = omega (arith, c.loop-at-test.true) in
    let within : l.at - 1 < length c.args.text.now = omega (arith, l.invariant.written.short, c.loop-at-test.true) in
    let here : l.at < length c.args.text.now + 2 = omega (arith, l.invariant.written.short) in
    let room : l.at < length l.octets = omega (arith, here, c.requires.short, l.invariant.padded.size) in
    elim c.if-octet-eq46.branch [
      | then-octet-eq46 w ↦ rw (w.octets-is, w.length-is) (record {
        padded = IsPadded-set l.octets _ l.at l.length l.invariant.padded here;
        written = dot_written _ l.octets l.at _ l.length before within room l.invariant.written w.if-octet-eq46.true;
      })
      | else-octet-eq46 w ↦ rw (w.octets-is, w.length-is, w.to_ascii_lowercase.ensures.value) (record {
        padded = IsPadded-set l.octets _ l.at _ l.invariant.padded here;
        written = octet_written _ l.octets l.at _ l.length before within room l.invariant.written w.if-octet-eq46.false;
      })
    ]
