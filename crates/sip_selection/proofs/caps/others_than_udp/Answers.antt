use Rattle.std.proofs.Common.{◌<◌, ◌∙◌, length, take, sym, arith}
use Rattle.std.proofs.lemmas.List.{append-nil, length-set, take_more_set}
use Rattle.sip_selection.proofs.Slots.{others-next}
use Rattle.sip_selection.proofs.caps.others_than_udp.Goals as goal
use Rattle.sip_selection.proofs.caps.others_than_udp.Goals.{in-Some, in-None}

pub slots-preserved : goal.slots-preserved
slots-preserved c =
    let so-far = c.slots.invariant in
    let few = so-far.few in
    let four = so-far.four in
    let all = c.requires in
    let inside : c.slots.slot-index < length c.args.slots.now = c.slots-test.true in
    let next = others-next c.args.slots.now c.slots.slot-index c.other_than_udp.result c.slots.others c.slots.count
    inside c.other_than_udp.ensures so-far.are in
    elim c.match-other_than_udp.branch [
      | in-Some w ↦ let room : c.slots.count < length c.slots.others = omega (arith, few, four, all, inside) in
          let here = rw w.in-Some.is at next in
          rw (w.others-is, w.count-is) (record {
            four = length-set c.slots.others c.slots.count w.in-Some.transport ∙ four;
            few = omega (arith, few);
            are = take_more_set c.slots.others c.slots.count w.in-Some.transport room ∙ here;
          })
      | in-None w ↦ let here = append-nil (take c.slots.count c.slots.others) in
          rw (w.others-is, w.count-is) (record {
            four = four;
            few = omega (arith, few);
            are = sym here ∙ rw w.in-None.is at next;
          })
    ]
