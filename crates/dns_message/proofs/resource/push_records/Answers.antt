use Rattle.std.proofs.lemmas.Result.{err_from_is_err_and}
use Rattle.dns_message.specs.Fits.{RecordFits}
use Rattle.dns_message.specs.Written.{record_octets}
use Rattle.dns_message.proofs.WrittenOctets.{octets-next, all-next, too_long-item}
use Rattle.dns_message.proofs.resource.push_records.Goals as goal

pub loop-entry-preserved : goal.loop-entry-preserved
loop-entry-preserved c =
    let l = c.loop-entry in
    let pushed = c.in_ok-push_record.ensures in
    record {
      so_far = octets-next record_octets c.args.out.now.items l.out.items c.push_record.new.out.items c.args.records.now l.entry-index
          c.entry-item.result c.loop-entry-test.true c.entry-item.is l.invariant.so_far pushed.ok;
      fit = all-next RecordFits c.args.records.now l.entry-index c.entry-item.result c.loop-entry-test.true c.entry-item.is l.invariant.fit
          pushed.fits;
    }

pub returns-in_err-push_record-clause-too_long : goal.returns-in_err-push_record-clause-too_long
returns-in_err-push_record-clause-too_long c =
    let l = c.loop-entry in
    rw (err_from_is_err_and c.from_residual.result c.from_residual.ensures.1).1
    (too_long-item record_octets c.args.out.now.items l.out.items c.args.records.now l.entry-index c.entry-item.result
    c.loop-entry-test.true c.entry-item.is l.invariant.so_far c.in_err-push_record.ensures.too_long)
