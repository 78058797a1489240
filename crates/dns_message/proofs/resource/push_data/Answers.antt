use Rattle.std.proofs.Common.{◌≡◌, ◌-◌, ◌++◌, length, arith, sym, ap, ◌∙◌, length-append}
use Rattle.dns_message.specs.Written.{two_octets, rdata_octets}
use Rattle.dns_message.proofs.WrittenOctets.{length-two_octets}
use Rattle.dns_message.proofs.resource.push_data.Goals as goal

pub returns-clause-ok : goal.returns-clause-ok
returns-clause-ok c =
    let old = c.args.out.now.items in
    let rdata = rdata_octets c.args.rdata.now in
    let written : c.push_rdata.new.out.items ≡ old ++ two_octets 0 ++ rdata =
    c.in_ok-push_rdata.ensures.ok ∙ ap (λ l. l ++ rdata) c.in_ok-push_u16.ensures.ok in
    let size : c.len.result - c.len-offset.result - 2 ≡ length rdata =
    omega (arith, ap length written, length-append (old ++ two_octets 0) rdata, length-append old (two_octets 0), length-two_octets 0) in
    rw (← size) (c.set_u16.ensures old rdata (sym c.len-offset.ensures.value) written)
