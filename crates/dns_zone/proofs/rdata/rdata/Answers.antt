use Rattle.std.proofs.Common.{ap}
use Rattle.std.proofs.lemmas.Result.{err_from_is_err_and}
use Rattle.dns_message.specs.declared.rdata.Rdata.TheVariants.{Cname, Srv, Naptr, Soa}
use Rattle.dns_zone.specs.Views.{texts}
use Rattle.dns_zone.proofs.DataKinds.{a_data, aaaa_data, cname_data, srv_data, naptr_data, soa_data}
use Rattle.dns_zone.proofs.rdata.rdata.Goals as goal

pub returns-in_err-ipv4-in-A-clause-read : goal.returns-in_err-ipv4-in-A-clause-read
returns-in_err-ipv4-in-A-clause-read c = λ found is.
    let k = a_data (texts c.args.fields.now) found (rw c.in-A.is at is) in
    let read = c.in_err-ipv4-in-A.ensures.read k.0 k.2 in
    absurd cc

pub returns-in_ok-ipv4-in-A-clause-read : goal.returns-in_ok-ipv4-in-A-clause-read
returns-in_ok-ipv4-in-A-clause-read c = λ found is.
    let k = a_data (texts c.args.fields.now) found (rw c.in-A.is at is) in
    let read = c.in_ok-ipv4-in-A.ensures.read k.0 k.2 in
    let same = k.1 in
    cc

pub returns-in_err-ipv6-in-AAAA-clause-read : goal.returns-in_err-ipv6-in-AAAA-clause-read
returns-in_err-ipv6-in-AAAA-clause-read c = λ found is.
    let k = aaaa_data (texts c.args.fields.now) found (rw c.in-AAAA.is at is) in
    let read = c.in_err-ipv6-in-AAAA.ensures.read k.0 k.2 in
    absurd cc

pub returns-in_ok-ipv6-in-AAAA-clause-read : goal.returns-in_ok-ipv6-in-AAAA-clause-read
returns-in_ok-ipv6-in-AAAA-clause-read c = λ found is.
    let k = aaaa_data (texts c.args.fields.now) found (rw c.in-AAAA.is at is) in
    let read = c.in_ok-ipv6-in-AAAA.ensures.read k.0 k.2 in
    let same = k.1 in
    cc

pub returns-in_err-name-in-CNAME-clause-read : goal.returns-in_err-name-in-CNAME-clause-read
returns-in_err-name-in-CNAME-clause-read c = λ found is.
    let k = cname_data (texts c.args.fields.now) found (rw c.in-CNAME.is at is) in
    let r = err_from_is_err_and c.from_residual-in_err-name-in-CNAME.result c.from_residual-in_err-name-in-CNAME.ensures.1 in
    rw (r.1, r.2) (c.in_err-name-in-CNAME.ensures.read k.0 k.2)

pub returns-in_ok-name-in-CNAME-clause-read : goal.returns-in_ok-name-in-CNAME-clause-read
returns-in_ok-name-in-CNAME-clause-read c = λ found is.
    let k = cname_data (texts c.args.fields.now) found (rw c.in-CNAME.is at is) in
    rw k.1 (ap Cname {y = k.0} (c.in_ok-name-in-CNAME.ensures.read k.0 k.2))

pub returns-in_err-srv-in-SRV-clause-read : goal.returns-in_err-srv-in-SRV-clause-read
returns-in_err-srv-in-SRV-clause-read c = λ found is.
    let k = srv_data (texts c.args.fields.now) found (rw c.in-SRV.is at is) in
    let r = err_from_is_err_and c.from_residual-in_err-srv-in-SRV.result c.from_residual-in_err-srv-in-SRV.ensures.1 in
    rw (r.1, r.2) (c.in_err-srv-in-SRV.ensures.read k.0 k.2)

pub returns-in_ok-srv-in-SRV-clause-read : goal.returns-in_ok-srv-in-SRV-clause-read
returns-in_ok-srv-in-SRV-clause-read c = λ found is.
    let k = srv_data (texts c.args.fields.now) found (rw c.in-SRV.is at is) in
    rw k.1 (ap Srv {y = k.0} (c.in_ok-srv-in-SRV.ensures.read k.0 k.2))

pub returns-in_err-naptr-in-NAPTR-clause-read : goal.returns-in_err-naptr-in-NAPTR-clause-read
returns-in_err-naptr-in-NAPTR-clause-read c = λ found is.
    let k = naptr_data (texts c.args.fields.now) found (rw c.in-NAPTR.is at is) in
    let r = err_from_is_err_and c.from_residual-in_err-naptr-in-NAPTR.result c.from_residual-in_err-naptr-in-NAPTR.ensures.1 in
    rw (r.1, r.2) (c.in_err-naptr-in-NAPTR.ensures.read k.0 k.2)

pub returns-in_ok-naptr-in-NAPTR-clause-read : goal.returns-in_ok-naptr-in-NAPTR-clause-read
returns-in_ok-naptr-in-NAPTR-clause-read c = λ found is.
    let k = naptr_data (texts c.args.fields.now) found (rw c.in-NAPTR.is at is) in
    rw k.1 (ap Naptr {y = k.0} (c.in_ok-naptr-in-NAPTR.ensures.read k.0 k.2))

pub returns-in_err-soa-in-SOA-clause-read : goal.returns-in_err-soa-in-SOA-clause-read
returns-in_err-soa-in-SOA-clause-read c = λ found is.
    let k = soa_data (texts c.args.fields.now) found (rw c.in-SOA.is at is) in
    let r = err_from_is_err_and c.from_residual-in_err-soa-in-SOA.result c.from_residual-in_err-soa-in-SOA.ensures.1 in
    rw (r.1, r.2) (c.in_err-soa-in-SOA.ensures.read k.0 k.2)

pub returns-in_ok-soa-in-SOA-clause-read : goal.returns-in_ok-soa-in-SOA-clause-read
returns-in_ok-soa-in-SOA-clause-read c = λ found is.
    let k = soa_data (texts c.args.fields.now) found (rw c.in-SOA.is at is) in
    rw k.1 (ap Soa {y = k.0} (c.in_ok-soa-in-SOA.ensures.read k.0 k.2))
