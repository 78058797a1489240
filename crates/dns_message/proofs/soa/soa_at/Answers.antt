use Rattle.std.proofs.Common.{◌+◌, refl, ap, ◌∙◌}
use Rattle.std.proofs.lemmas.Result.{err_from_is_err_and}
use Rattle.dns_message.specs.Layouts.{SoaAt}
use Rattle.dns_message.specs.Refusals.{refusal_of_name}
use Rattle.dns_message.specs.declared.soa.SoaRecord.{SoaRecord}
use Rattle.dns_message.proofs.Layouts.{one_soa}
use Rattle.dns_message.proofs.soa.soa_at.Goals as goal
use Rattle.dns_message.proofs.soa.soa_at.Goals.{In_ok-numbers}

abbrev start_read : In_ok-numbers → SoaRecord
start_read c =
    let numbers = c.in_ok-numbers.numbers in
    record {
      mname = c.in_ok-mname.mname;
      rname = c.in_ok-rname.rname;
      serial = numbers.serial;
      refresh = numbers.refresh;
      retry = numbers.retry;
      expire = numbers.expire;
      minimum = numbers.minimum;
    }

-- what was read stands there
this : (c : In_ok-numbers) → SoaAt c.args.bytes.now c.args.offset (start_read c) (c.in_ok-rname.offset + 20)
this c =
    let numbers = rw c.in_ok-numbers.ensures.ok_part at c.numbers_at.ensures in
    record {
      rname_start = c.in_ok-mname.offset;
      numbers_start = c.in_ok-rname.offset;
      mname = c.in_ok-mname.ensures.found;
      rname = c.in_ok-rname.ensures.found;
      serial = numbers.0;
      refresh = numbers.1;
      retry = numbers.2;
      expire = numbers.3;
      minimum = numbers.4;
      ends = refl;
    }

pub returns-clause-found : goal.returns-clause-found
returns-clause-found c = this c

pub returns-clause-read : goal.returns-clause-read
returns-clause-read c = λ authority end there.
    one_soa c.law_one_name_at_an_offset.ensures c.args.bytes.now c.args.offset (c.in_ok-rname.offset + 20) end (start_read c) authority
    (this c) there

pub returns-in_err-mname-clause-read : goal.returns-in_err-mname-clause-read
returns-in_err-mname-clause-read c = λ authority end there.
    let p = err_from_is_err_and c.from_residual.result c.from_residual.ensures.1 in
    rw p.1 (p.2 ∙ ap refusal_of_name (c.in_err-mname.ensures.read authority.mname there.rname_start there.mname))

pub returns-in_err-rname-clause-read : goal.returns-in_err-rname-clause-read
returns-in_err-rname-clause-read c = λ authority end there.
    let e0 = c.in_ok-mname.ensures.read authority.mname there.rname_start there.mname in
    let p = err_from_is_err_and c.from_residual-in_err-rname.result c.from_residual-in_err-rname.ensures.1 in
    rw p.1 (p.2 ∙ ap refusal_of_name (c.in_err-rname.ensures.read authority.rname there.numbers_start (rw e0.1 there.rname)))
