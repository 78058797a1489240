use Rattle.std.proofs.Common.{ap, ◌∙◌}
use Rattle.std.proofs.lemmas.Result.{err_from_is_err_and}
use Rattle.dns_message.specs.Layouts.{NaptrAt}
use Rattle.dns_message.specs.Refusals.{refusal_of_name}
use Rattle.dns_message.specs.declared.naptr.NaptrRecord.{NaptrRecord}
use Rattle.dns_message.proofs.Layouts.{one_naptr}
use Rattle.dns_message.proofs.naptr.read_naptr.Goals as goal
use Rattle.dns_message.proofs.naptr.read_naptr.Goals.{In_ok-end}

abbrev rule_read : In_ok-end → NaptrRecord
rule_read c = record {
  order = c.in_ok-order.order;
  preference = c.in_ok-order.preference;
  flags = c.in_ok-flags.flags;
  services = c.in_ok-services.services;
  regexp = c.in_ok-regexp.regexp;
  replacement = c.read_name_into_by.new.name;
}

-- what was read stands there
this : (c : In_ok-end) → NaptrAt c.args.bytes.now c.args.offset (rule_read c) c.in_ok-end.end
this c =
    let numbers = rw c.in_ok-order.ensures.ok_part at c.two_u16_at.ensures in
    record {
      services_start = c.in_ok-flags.offset;
      regexp_start = c.in_ok-services.offset;
      replacement_start = c.in_ok-regexp.offset;
      order = numbers.0;
      preference = numbers.1;
      flags = c.in_ok-flags.ensures.found;
      services = c.in_ok-services.ensures.found;
      regexp = c.in_ok-regexp.ensures.found;
      replacement = c.in_ok-end.ensures.found;
    }

pub returns-clause-found : goal.returns-clause-found
returns-clause-found c = this c

pub returns-clause-read : goal.returns-clause-read
returns-clause-read c = λ rule end there.
    one_naptr c.law_one_name_at_an_offset.ensures c.args.bytes.now c.args.offset c.in_ok-end.end end (rule_read c) rule (this c)
    there

-- ---- where reading stops, it stops for want of memory

pub returns-in_err-flags-clause-read : goal.returns-in_err-flags-clause-read
returns-in_err-flags-clause-read c = λ rule end there.
    let p = err_from_is_err_and c.from_residual-in_err-flags.result c.from_residual-in_err-flags.ensures.1 in
    rw p.1 (p.2 ∙ c.in_err-flags.ensures.read rule.flags there.services_start there.flags)

pub returns-in_err-services-clause-read : goal.returns-in_err-services-clause-read
returns-in_err-services-clause-read c = λ rule end there.
    let e0 = c.in_ok-flags.ensures.read rule.flags there.services_start there.flags in
    let p = err_from_is_err_and c.from_residual-in_err-services.result c.from_residual-in_err-services.ensures.1 in
    rw p.1 (p.2 ∙ c.in_err-services.ensures.read rule.services there.regexp_start (rw e0.1 there.services))

pub returns-in_err-regexp-clause-read : goal.returns-in_err-regexp-clause-read
returns-in_err-regexp-clause-read c = λ rule end there.
    let e0 = c.in_ok-flags.ensures.read rule.flags there.services_start there.flags in
    let e1 = c.in_ok-services.ensures.read rule.services there.regexp_start (rw e0.1 there.services) in
    let p = err_from_is_err_and c.from_residual-in_err-regexp.result c.from_residual-in_err-regexp.ensures.1 in
    rw p.1 (p.2 ∙ c.in_err-regexp.ensures.read rule.regexp there.replacement_start (rw e1.1 there.regexp))

pub returns-in_err-end-clause-read : goal.returns-in_err-end-clause-read
returns-in_err-end-clause-read c = λ rule end there.
    let e0 = c.in_ok-flags.ensures.read rule.flags there.services_start there.flags in
    let e1 = c.in_ok-services.ensures.read rule.services there.regexp_start (rw e0.1 there.services) in
    let e2 = c.in_ok-regexp.ensures.read rule.regexp there.replacement_start (rw e1.1 there.regexp) in
    let p = err_from_is_err_and c.from_residual-in_err-end.result c.from_residual-in_err-end.ensures.1 in
    rw p.1 (p.2 ∙ ap refusal_of_name (c.in_err-end.ensures.read rule.replacement end (rw e2.1 there.replacement)))
