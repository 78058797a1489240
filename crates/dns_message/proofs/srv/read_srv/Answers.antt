use Rattle.std.proofs.Common.{ap, ◌∙◌}
use Rattle.std.proofs.lemmas.Result.{err_from_is_err_and}
use Rattle.dns_message.specs.Layouts.{SrvAt}
use Rattle.dns_message.specs.Refusals.{refusal_of_name}
use Rattle.dns_message.specs.declared.srv.SrvRecord.{SrvRecord}
use Rattle.dns_message.proofs.Layouts.{one_srv}
use Rattle.dns_message.proofs.srv.read_srv.Goals as goal
use Rattle.dns_message.proofs.srv.read_srv.Goals.{In_ok-end}

abbrev server_read : In_ok-end → SrvRecord
server_read c =
    let numbers = c.in_ok-numbers.numbers in
    record {
      priority = numbers.priority;
      weight = numbers.weight;
      port = numbers.port;
      target =
          c.read_name_into_by.new.name;
    }

-- what was read stands there
this : (c : In_ok-end) → SrvAt c.args.bytes.now c.args.offset (server_read c) c.in_ok-end.end
this c =
    let numbers = rw c.in_ok-numbers.ensures.ok_part at c.numbers_at.ensures in
    record {
      priority = numbers.0;
      weight = numbers.1;
      port = numbers.2;
      target = c.in_ok-end.ensures.found;
    }

pub returns-clause-found : goal.returns-clause-found
returns-clause-found c = this c

pub returns-clause-read : goal.returns-clause-read
returns-clause-read c = λ server end there.
    one_srv c.law_one_name_at_an_offset.ensures c.args.bytes.now c.args.offset c.in_ok-end.end end (server_read c) server (this c) there

pub returns-in_err-end-clause-read : goal.returns-in_err-end-clause-read
returns-in_err-end-clause-read c = λ server end there.
    let p = err_from_is_err_and c.from_residual-in_err-end.result c.from_residual-in_err-end.ensures.1 in
    rw p.1 (p.2 ∙ ap refusal_of_name (c.in_err-end.ensures.read server.target end there.target))
