use Rattle.std.proofs.Common.{ap, ◌∙◌}
use Rattle.std.proofs.lemmas.Result.{err_from_is_err_and, MatchResult-weaker}
use Rattle.dns_message.specs.declared.rdata.Rdata.TheVariants.{Srv}
use Rattle.dns_message.proofs.rdata.read_server.Goals as goal

pub returns-in_err-found-clause-read : goal.returns-in_err-found-clause-read
returns-in_err-found-clause-read c = λ it there.
    let p = err_from_is_err_and c.from_residual.result c.from_residual.ensures.1 in
    rw p.1 (p.2 ∙ c.in_err-found.ensures.read it c.args.end there)

pub returns-clause-read : goal.returns-clause-read
returns-clause-read c = λ it there.
    let same = c.in_ok-found.ensures.read it c.args.end there in
    MatchResult-weaker c.check_end.result c.check_end.ensures (λ _ _. ap Srv same.0) (λ refusal is. absurd (is.1 same.1))
