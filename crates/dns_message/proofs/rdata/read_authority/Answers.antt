use Rattle.std.proofs.Common.{ap, ◌∙◌}
use Rattle.std.proofs.lemmas.Result.{err_from_is_err_and}
use Rattle.dns_message.specs.declared.rdata.Rdata.TheVariants.{Soa}
use Rattle.dns_message.proofs.rdata.read_authority.Goals as goal

pub returns-in_err-soa_at-clause-read : goal.returns-in_err-soa_at-clause-read
returns-in_err-soa_at-clause-read c = λ it there.
    let p = err_from_is_err_and c.from_residual.result c.from_residual.ensures.1 in
    rw p.1 (p.2 ∙ c.in_err-soa_at.ensures.read it c.args.end there)

pub returns-in_err-authority-clause-read : goal.returns-in_err-authority-clause-read
returns-in_err-authority-clause-read c = λ it there.
    absurd (c.in_err-authority.ensures.1 (c.in_ok-soa_at.ensures.read it c.args.end there).1)

pub returns-clause-read : goal.returns-clause-read
returns-clause-read c = λ it there.
    c.replace_data.ensures ∙ ap Soa (c.in_ok-authority.ensures.0 ∙ (c.in_ok-soa_at.ensures.read it c.args.end there).0)
