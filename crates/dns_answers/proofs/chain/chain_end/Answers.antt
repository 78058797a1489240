use Rattle.std.proofs.Common.{[], ◌∷◌, ◌++◌, sym, arith}
use Rattle.std.proofs.lemmas.List.{length_push}
use Rattle.dns_answers.specs.Views.{cname_value}
use Rattle.dns_answers.proofs.Chains.{Leads-push, chain_ends, chain_endless}
use Rattle.dns_answers.proofs.LeastLives.{least_push}
use Rattle.dns_answers.proofs.chain.chain_end.Goals as goal

pub returns-in-None : goal.returns-in-None
returns-in-None c =
    let so_far = c.loop-links.invariant in (
      so_far.0,
      chain_ends c.args.section.now 8 c.args.start.now so_far.0 c.loop-links.name.now so_far.2 (sym c.in-None.ensures) (omega arith),
      so_far.3,
      sym so_far.1,
    )

pub loop-links-preserved : goal.loop-links-preserved
loop-links-preserved c =
    let so_far = c.loop-links.invariant in
    let cname = cname_value c.in-Some.cname in (
      so_far.0 ++ cname.entry ∷ [],
      omega (arith, length_push so_far.0 cname.entry),
      Leads-push c.args.section.now c.args.start.now so_far.0 c.loop-links.name.now cname so_far.2 (sym c.in-Some.ensures),
      rw (c.life_with-life.ensures, so_far.3) (sym (least_push 2147483647 so_far.0 cname.entry)),
    )

pub returns : goal.returns
returns c =
    let so_far = c.loop-links.invariant in
    chain_endless c.args.section.now 8 c.args.start.now so_far.0 c.loop-links.name.now so_far.2 (omega arith)
