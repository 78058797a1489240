use Rattle.dns_name.proofs.Leads.{nowhere_late}
use Rattle.dns_name.proofs.landing.Landings.run_at.Goals as goal

pub returns-then-target-start : goal.returns-then-target-start
returns-then-target-start c = nowhere_late c.args.bytes.now c.args.target c.args.start c.if-target-start.true
