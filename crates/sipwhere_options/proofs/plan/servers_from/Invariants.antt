use Rattle.std.proofs.Common.{◌≡◌, take}
use Rattle.sipwhere_options.specs.Servers.{servers_from}
use Rattle.sipwhere_options.proofs.plan.servers_from.Given as goal

abbrev pub invariant-servers : goal.invariant-servers
invariant-servers l = l.kept.items ≡ servers_from l.local (take l.server-index l.servers)
