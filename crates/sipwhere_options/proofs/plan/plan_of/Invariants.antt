use Rattle.std.proofs.Common.{take}
use Rattle.std.specs.List.{AllZip}
use Rattle.sipwhere_options.specs.Plans.{IsServerAt}
use Rattle.sipwhere_options.proofs.plan.plan_of.Given as goal

abbrev pub invariant-addresses : goal.invariant-addresses
invariant-addresses l = AllZip IsServerAt (take l.address-index l.file.servers) l.servers.items
