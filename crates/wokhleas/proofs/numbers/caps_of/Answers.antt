use Rattle.std.proofs.Common.{length, take}
use Rattle.wokhleas.proofs.Callers.{none-offered}
use Rattle.wokhleas.proofs.numbers.caps_of.Goals as goal

pub returns-clause-none : goal.returns-clause-none
returns-clause-none c =
    none-offered c.new.result c.args.transports.now c.args.families (take (length c.args.transports.now) c.in_ok-list.list)
    c.in_ok-list.ensures.are c.new.ensures.made
