use Rattle.sipwhere.specs.Denials.{IsDenied}
use Rattle.sipwhere.proofs.Denied.{kept-more, kept-set}
use Rattle.sipwhere.proofs.noting_wire.NotingWire.keep.Goals as goal

pub invariant_of-self : goal.invariant_of-self
invariant_of-self g c =
    kept-more (IsDenied g.W.MessageWire.gives) _ _ c.args.name c.self.invariant c.requires c.add.ensures

pub invariant_of-self-else-len-lt-NAME_LIMIT : goal.invariant_of-self-else-len-lt-NAME_LIMIT
invariant_of-self-else-len-lt-NAME_LIMIT g c =
    kept-set (IsDenied g.W.MessageWire.gives) _ _ _ c.args.name c.self.invariant c.requires c.replace.ensures
