use Rattle.std.proofs.Common.{◌∙◌}
use Rattle.sip_selection.proofs.Slots.{held}
use Rattle.sip_selection.proofs.caps.Caps.offers.Goals as goal

pub returns : goal.returns
returns c = rw (← c.self.view_is) (c.is_held.ensures ∙ held c.self.inside.slots c.args.transport)
