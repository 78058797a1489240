use Rattle.std.proofs.Common.{inl, refl}
use Rattle.wokhleas.specs.declared.status.Status.TheVariants.{Argument}
use Rattle.wokhleas.proofs.lifetime.wokhleas_raw_open.Goals as goal

pub returns-in_default-clause-refused : goal.returns-in_default-clause-refused
returns-in_default-clause-refused c = λ _.
    (Argument, rw c.code.ensures.number refl, inl (refl, λ are. c.in_default.ensures.none are.0))

pub returns-in_default-groups_of-clause-refused : goal.returns-in_default-groups_of-clause-refused
returns-in_default-groups_of-clause-refused c = λ _.
    (Argument, rw c.code-in_default-groups_of.ensures.number refl, inl (refl, λ are. c.in_default-groups_of.ensures.none are.1))
