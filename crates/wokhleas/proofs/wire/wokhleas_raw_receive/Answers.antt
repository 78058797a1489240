use Rattle.std.proofs.Common.{inl, inr, refl}
use Rattle.wokhleas.specs.declared.status.Status.TheVariants.{Argument}
use Rattle.wokhleas.proofs.Refusing.{late-by}
use Rattle.wokhleas.proofs.wire.wokhleas_raw_receive.Goals as goal

pub returns-in_default-clause-refused : goal.returns-in_default-clause-refused
returns-in_default-clause-refused c = λ _.
    let late = c.in_default.ensures.none.0 refl in
    (Argument, rw c.code.ensures.number refl, inl (refl, inl (late-by c.args.milliseconds late)))

pub returns-in_default-over_of-clause-refused : goal.returns-in_default-over_of-clause-refused
returns-in_default-over_of-clause-refused c = λ _.
    (Argument, rw c.code-in_default-over_of.ensures.number refl, inl (refl, inr c.in_default-over_of.ensures.none))
