use Rattle.std.proofs.Common.{inl, inr, refl}
use Rattle.wokhleas.specs.declared.status.Status.TheVariants.{Argument, Room}
use Rattle.wokhleas.proofs.Refusing.{late-by, moment-by}
use Rattle.wokhleas.proofs.wire.wokhleas_raw_transmit.Goals as goal

pub returns-in_default-clause-refused : goal.returns-in_default-clause-refused
returns-in_default-clause-refused c = λ _.
    let late = c.in_default.ensures.none.0 refl in
    (Argument, rw c.code.ensures.number refl, inl (refl, late-by c.args.milliseconds late))

pub returns-then-octets-lt-QUERY_ROOM-clause-refused : goal.returns-then-octets-lt-QUERY_ROOM-clause-refused
returns-then-octets-lt-QUERY_ROOM-clause-refused c = λ _.
    let moment = moment-by c.args.milliseconds (λ late. let wrong = c.in-Some.ensures.none.1 late in absurd cc) in (
      Room,
      rw c.code-then-octets-lt-QUERY_ROOM.ensures.number refl,
      inr (inl (refl, moment, c.if-octets-lt-QUERY_ROOM.true)),
    )
