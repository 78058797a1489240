use Rattle.std.proofs.Common.{◌∙◌, sym}
use Rattle.ip_text.proofs.V4Fronts.{numbers_are}
use Rattle.ip_text.proofs.ipv4.ipv4.Goals as goal

pub returns-in_err-first : goal.returns-in_err-first
returns-in_err-first c = rw c.from_residual.ensures (rw (sym c.in_err-first.ensures) at (numbers_are c.args.text.now))

pub returns-in_err-second : goal.returns-in_err-second
returns-in_err-second c =
    rw c.from_residual-in_err-second.ensures (rw (sym c.in_ok-first.ensures, sym c.in_err-second.ensures) at (numbers_are c.args.text.now))

pub returns-in_err-third : goal.returns-in_err-third
returns-in_err-third c =
    rw c.from_residual-in_err-third.ensures
    (rw (sym c.in_ok-first.ensures, sym c.in_ok-second.ensures, sym c.in_err-third.ensures) at (numbers_are c.args.text.now))

pub returns-in_err-fourth : goal.returns-in_err-fourth
returns-in_err-fourth c =
    rw c.from_residual-in_err-fourth.ensures
    (rw (sym c.in_ok-first.ensures, sym c.in_ok-second.ensures, sym c.in_ok-third.ensures, sym c.in_err-fourth.ensures) at
    (numbers_are c.args.text.now))

pub returns-then-not-is_empty : goal.returns-then-not-is_empty
returns-then-not-is_empty c =
    rw (
      sym c.in_ok-first.ensures,
      sym c.in_ok-second.ensures,
      sym c.in_ok-third.ensures,
      sym c.in_ok-fourth.ensures,
      sym c.is_empty.ensures ∙ c.if-not-is_empty.true,
    ) at (numbers_are c.args.text.now)

pub returns : goal.returns
returns c =
    rw (
      sym c.in_ok-first.ensures,
      sym c.in_ok-second.ensures,
      sym c.in_ok-third.ensures,
      sym c.in_ok-fourth.ensures,
      sym c.is_empty.ensures ∙ c.if-not-is_empty.false,
    ) at (numbers_are c.args.text.now)
