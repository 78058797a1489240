use Rattle.std.proofs.Common.{refl, sym}
use Rattle.sip_locator.proofs.Gaining.{lacks-now}
use Rattle.sip_locator.proofs.locator.locate.Goals as goal

pub returns-in-Targets-clause-located : goal.returns-in-Targets-clause-located
returns-in-Targets-clause-located g c =
    let chosen = c.in_ok-targets.ensures.chosen in
    let is = rw c.in-Targets.is at chosen.2 in (
      chosen.0,
      record { gains = chosen.1; is = sym is; lacks = λ question asked. absurd cc },
      tt,
    )

pub returns-in-Refused-clause-located : goal.returns-in-Refused-clause-located
returns-in-Refused-clause-located g c =
    let chosen = c.in_ok-targets.ensures.chosen in
    let is = rw c.in-Refused.is at chosen.2 in (
      chosen.0,
      record { gains = chosen.1; is = sym is; lacks = λ question asked. absurd cc },
      tt,
    )

pub returns-in-Asks-clause-located : goal.returns-in-Asks-clause-located
returns-in-Asks-clause-located g c =
    let chosen = c.in_ok-targets.ensures.chosen in
    let is = rw c.in-Asks.is at chosen.2 in
    let lacks = rw c.in-Asks.is at c.in_ok-targets.ensures.lacks in (
      chosen.0,
      record {
        gains = chosen.1;
        is = rw is.0 refl;
        lacks = λ question asked. lacks-now (g.B.AnswerBook.shown c.args.seat.now) (g.B.AnswerBook.shown c.choose_at.new.seat) c.args.now
            question c.choose_at.ensures.goes_on (sym (lacks question asked));
      },
      (is.0, (is.1, is.2)),
    )
