use Rattle.std.proofs.Common.{inl}
use Rattle.rolling_resolver.proofs.Inside.{younger-same}
use Rattle.rolling_resolver.proofs.Receiving.{ignored-by-younger, older-takes, younger-takes}
use Rattle.rolling_resolver.proofs.Refusing.{wanted-by}
use Rattle.rolling_resolver.proofs.resolver.RollingResolver.receive_both.Goals as goal

pub returns-in-Ignored-clause-receives : goal.returns-in-Ignored-clause-receives
returns-in-Ignored-clause-receives c =
    let learns = rw c.in-Ignored.is at c.in_ok-heard.ensures.learns in
    rw (← c.self.view_is)
    (older-takes c.args.over c.args.octets.now c.args.at.now.second _ c.in-Ignored.why c.receive_older.result c.receive.new.self
    c.receive_older.new.self learns c.receive_older.ensures.receives)

pub returns-in-Ignored-clause-unchanged : goal.returns-in-Ignored-clause-unchanged
returns-in-Ignored-clause-unchanged c =
    let learns = rw c.in-Ignored.is at c.in_ok-heard.ensures.learns in
    rw (← c.self.view_is)
    (ignored-by-younger c.args.over c.args.octets.now c.args.at.now.second _ c.in-Ignored.why c.receive_older.result
    c.receive.new.self c.receive_older.new.self learns c.receive_older.ensures.unchanged)

pub returns-in_default : goal.returns-in_default
returns-in_default c = record {
  receives = rw (← c.self.view_is)
      (younger-takes c.args.over c.args.octets.now c.args.at.now.second _ c.in_ok-heard.heard c.receive.new.self
      c.in_ok-heard.ensures.learns);
  unchanged = tt;
  wanted = tt;
  inside = rw (← c.self.view_is)
      (younger-same (record {
        told = c.self.inside.told;
        current = c.self.inside.current;
        draining = c.self.inside.draining;
      }) c.receive.new.self c.receive.ensures.same);
}

pub returns-in_err-heard-clause-wanted : goal.returns-in_err-heard-clause-wanted
returns-in_err-heard-clause-wanted c =
    wanted-by c.from_residual.result (rw (← c.self.view_is) (inl c.in_err-heard.ensures.wanted))
