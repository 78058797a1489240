use Rattle.sip_ping.proofs.Reading.{unreadable_as}
use Rattle.sip_ping.proofs.messages.front_of.Goals as goal

pub returns-in-Ok-Some : goal.returns-in-Ok-Some
returns-in-Ok-Some c =
    let k = c.behind_empty_lines-octets.ensures in
    c.front_with.ensures c.args.octets.now (record { lines = k.found.0; empty = k.found.1; joined = k.found.2; all = k.all })

pub returns-in-Ok-None : goal.returns-in-Ok-None
returns-in-Ok-None c =
    let k = c.behind_empty_lines-octets.ensures in
    record {
      behind = record { lines = k.found.0; empty = k.found.1; joined = k.found.2; all = k.all };
      none = λ size is.
          let e = c.frame.ensures.found size is in
          let e' = c.in-Ok-None.is in
          let e'' = c.in-Ok-None.field-0-is in
          absurd cc;
    }

pub returns-in-Err : goal.returns-in-Err
returns-in-Err c =
    let k = c.behind_empty_lines-octets.ensures in
    record {
      rest = c.behind_empty_lines-octets.result.now;
      behind = record { lines = k.found.0; empty = k.found.1; joined = k.found.2; all = k.all };
      unreadable = unreadable_as c.in-Err.field-0 c.behind_empty_lines-octets.result.now c.frame.result c.in-Err.is
          (λ e. c.frame.ensures.bad_length.0 e) (λ e. c.frame.ensures.too_long.0 e);
    }
