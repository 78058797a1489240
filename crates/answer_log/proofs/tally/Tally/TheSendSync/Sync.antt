use denote.Param.Send.{IsSend, IsSync, part_keyless}
use Rattle.answer_log.specs.contracts.tally.Tally.{the_row}
use Rattle.answer_log.proofs.Trades.{tally_keyless}

sent : IsSend the_row
sent = record {
  owned = λ d vs. ((λ vss. (tt, ((λ uss. (tt, tt)), tt))), tally_keyless d.held d.name d.seat d.count);
  leaving =
      λ k f vs. tt;
}

pub sync : IsSync the_row
sync = record { shared = λ d b o ν q. part_keyless the_row sent q d b o }
