use denote.Param.Send.{IsSend}
use Rattle.answer_log.specs.contracts.tally.Tally.{the_row}
use Rattle.answer_log.proofs.Trades.{tally_keyless}

pub send : IsSend the_row
send = record {
  owned = λ d vs. ((λ vss. (tt, ((λ uss. (tt, tt)), tt))), tally_keyless d.held d.name d.seat d.count);
  leaving =
      λ k f vs. tt;
}
