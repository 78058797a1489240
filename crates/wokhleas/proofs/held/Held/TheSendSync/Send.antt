use denote.Param.Send.{IsSend}
use Rattle.wokhleas.proofs.Crossing.{held-send}
use Rattle.wokhleas.specs.contracts.held.Held.{the_row}

pub send : IsSend the_row
send = held-send
