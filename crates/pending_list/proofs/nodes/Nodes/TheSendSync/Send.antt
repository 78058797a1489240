use denote.RattleType.{RattleType}
use denote.Param.Send.{IsSend}
use Rattle.pending_list.proofs.Crosses.{Nodes-send}
use Rattle.pending_list.specs.contracts.nodes.Nodes.{the_row}

pub send : (E : RattleType) → IsSend E → IsSend (the_row E)
send = Nodes-send
