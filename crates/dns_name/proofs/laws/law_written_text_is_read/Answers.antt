use Rattle.dns_name.proofs.TextNames.{TextOf-written}
use Rattle.dns_name.proofs.laws.law_written_text_is_read.Goals as goal

pub returns : goal.returns
returns c = λ name is plain. TextOf-written name is plain
