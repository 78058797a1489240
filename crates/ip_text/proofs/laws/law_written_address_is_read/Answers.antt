use Rattle.ip_text.proofs.Written.{address_written}
use Rattle.ip_text.proofs.laws.law_written_address_is_read.Goals as goal

pub returns : goal.returns
returns c = address_written
