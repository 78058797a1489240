use Rattle.std.proofs.Common.{◌≤◌, length, arith, length-append}
use Rattle.dns_message.specs.Written.{plain}
use Rattle.dns_message.proofs.WrittenMessages.{plain_spells-front}
use Rattle.dns_message.proofs.laws.law_written_message_is_read.Goals as goal

pub returns : goal.returns
returns c = λ message back fits short.
    let within : length (plain message) ≤ 65535 = omega (arith, short, length-append (plain message) back) in
    plain_spells-front c.law_written_name_is_read.ensures message back fits within
