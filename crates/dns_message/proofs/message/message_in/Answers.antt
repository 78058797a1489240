use Rattle.std.proofs.Common.{Err, ap}
use Rattle.dns_message.proofs.message.message_in.Goals as goal

pub returns-in-Err-Malformed-clause-read : goal.returns-in-Err-Malformed-clause-read
returns-in-Err-Malformed-clause-read c it begins =
    c.in-Err-Malformed.ensures.malformed c.in-Err-Malformed.field-0-0 (ap Err c.in-Err-Malformed.field-0-is) begins.end it begins.spelled
