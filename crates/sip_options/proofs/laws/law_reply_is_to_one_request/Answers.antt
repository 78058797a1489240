use Rattle.sip_options.proofs.OneRequest.{one_request}
use Rattle.sip_options.proofs.laws.law_reply_is_to_one_request.Goals as goal

pub returns : goal.returns
returns c = one_request
