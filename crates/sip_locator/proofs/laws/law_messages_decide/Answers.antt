use Rattle.sip_locator.proofs.Faults.{taken-is, refused-is}
use Rattle.sip_locator.proofs.laws.law_messages_decide.Goals as goal

pub returns-clause-taken : goal.returns-clause-taken
returns-clause-taken c = λ question octets it found begins. taken-is c.law_one_message_in_front.ensures question octets it begins found

pub returns-clause-refused : goal.returns-clause-refused
returns-clause-refused c = λ resolution question octets it refusal asked begins.
    refused-is c.law_one_message_in_front.ensures question octets it begins resolution refusal asked
