use Rattle.std.proofs.Common.{take, refl, rules, inl, inr}
use Rattle.sip_ping.proofs.Reading.{final_in, passed_in}
use Rattle.sip_ping.proofs.Steps.{heard_other}
use Rattle.sip_ping.proofs.messages.front_with.Goals as goal

pub returns-in-Final : goal.returns-in-Final
returns-in-Final c = λ all behind.
    final_in all c.args.octets.now c.args.size behind c.requires.frame c.args.request.now c.in-Final.status (search rules)

pub returns-in-Provisional : goal.returns-in-Provisional
returns-in-Provisional c = λ all behind.
    passed_in all c.args.octets.now c.args.size behind c.requires.frame c.args.request.now (inl (search rules))

pub returns-in-Other : goal.returns-in-Other
returns-in-Other c = λ all behind.
    passed_in all c.args.octets.now c.args.size behind c.requires.frame c.args.request.now
    (inr (heard_other c.args.request.now (take c.args.size c.args.octets.now) (take c.args.size c.args.octets.now) c.judged.result
    c.in-Other.is refl c.judged.ensures))
