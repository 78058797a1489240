use Rattle.siplocate_one.proofs.Books.{taken-fits}
use Rattle.siplocate_one.proofs.talk.Talk.answer.Goals as goal

pub invariant_of-self-2 : goal.invariant_of-self-2
invariant_of-self-2 g c =
    taken-fits _ _ _ _ _ _ c.self.invariant c.in_ok-reply.ensures.stays c.in_ok-reply.field-0 c.in_ok-reply.ensures.taken
