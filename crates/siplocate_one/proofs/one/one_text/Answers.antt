use Rattle.siplocate_one.proofs.one.one_text.Goals as goal

pub returns-in-Ok-clause-located : goal.returns-in-Ok-clause-located
returns-in-Ok-clause-located g c = λ resolution to. rw (← (c.in-Ok.ensures.read resolution to)) c.told.ensures.told

pub returns-in_ok-bad_reply-in-Err-Reply-clause-located : goal.returns-in_ok-bad_reply-in-Err-Reply-clause-located
returns-in_ok-bad_reply-in-Err-Reply-clause-located g c = λ resolution to.
    let said = rw c.in-Err-Reply.field-0-is at c.in-Err-Reply.ensures.read resolution to in
    absurd cc
