use Rattle.std.proofs.Common.{inr}
use Rattle.wokhleas.proofs.requests.why_not_taken.Goals as goal

pub returns-in-Ok-clause-why : goal.returns-in-Ok-clause-why
returns-in-Ok-clause-why c =
    rw c.put.ensures (inr (c.refusal-refusal.result, c.from.ensures, rw c.deref.ensures at c.refusal-refusal.ensures))
