use Rattle.try_states.proofs.lossy.add_all.Goals as goal

pub returns-in_err-add : goal.returns-in_err-add
returns-in_err-add g c = λ seat stood. c.add.ensures seat (c.all.invariant seat stood)

pub all-preserved : goal.all-preserved
all-preserved g c = λ seat stood. c.add.ensures seat (c.all.invariant seat stood)
