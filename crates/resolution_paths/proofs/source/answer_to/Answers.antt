use Rattle.resolution_paths.specs.Sources.{onward}
use Rattle.resolution_paths.proofs.source.answer_to.Goals as goal

pub returns-in_err-found-clause-went : goal.returns-in_err-found-clause-went
returns-in_err-found-clause-went g c = λ start went. onward _ went c.answer.ensures.goes

pub returns-in_err-into_arc-in-Some-clause-went : goal.returns-in_err-into_arc-in-Some-clause-went
returns-in_err-into_arc-in-Some-clause-went g c = λ start went. onward _ went c.answer.ensures.goes

pub returns-in-Some-clause-went : goal.returns-in-Some-clause-went
returns-in-Some-clause-went g c = λ start went. onward _ went c.answer.ensures.goes

pub returns-in-Some-clause-said : goal.returns-in-Some-clause-said
returns-in-Some-clause-said g c = λ start went. record {
  seat = c.answer.new.seat;
  went = onward _ went c.answer.ensures.goes;
  said = rw c.in_ok-into_arc-in-Some.ensures.same (rw (← c.in_ok-try_clone.ensures) (rw c.in-Some.is at c.in_ok-found.ensures.says));
}

pub returns-clause-went : goal.returns-clause-went
returns-clause-went g c = λ start went. onward _ went c.answer.ensures.goes

pub returns-clause-said : goal.returns-clause-said
returns-clause-said g c = λ start went. record {
  seat = c.answer.new.seat;
  went = onward _ went c.answer.ensures.goes;
  said = rw (← c.in_ok-try_clone.ensures) (rw c.in-None.is at c.in_ok-found.ensures.says);
}
