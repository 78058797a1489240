use Rattle.try_calls.proofs.resolver_calls.leave_book.Goals as goal

pub returns : goal.returns
returns g c = λ _ seat.
    c.restart.ensures.anywhere (rw c.in_default.ensures.taken.1 c.in_default.ensures.taken.0) seat
