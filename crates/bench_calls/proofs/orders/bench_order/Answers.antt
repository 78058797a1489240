use Rattle.bench_calls.proofs.orders.bench_order.Goals as goal

pub returns : goal.returns
returns c = λ some.
    let it = c.in-Some.ensures in
    (c.as_slice.result.now, c.in-Some.last, it.0, it.1, rw c.in-Ok.ensures.1.same at it.2, c.len-2.ensures)
