use Rattle.std.proofs.Common.{◌<◌, ℕ, [], ap, subst, ◌∙◌, arith}
use Rattle.std.proofs.lemmas.List.{append-nil}
use Rattle.std.specs.List.{All}
use Rattle.answer_cache.proofs.Placing.{prefix-trans}
use Rattle.answer_cache.proofs.Together.{of-four, stores-in}
use Rattle.try_states.proofs.counted.join_all.Goals as goal

pub returns-clause-all : goal.returns-clause-all
returns-clause-all c =
    let cache = c.args.cache.now in
    let one = c.learn-2.ensures in
    let two = c.learn-4.ensures in
    let three = c.learn-6.ensures in
    let start = c.args.left.0.seat.seat.seen in
    let first = c.learn-2.new.seat.seat.seen in
    let second = c.learn-4.new.seat.seat.seen in
    let all = c.learn-6.new.seat.seat.seen in
    let later = prefix-trans first second all two.goes_on.seen three.goes_on.seen in
    let of-first = stores-in cache 0 c.args.left.0.taken c.args.left.0.seat c.learn-6.new.seat all c.requires.first
    (prefix-trans start first all one.goes_on.seen later) ([], append-nil all)
    (record {
      number = three.goes_on.number ∙ (two.goes_on.number ∙ one.goes_on.number);
      seen = prefix-trans start first all one.goes_on.seen later;
      groups = three.goes_on.groups ∙ (two.goes_on.groups ∙ one.goes_on.groups);
    })
    (record {
      own = three.stores_nothing.own ∙ (two.stores_nothing.own ∙ one.stores_nothing.own);
      offered = three.stores_nothing.offered ∙ (two.stores_nothing.offered ∙ one.stores_nothing.offered);
    })
    three.stays.is in
    let of-second = stores-in cache 1 c.args.left.1.taken c.args.left.1.seat c.learn-7.new.seat all c.requires.second
    (rw c.notice.ensures.1 at (prefix-trans c.notice.result.seen first all one.told later))
    (rw c.notice-notice.ensures.1 at c.learn-7.ensures.told)
    c.learn-7.ensures.goes_on c.learn-7.ensures.stores_nothing c.learn-7.ensures.stays.is in
    let of-third = stores-in cache 2 c.args.right.0.taken c.args.right.0.seat c.learn-8.new.seat all c.requires.third
    (rw c.notice-2.ensures.1 at (prefix-trans c.notice-2.result.seen second all two.told three.goes_on.seen))
    (rw c.notice-notice.ensures.1 at c.learn-8.ensures.told)
    c.learn-8.ensures.goes_on c.learn-8.ensures.stores_nothing c.learn-8.ensures.stays.is in
    let of-fourth = stores-in cache 3 c.args.right.1.taken c.args.right.1.seat c.learn-9.new.seat all c.requires.fourth
    (rw c.notice-3.ensures.1 at three.told) (rw c.notice-notice.ensures.1 at c.learn-9.ensures.told)
    c.learn-9.ensures.goes_on c.learn-9.ensures.stores_nothing c.learn-9.ensures.stays.is in
    let S : ℕ → Type 0 = λ n. All (λ store. store.seat < n) all in
    let sum = of-four all (subst S (ap (λ it. it.seats) three.stays.made ∙ c.requires.four) c.law_stores_are_of_the_seats.ensures) in
    omega arith
