use Rattle.answer_cache.proofs.Following.{last-by, never-none, some-store}
use Rattle.answer_cache.proofs.store_list.StoreList.is_last.Goals as goal

pub returns-in-Some : goal.returns-in-Some
returns-in-Some c =
    let one = c.in-Some.ensures.store in
    last-by c.law_same_questions_are_equal.ensures c.args.question.now c.args.self.now.stores c.args.place one c.requires.place
    (c.requires.its one) c.in-Some.last c.in-Some.ensures

pub returns-in-None : goal.returns-in-None
returns-in-None c =
    let one = some-store c.args.self.now.stores c.args.place c.requires.place in
    never-none c.law_same_questions_are_equal.ensures c.args.question.now c.args.self.now.stores c.args.place one c.requires.place
    (c.requires.its one) c.in-None.ensures
