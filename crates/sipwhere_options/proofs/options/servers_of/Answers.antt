use Rattle.std.proofs.Common.{inr, refl, arith}
use Rattle.sipwhere_options.specs.Flags.{SpellsNothing}
use Rattle.sipwhere_options.specs.Servers.{ServerText}
use Rattle.sipwhere_options.proofs.Words.{one_more, some_at}
use Rattle.sipwhere_options.proofs.options.servers_of.Goals as goal

pub returns-in-None-clause-refused : goal.returns-in-None-clause-refused
returns-in-None-clause-refused c = inr (
  refl,
  some_at (λ word. SpellsNothing ServerText word.now) c.args.words.now c.words.word-index _ (omega arith) c.in-None.ensures.none,
)

pub words-preserved : goal.words-preserved
words-preserved c =
    let at = c.words.word-index in
    let before = c.words.servers.items in
    let one = one_more (λ word server. ServerText word.now server) c.args.words.now before at _ _ (omega arith) c.words.invariant
    c.in-Some.ensures.found in
    rw c.in_ok-push-in-Some.ensures.items one
