use Rattle.std.proofs.Common.{inr, refl, sym, arith}
use Rattle.sipwhere_options.specs.CommandLine.{IsTransport, IsNoTransport}
use Rattle.sipwhere_options.proofs.Words.{one_more, some_at}
use Rattle.sipwhere_options.proofs.options.transports_of.Goals as goal

pub returns-in-None-clause-refused : goal.returns-in-None-clause-refused
returns-in-None-clause-refused c = inr (
  refl,
  some_at (λ word. IsNoTransport word.now) c.args.words.now c.words.word-index _ (omega arith) (sym c.in-None.ensures),
)

pub words-preserved : goal.words-preserved
words-preserved c =
    let at = c.words.word-index in
    let before = c.words.transports.items in
    let one = one_more (λ word transport. IsTransport word.now transport) c.args.words.now before at _ _ (omega arith) c.words.invariant
    (sym c.in-Some.ensures) in
    rw c.in_ok-push-in-Some.ensures.items one
