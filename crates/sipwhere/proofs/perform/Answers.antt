use Rattle.sipwhere.specs.Statuses.{matched, unmatched}
use Rattle.sipwhere.proofs.perform.Goals as goal

pub returns-in-Ok-clause-run : goal.returns-in-Ok-clause-run
returns-in-Ok-clause-run g c = matched c.in-Ok.matches c.run_matches.ensures.run

pub returns-clause-run : goal.returns-clause-run
returns-clause-run g c = unmatched _ _ c.tell_wrong_words.ensures.usage
