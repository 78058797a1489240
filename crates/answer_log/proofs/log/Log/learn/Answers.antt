use Rattle.answer_log.proofs.Handling.{history-prefix}
use Rattle.answer_log.proofs.log.Log.learn.Goals as goal

pub returns-clause-told : goal.returns-clause-told
returns-clause-told c = history-prefix c.args.told.now.log c.cursor_after-cursor.new.handle.book.log c.cursor_after-cursor.ensures.told
