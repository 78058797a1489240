use Rattle.std.proofs.Common.{refl}
use Rattle.sipwhere.proofs.Accounts.{draws-within, paths-held}
use Rattle.sipwhere.proofs.Quiet.{goes-not, goes-through, nothing-through, went-quietly}
use Rattle.sipwhere.proofs.account.account_for.Goals as goal

pub returns-in_err-paths-clause-goes_on : goal.returns-in_err-paths-clause-goes_on
returns-in_err-paths-clause-goes_on g c = (went-quietly g.B.AnswerBook.shown _ _ c.paths_of.ensures.went).0

pub returns-in_err-paths-clause-stores_nothing : goal.returns-in_err-paths-clause-stores_nothing
returns-in_err-paths-clause-stores_nothing g c = (went-quietly g.B.AnswerBook.shown _ _ c.paths_of.ensures.went).1

pub returns-in_err-firsts-clause-goes_on : goal.returns-in_err-firsts-clause-goes_on
returns-in_err-firsts-clause-goes_on g c =
    let went = went-quietly g.B.AnswerBook.shown _ _ c.paths_of.ensures.went in
    goes-through _ _ _ went.0 c.firsts_of.ensures.goes_on

pub returns-in_err-firsts-clause-stores_nothing : goal.returns-in_err-firsts-clause-stores_nothing
returns-in_err-firsts-clause-stores_nothing g c =
    let went = went-quietly g.B.AnswerBook.shown _ _ c.paths_of.ensures.went in
    nothing-through _ _ _ went.1 c.firsts_of.ensures.stores_nothing

pub returns-clause-goes_on : goal.returns-clause-goes_on
returns-clause-goes_on g c =
    let went = went-quietly g.B.AnswerBook.shown _ _ c.paths_of.ensures.went in
    goes-through _ _ _ went.0 c.firsts_of.ensures.goes_on

pub returns-clause-stores_nothing : goal.returns-clause-stores_nothing
returns-clause-stores_nothing g c =
    let went = went-quietly g.B.AnswerBook.shown _ _ c.paths_of.ensures.went in
    nothing-through _ _ _ went.1 c.firsts_of.ensures.stores_nothing

pub returns-clause-account : goal.returns-clause-account
returns-clause-account g c =
    let went = went-quietly g.B.AnswerBook.shown _ _ c.paths_of.ensures.went in
    let end = goes-not (g.B.AnswerBook.shown c.firsts_of.new.seat) in
    record {
      paths = paths-held g.B.AnswerBook.shown _ _ _ _ c.in_ok-paths.ensures.whole;
      draws = refl;
      firsts = draws-within _ _ _ _ _ _ _ went.0.seen end.seen _ _ c.in_ok-firsts.ensures.draws;
    }
