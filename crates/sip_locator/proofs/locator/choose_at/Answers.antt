use Rattle.sip_selection.specs.Consulting.{with_given}
use Rattle.sip_selection.specs.Requests.{request_of}
use Rattle.sip_selection.specs.Selections.{begun}
use Rattle.sip_locator.proofs.Looking.{progress, is-ready}
use Rattle.sip_locator.proofs.locator.choose_at.Goals as goal
use Rattle.srv_choice.specs.Draws.{words_of}

pub returns-clause-stays : goal.returns-clause-stays
returns-clause-stays g c =
    let a = c.args in
    is-ready g.B.AnswerBook.shown (g.B.AnswerBook.belongs a.book.now) a.now
    (begun (request_of a.request.now) a.caps.now (words_of a.words.now)) a.seat.now c.choose.ensures.chosen.1

pub returns-clause-goes_on : goal.returns-clause-goes_on
returns-clause-goes_on g c =
    let a = c.args in
    (progress g.B.AnswerBook.shown (g.B.AnswerBook.belongs a.book.now) a.now
    (begun (request_of a.request.now) a.caps.now (words_of a.words.now)) a.seat.now c.choose.ensures.chosen.1).1.goes_on

pub returns-clause-stores_nothing : goal.returns-clause-stores_nothing
returns-clause-stores_nothing g c =
    let a = c.args in
    (progress g.B.AnswerBook.shown (g.B.AnswerBook.belongs a.book.now) a.now
    (begun (request_of a.request.now) a.caps.now (words_of a.words.now)) a.seat.now c.choose.ensures.chosen.1).1.stores_nothing

pub returns-clause-chosen : goal.returns-clause-chosen
returns-clause-chosen g c =
    let a = c.args in
    let chosen = c.choose.ensures.chosen in (
      with_given (begun (request_of a.request.now) a.caps.now (words_of a.words.now)) chosen.0,
      (progress g.B.AnswerBook.shown (g.B.AnswerBook.belongs a.book.now) a.now
          (begun (request_of a.request.now) a.caps.now (words_of a.words.now)) a.seat.now chosen.1).1.gains,
      chosen.2,
    )
