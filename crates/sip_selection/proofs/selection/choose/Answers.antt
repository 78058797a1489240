use Rattle.std.proofs.Common.{◌∙◌, ◌≡◌, sym}
use Rattle.srv_choice.specs.Draws.{words_of}
use Rattle.sip_selection.specs.Consulting.{asked_with}
use Rattle.sip_selection.specs.Requests.{request_of}
use Rattle.sip_selection.proofs.Beginning.{whatever-came}
use Rattle.sip_selection.proofs.Consulting.{consulted-asked, nothing-asked}
use Rattle.sip_selection.proofs.Finding.{settled-lacks}
use Rattle.sip_selection.proofs.Finality.{asks-first}
use Rattle.sip_selection.proofs.Steps.{asked-is, found-is}
use Rattle.sip_selection.proofs.selection.choose.Goals as goal

pub returns-in-Found-clause-chosen : goal.returns-in-Found-clause-chosen
returns-in-Found-clause-chosen g c =
    let a = c.args in
    let found = c.begin.new.walk in
    let stands = rw c.in-Found.is at c.in_ok-step.ensures.comes in
    let is = found-is (request_of a.request.now) a.caps.now (words_of a.words.now) found.known found.targets.items stands in (
      found.known,
      rw (c.after-walk.ensures.known, c.new-none.ensures) at c.begin.ensures.consulted,
      c.choice_of.ensures.is (asked_with (request_of a.request.now) a.caps.now (words_of a.words.now) found.known) is,
    )

pub returns-in-Found-clause-lacks : goal.returns-in-Found-clause-lacks
returns-in-Found-clause-lacks g c =
    settled-lacks (g.S.AnswerSource.says c.args.source.now c.begin.new.seat) c.choice_of.result c.choice_of.ensures.settled

pub returns-in_err-targets-in-Ask-clause-memory : goal.returns-in_err-targets-in-Ask-clause-memory
returns-in_err-targets-in-Ask-clause-memory g c =
    let a = c.args in
    let request = request_of a.request.now in
    let found = c.begin.new.walk in
    whatever-came c.from_residual-in_err-targets-in-Ask.result
    (asks-first request a.caps.now (words_of a.words.now) found.known c.in-Ask.field-0
    (asked-is request a.caps.now (words_of a.words.now) found.known found.targets.items c.in-Ask.field-0 c.in-Ask.field-1
    (rw c.in-Ask.is at c.in_ok-step.ensures.comes)))

pub asking_at-requires-clause-stands : goal.asking_at-requires-clause-stands
asking_at-requires-clause-stands g c =
    let kept = c.in_ok-targets-in-Ask.ensures in
    rw (kept.targets, kept.known) (rw c.in-Ask.is at c.in_ok-step.ensures.comes)

pub asking_at-requires-clause-asked : goal.asking_at-requires-clause-asked
asking_at-requires-clause-asked g c =
    let a = c.args in
    let consulted = rw (c.after-walk.ensures.known, c.new-none.ensures) at c.begin.ensures.consulted in
    rw c.in_ok-targets-in-Ask.ensures.known
    (consulted-asked consulted (nothing-asked (request_of a.request.now) a.caps.now (words_of a.words.now)))

pub returns-in_err-selection-in-Ask-clause-memory : goal.returns-in_err-selection-in-Ask-clause-memory
returns-in_err-selection-in-Ask-clause-memory g c =
    let a = c.args in
    let request = request_of a.request.now in
    let found = c.begin.new.walk in
    whatever-came c.from_residual-in_err-selection-in-Ask.result
    (asks-first request a.caps.now (words_of a.words.now) found.known c.in-Ask.field-0
    (asked-is request a.caps.now (words_of a.words.now) found.known found.targets.items c.in-Ask.field-0 c.in-Ask.field-1
    (rw c.in-Ask.is at c.in_ok-step.ensures.comes)))

pub returns-clause-chosen : goal.returns-clause-chosen
returns-clause-chosen g c =
    let a = c.args in
    let found = c.begin.new.walk in (
      found.known,
      rw (c.after-walk.ensures.known, c.new-none.ensures) at c.begin.ensures.consulted,
      (
        rw c.in_ok-targets-in-Ask.ensures.known at c.in_ok-selection-in-Ask.ensures,
        c.in-Ask.field-0,
        asked-is (request_of a.request.now) a.caps.now (words_of a.words.now) found.known found.targets.items c.in-Ask.field-0
            c.in-Ask.field-1
            (rw c.in-Ask.is at c.in_ok-step.ensures.comes),
      ),
    )

pub returns-clause-lacks : goal.returns-clause-lacks
returns-clause-lacks g c = λ question is.
    let a = c.args in
    let found = c.begin.new.walk in
    let here = rw (c.in_ok-selection-in-Ask.ensures, c.in_ok-targets-in-Ask.ensures.known) at is in
    let asked = asked-is (request_of a.request.now) a.caps.now (words_of a.words.now) found.known found.targets.items c.in-Ask.field-0
    c.in-Ask.field-1 (rw c.in-Ask.is at c.in_ok-step.ensures.comes) in
    let same : c.in-Ask.field-0 ≡ question = let both = sym asked ∙ here in cc in
    rw same at (rw c.in-Ask.is at c.in_ok-step.ensures.lacks)
