use Rattle.std.proofs.Common.{◌≡◌, List, subst}
use Rattle.answer_cache.proofs.CarriedAnswers.{carried-answers}
use Rattle.answer_cache.specs.Carried.{carried_stores}
use Rattle.answer_cache.specs.Seats.{Offer}
use Rattle.answer_log.specs.Groups.{group_in}
use Rattle.answer_log.specs.Histories.{cached}
use Rattle.rolling_cache.proofs.laws.law_renewed_answers_as_before.Goals as goal

pub returns : goal.returns
returns c carried before after now later some begun le it question =
    let C : List Offer → Type 0 = λ offers. cached (carried_stores offers) question later
    ≡ cached (it.history (group_in carried.groups question)) question later in
    subst C begun
    (carried-answers question c.law_same_questions_are_equal.ensures now later le carried.groups some before after carried.offers it)
