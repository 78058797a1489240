-- A book that a choice was made over.
use Rattle.std.proofs.Common.{◌≡◌, ℕ, ◌+◌, List, Option, refl, sym}
use Rattle.dns_answers.specs.Values.{AnswerValue}
use Rattle.dns_message.specs.declared.question.Question.{Question}
use Rattle.sip_selection.specs.Consulting.{Consulted, nothing, onward, one, with_given}
use Rattle.sip_selection.specs.Known.{Given}
use Rattle.sip_selection.specs.Selections.{SelectionValue}
use Rattle.answer_log.specs.Histories.{cached}
use Rattle.answer_cache.specs.Seats.{SeatView, GoesOn, StoresNothing}
use Rattle.sip_locator.proofs.Gaining.{Progress, begins, stays, gains-one}

module _ {Seat : Type 0} (shown : Seat → SeatView) (ready : Seat → Type 0) (now : ℕ) (it : SelectionValue) (start : Seat) where
  abbrev Goes : Seat → Seat → Type 0
  Goes before after = GoesOn (shown before) (shown after) × StoresNothing (shown before) (shown after)

  abbrev Says : Seat → Question → Option AnswerValue → Type 0
  Says seat question found = found ≡ cached (shown seat).seen question now

  abbrev pub Looked : Seat → List Given → Type 0
  Looked = Consulted ready Goes Says it start

  pub progress : {seat : Seat} {given : List Given} → Looked seat given
      → (count : ℕ) × Progress it (with_given it given) (shown start) (shown seat) now count
  progress (nothing is) = (0, begins it (shown start) now)
  progress (onward {seat} {given} next before goes is) =
      let so-far = progress before in (
        so-far.0,
        stays it (with_given it given) (with_given it given) (shown start) (shown seat) (shown next) now so-far.0 so-far.1
            goes.0 goes.1 refl,
      )
  progress (one {seat} {given} next question answer before goes is said needed few) =
      let so-far = progress before in (
        so-far.0 + 1,
        gains-one it (with_given it given) _ (shown start) (shown seat) (shown next) now so-far.0 so-far.1 goes.0 goes.1 (record {
          question = question;
          answer = answer;
          asked = needed;
          found = sym said;
          is = refl;
        }),
      )

  pub is-ready : {seat : Seat} {given : List Given} → Looked seat given → ready seat
  is-ready (nothing is) = is
  is-ready (onward next before goes is) = is
  is-ready (one next question answer before goes is said needed few) = is
