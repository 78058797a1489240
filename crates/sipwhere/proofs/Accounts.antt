-- How the targets of a text came about.
use Rattle.std.proofs.Common.{◌≡◌, ◌≢◌, ◌^◌, ◌+◌, ℕ, List, [], Option, append-nil, refl}
use Rattle.std.proofs.lemmas.List.Elements.{All-weaker}
use mathlib.Core.List.{IsPrefix}
use Rattle.answer_cache.specs.Seats.{GoesOn, SeatView, StoresNothing}
use Rattle.answer_log.specs.Histories.{cached}
use Rattle.answer_log.specs.declared.store.Store.{Store}
use Rattle.dns_answers.specs.Values.{AnswerValue}
use Rattle.dns_message.specs.declared.question.Question.{Question}
use Rattle.resolution_paths.specs.Paths.{ArePathsBy}
use Rattle.resolution_paths.specs.Sources.{Said, Went, here, onward}
use Rattle.resolution_paths.specs.declared.path.ResolutionPath.{ResolutionPath}
use Rattle.sip_locator.specs.Gains.{Gains}
use Rattle.sip_report.specs.declared.account.FirstCount.{FirstCount}
use Rattle.sip_report.specs.declared.line_outcome.LineOutcome.{LineOutcome}
use Rattle.sip_report.specs.declared.line_outcome.LineOutcome.TheVariants.{Became, Tried, NoSuchName, TimeOver, Bad, NotText, Memory}
use Rattle.sip_resolver.specs.Draws.{drawn}
use Rattle.sip_selection.specs.Selections.{SelectionValue, begun, now_of}
use Rattle.sip_selection.specs.declared.request.Request.{Request}
use Rattle.sipwhere.specs.Accounts.{AreDraws, CountsFirst, HasNoRequest, IsDraw, IsHeld, more, none}
use Rattle.sipwhere.specs.Destinations.{IsDestination}
use Rattle.sipwhere.specs.LineOutcomes.{IsReady}
use Rattle.sipwhere.specs.declared.destination.Destination.{Destination}
use Rattle.sipwhere.specs.declared.destination.Destination.TheVariants.{Located, Named}
use Rattle.sipwhere.specs.declared.locate_settings.LocateSettings.{LocateSettings}
use Rattle.sipwhere.proofs.Quiet.{prefix-through}

module _ (request : Request) (settings : LocateSettings) (now : ℕ) where
  -- a draw over the answers between two histories
  pub draw-of : (start end : List Store) (draw : ℕ) (old new : List FirstCount) (choice : SelectionValue)
      → Gains end now start (begun request settings.caps (drawn settings.key (2 ^ 63 + draw))) choice
      → CountsFirst (now_of choice) old new → IsDraw request settings now start end draw old new
  draw-of start end draw old new choice gains counted = record {
    first = start;
    last = end;
    after = ([], append-nil start);
    before = ([], append-nil end);
    choice = choice;
    gains = gains;
    counted = counted;
  }

  module _ (start end outer beyond : List Store) (front : IsPrefix outer start) (back : IsPrefix end beyond) where
    -- what was drawn between two histories was drawn between two that are further apart
    pub draw-within : (draw : ℕ) (old new : List FirstCount) → IsDraw request settings now start end draw old new
        → IsDraw request settings now outer beyond draw old new
    draw-within draw old new it = record {
      first = it.first;
      last = it.last;
      after = prefix-through outer start it.first front it.after;
      before = prefix-through it.last end beyond it.before back;
      choice = it.choice;
      gains = it.gains;
      counted = it.counted;
    }

    pub draws-within : (count : ℕ) (firsts : List FirstCount) → AreDraws request settings now start end count firsts
        → AreDraws request settings now outer beyond count firsts
    draws-within count firsts none = none
    draws-within count firsts (more {draw} {old} new draws one) = more new (draws-within draw old draws) (draw-within draw old new one)

-- ---- what a book held

module _ {Seat : Type 0} (shown : Seat → SeatView) where
  -- a seat went on by calls that store nothing, and so did what contracts see of it
  went-shown : (start seat : Seat)
      → Went (λ before after. GoesOn (shown before) (shown after) × StoresNothing (shown before) (shown after)) start seat
      → Went (λ before after. GoesOn before after × StoresNothing before after) (shown start) (shown seat)
  went-shown start seat here = here
  went-shown start seat (onward {seat = middle} next went goes) = onward (shown next) (went-shown start middle went) goes

  module _ (start : Seat) (now : ℕ) where
    -- what a book said to a seat, it held
    abbrev IsSaid : Question → Option AnswerValue → Type 0
    IsSaid =
        Said (λ before after. GoesOn (shown before) (shown after) × StoresNothing (shown before) (shown after))
        (λ seat question found. found ≡ cached (shown seat).seen question now) start

    pub paths-held : (request : Request) (paths : List ResolutionPath) → ArePathsBy IsSaid request paths
        → ArePathsBy (IsHeld (shown start) now) request paths
    paths-held request paths it = record {
      heard = it.heard;
      was_said = All-weaker (λ one. IsSaid one.0 one.1) (λ one. IsHeld (shown start) now one.0 one.1)
          (λ one said. record { seat = shown said.seat; went = went-shown start said.seat said.went; said = said.said }) it.heard
          it.was_said;
      are = it.are;
    }

-- ---- texts of which no request is located

-- a text goes to one destination
abbrev pub OneDestination : Type 0
OneDestination =
    (settings : LocateSettings) (text : List ℕ) (it other : Destination) → IsDestination settings text it
    → IsDestination settings text other → it ≡ other

-- what became of a text without its request, where memory was not refused
pub without-request : OneDestination → (settings : LocateSettings) (text : List ℕ) (line_outcome : LineOutcome)
    → IsReady settings text line_outcome → line_outcome ≢ Memory → HasNoRequest settings text
without-request one settings text (Became it) ready not' = λ request is.
    let same : Named ready.target ready.host ≡ Located request = one settings text _ _ ready.is is in absurd (cc (same))
without-request one settings text (Tried tries) ready not' = absurd ready
without-request one settings text (NoSuchName name) ready not' = absurd ready
without-request one settings text TimeOver ready not' = absurd ready
without-request one settings text (Bad refusal) ready not' = λ request is. ready.none is.request is.is
without-request one settings text NotText ready not' = λ request is. ready.none is.request is.is
without-request one settings text Memory ready not' = absurd (not' refl)
