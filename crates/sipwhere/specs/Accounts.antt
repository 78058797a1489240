-- How the targets of a text came about.
use Rattle.std.specs.Prelude.{◌≡◌, ◌⊎◌, ◌≤◌, ℕ, ◌+◌, ◌-◌, ◌^◌, min, Bool, true, false, ◌||◌, List, [], ◌∷◌, ◌++◌, map}
use Rattle.std.specs.Prelude.{Option, Some, None, is_some, set, slice_get}
use Rattle.std.specs.List.{Contains}
use Rattle.std.specs.declared.net.socket_addr.SocketAddr.{SocketAddr}
use mathlib.Core.List.{IsPrefix}
use Rattle.answer_cache.specs.Seats.{GoesOn, SeatView, StoresNothing}
use Rattle.answer_log.specs.Histories.{cached}
use Rattle.answer_log.specs.declared.store.Store.{Store}
use Rattle.dns_answers.specs.Values.{AnswerValue}
use Rattle.dns_message.specs.declared.question.Question.{Question}
use Rattle.resolution_paths.specs.Paths.{ArePathsBy}
use Rattle.resolution_paths.specs.Sources.{Said}
use Rattle.resolution_paths.specs.declared.path.ResolutionPath.{ResolutionPath}
use Rattle.sip_locator.specs.Gains.{Gains}
use Rattle.sip_report.specs.declared.account.Account.{Account}
use Rattle.sip_report.specs.declared.account.FirstCount.{FirstCount}
use Rattle.sip_report.specs.declared.line_outcome.LineOutcome.{LineOutcome}
use Rattle.sip_report.specs.declared.report.Report.{Report}
use Rattle.sip_report.specs.declared.report.Report.TheVariants.{Lines, Json, Check, Metrics}
use Rattle.sipwhere.specs.Destinations.{IsDestination}
use Rattle.sipwhere.specs.LineOutcomes.{IsOnlyLocated, NeedsNoReply}
use Rattle.sipwhere.specs.declared.destination.Destination.TheVariants.{Located}
use Rattle.sipwhere.specs.declared.locate_settings.LocateSettings.{LocateSettings}
use Rattle.sipwhere_options.specs.declared.options.Options.{Options}
use Rattle.sip_resolver.specs.Draws.{drawn}
use Rattle.sip_selection.specs.Choice.{Resolution, targets}
use Rattle.sip_selection.specs.Selections.{SelectionValue, begun, now_of}
use Rattle.sip_selection.specs.declared.request.Request.{Request}
use Rattle.sip_selection.specs.declared.target.Target.{Target}

-- ---- which targets came first

-- the targets that came first
abbrev pub targets_of : List FirstCount → List Target
targets_of firsts = map (λ (first : FirstCount). first.target) firsts

-- a target came first once more, up to 2^32 - 1 times
abbrev pub once_more : FirstCount → FirstCount
once_more it = record { target = it.target; times = min (it.times + 1) (2 ^ 32 - 1) }

-- a target came first for the first time
abbrev pub once : Target → FirstCount
once target = record { target = target; times = 1 }

-- A target is counted once more: behind all others where it was not counted yet, and else at its
-- place.
pub data IsCounted (target : Target) (old new : List FirstCount) : Type 0 where
  first_time : (Contains (targets_of old) target → ⊥) → new ≡ old ++ once target ∷ []
      → IsCounted target old new
  again : (place : ℕ) (it : FirstCount) → slice_get old place ≡ Some it → it.target ≡ target
      → new ≡ set old place (once_more it) → IsCounted target old new

-- the first one of the targets to which a request goes is counted, and none where it goes to none
pub data CountsFirst (resolution : Resolution) (old new : List FirstCount) : Type 0 where
  first_of : (target : Target) (others : List Target) → resolution ≡ targets (target ∷ others)
      → IsCounted target old new → CountsFirst resolution old new
  nothing : ((target : Target) (others : List Target) → resolution ≡ targets (target ∷ others) → ⊥)
      → new ≡ old → CountsFirst resolution old new

-- A draw of the order of the targets of a request: which of them comes first by the words of its
-- own number is counted, over answers that a book had at a moment, in histories between these two
-- (RFC 3263 4).
pub record IsDraw (request : Request) (settings : LocateSettings) (now : ℕ) (start end : List Store)
    (draw : ℕ) (old new : List FirstCount) : Type 0 where
  pub first : List Store
  pub last : List Store
  pub after : IsPrefix start first
  pub before : IsPrefix last end
  pub choice : SelectionValue
  pub gains : Gains last now first
      (begun request settings.caps (drawn settings.key (2 ^ 63 + draw))) choice
  pub counted : CountsFirst (now_of choice) old new

-- so many draws, one after the other
pub data AreDraws (request : Request) (settings : LocateSettings) (now : ℕ) (start end : List Store)
    : ℕ → List FirstCount → Type 0 where
  none : AreDraws request settings now start end 0 []
  more : {draw : ℕ} {old : List FirstCount} (new : List FirstCount)
      → AreDraws request settings now start end draw old
      → IsDraw request settings now start end draw old new
      → AreDraws request settings now start end (draw + 1) new

-- ---- the account of a request

-- A book held this for a question at a moment: a seat at it found that, or nothing, when it had
-- gone on from another by calls that store nothing.
abbrev pub IsHeld : SeatView → ℕ → Question → Option AnswerValue → Type 0
IsHeld start now =
    Said (λ before after. GoesOn before after × StoresNothing before after)
    (λ seat question found. found ≡ cached seat.seen question now) start

-- The account of a request, by what a book held at a moment, while a seat at it went on from one
-- state to another: its paths are those of the request, and as many draws were made as the settings
-- say.
pub record IsAccount (old new : SeatView) (settings : LocateSettings) (now : ℕ) (request : Request)
    (account : Account) : Type 0 where
  pub paths : ArePathsBy (IsHeld old now) request account.paths.items
  pub draws : account.draws ≡ settings.draws
  pub firsts : AreDraws request settings now old.seen new.seen settings.draws account.firsts.items

-- the server that counts: where there is no path, none does
abbrev pub server_for : List ResolutionPath → Option SocketAddr → Option SocketAddr
server_for [] server = None
server_for (path ∷ paths) server = server

-- ---- the account of a text

-- an account of nothing
pub record IsEmpty (account : Account) : Type 0 where
  pub paths : account.paths.items ≡ []
  pub draws : account.draws ≡ 0
  pub firsts : account.firsts.items ≡ []
  pub server : account.server ≡ None

-- no request is located for a text: it is none, or its Via names its target
abbrev pub HasNoRequest : LocateSettings → List ℕ → Type 0
HasNoRequest settings text = (request : Request) → IsDestination settings text (Located request) → ⊥

-- the account of a text: of the request that is located for it, or of nothing where none is
pub data IsAccountOfText (old new : SeatView) (settings : LocateSettings) (now : ℕ)
    (text : List ℕ) (account : Account) : Type 0 where
  located : (request : Request) → IsOnlyLocated settings text request
      → IsAccount old new settings now request account
      → IsAccountOfText old new settings now text account
  without : HasNoRequest settings text → IsEmpty account
      → IsAccountOfText old new settings now text account

-- ---- the account that is told of a text

-- The account of a text whose request ended: of nothing where nobody asks for one; else by what a
-- book held at a moment that the clock had reached, while a seat at it went on, and that seat has
-- gone on to this one since.
pub data IsEndAccount (shows : ℕ → Type 0) (seat : SeatView) (settings : LocateSettings)
    (text : List ℕ) (account : Account) : Type 0 where
  not_asked : settings.accounts ≡ false → IsEmpty account
      → IsEndAccount shows seat settings text account
  asked : (old new : SeatView) (now latest : ℕ) → settings.accounts ≡ true → GoesOn old new
      → GoesOn new seat → shows latest → now ≤ latest
      → IsAccountOfText old new settings now text account
      → IsEndAccount shows seat settings text account

-- The account that is told with what became of a text: of nothing where no reply was needed, or
-- none came in time; else that of the end of its request.
abbrev pub IsToldAccount : (ℕ → Type 0) → SeatView → LocateSettings → List ℕ → LineOutcome
    → Account → Type 0
IsToldAccount shows seat settings text line_outcome account =
    (NeedsNoReply settings text line_outcome × IsEmpty account)
    ⊎ IsEndAccount shows seat settings text account

-- ---- whether it is told

-- an object of JSON is printed
abbrev pub is_json : Report → Bool
is_json Lines = false
is_json Json = true
is_json Check = false
is_json Metrics = false

-- it is told how targets came: where lines of it are asked for, and in objects of JSON
abbrev pub accounts : Options → Bool
accounts options = options.detail.explains || is_some options.detail.draws || is_json options.report
