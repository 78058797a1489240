-- Lines that are located side by side.
use Rattle.std.specs.Prelude.{◌≡◌, ◌<◌, ◌≤◌, ℕ, List, Option, Some, None, IfOk, length, slice_index_or, take}
use Rattle.std.specs.List.{AllZip}
use Rattle.answer_cache.specs.Seats.{SeatView}
use Rattle.sip_resolver.specs.Outcomes.{Sought}
use Rattle.sip_resolver.specs.Requests.{RequestsView, Stand, weight}
use Rattle.sipwhere.specs.Accounts.{IsToldAccount}
use Rattle.sipwhere.specs.LineOutcomes.{IsLineOutcome, IsOfLine}
use Rattle.sipwhere.specs.Runs.{AreTold, Tells}
use Rattle.sipwhere.specs.declared.line.Line.{Line}
use Rattle.sipwhere.specs.declared.line_result.LineResult.{LineResult}
use Rattle.sip_report.specs.declared.report.Style.{Style}
use Rattle.sipwhere.specs.declared.locate_settings.LocateSettings.{LocateSettings}

-- what contracts see of open lines: who sends, the lines, how many of them were reported, the
-- requests that are inside, and what is reported of each line, as far as it is known
pub record OpenView : Type 0 where
  pub settings : LocateSettings
  pub lines : List Line
  pub told : ℕ
  pub requests : RequestsView
  pub results : List (Option LineResult)

-- ---- whose request is whose

-- the request that is submitted for a line, under the place of the line
pub record IsOwn (settings : LocateSettings) (lines : List Line) (sought : Sought) : Type 0 where
  pub inside : sought.number < length lines
  pub of : (line : Line) → IsOfLine settings (slice_index_or lines sought.number line) sought

-- a number that is made of requests is 0 for what is submitted of a line
abbrev pub VanishesOn : LocateSettings → List Line → (Sought → ℕ) → Type 0
VanishesOn settings lines h = (sought : Sought) → IsOwn settings lines sought → h sought ≡ 0

-- A request is that of a line, under the place of the line: no number that is made of requests
-- tells it from all that are.
abbrev pub IsMeant : LocateSettings → List Line → Sought → Type 0
IsMeant settings lines sought = (h : Sought → ℕ) → VanishesOn settings lines h → h sought ≡ 0

-- the same of each request inside
abbrev pub AreMeant : LocateSettings → List Line → RequestsView → Type 0
AreMeant settings lines requests =
    (h : Sought → ℕ) → VanishesOn settings lines h → weight h requests ≡ 0

-- This number of the lines were begun; each request inside is that of a line; and each line has a
-- place for what is reported of it.
pub record Fits (settings : LocateSettings) (lines : List Line) (begun : ℕ)
    (requests : RequestsView) (results : List (Option LineResult)) : Type 0 where
  pub few : begun ≤ length lines
  pub own : AreMeant settings lines requests
  pub as_many : length results ≡ length lines

-- ---- what is so at a seat

-- What is reported of a line: what may become of it, and how its targets came, unless memory was
-- refused for that.
pub record IsLineResult (gives : List ℕ → Type 0) (shows : ℕ → Type 0) (seat : SeatView)
    (settings : LocateSettings) (line : Line) (it : LineResult) : Type 0 where
  pub became : IsLineOutcome gives shows seat settings line it.line_outcome
  pub account : IfOk it.account (IsToldAccount shows seat settings line.text.now it.line_outcome)

-- the same, where it is known
abbrev pub IsResultOf : (List ℕ → Type 0) → (ℕ → Type 0) → SeatView → LocateSettings → Line
    → Option LineResult → Type 0
IsResultOf gives shows seat settings line None = Unit {0}
IsResultOf gives shows seat settings line (Some it) = IsLineResult gives shows seat settings line it

-- what holds of lines at a seat: the requests inside, and what is reported of each line (RFC 3263
-- 4, 5)
pub record Stands (gives : List ℕ → Type 0) (shows : ℕ → Type 0) (seat : SeatView)
    (it : OpenView) : Type 0 where
  pub requests : Stand gives shows seat it.requests
  pub results : AllZip (IsResultOf gives shows seat it.settings) it.lines it.results

-- what became of the first line that was not reported is printed, with this status
pub record TellsFirst (gives : List ℕ → Type 0) (shows : ℕ → Type 0) (seat : SeatView)
    (style : Style) (it : OpenView) (old new : Option (List ℕ)) (status : ℕ) : Type 0 where
  pub inside : it.told < length it.lines
  pub tells : (line : Line) → Tells gives shows seat it.settings style
      (slice_index_or it.lines it.told line) old new status

-- what became of each line that was reported is printed, with these statuses
abbrev pub HasTold : (List ℕ → Type 0) → (ℕ → Type 0) → SeatView → Style → OpenView
    → Option (List ℕ) → Option (List ℕ) → List ℕ → Type 0
HasTold gives shows seat style it old new statuses =
    AreTold gives shows seat it.settings style (take it.told it.lines) old new statuses
