-- What is printed of a text.
use Rattle.std.specs.Prelude.{◌≡◌, ◌≢◌, ◌⊎◌, ◌≤◌, ◌*◌, ℕ, Bool, true, false, List, [], ◌∷◌, Option, Some, None}
use Rattle.std.specs.Prelude.{⊤, codes, length, map, take, unwrap_or, All}
use Rattle.std.specs.Duration.{as_nanos}
use Rattle.std.specs.Io.KnownBytes.{Appends}
use Rattle.answer_cache.specs.Seats.{GoesOn, SeatView}
use Rattle.dns_transport.specs.declared.wire_try.WireTry.{WireTry}
use Rattle.sipwhere_options.specs.CommandLine.{IsStyle}
use Rattle.sipwhere_options.specs.Plans.{IsPlan}
use Rattle.sipwhere_options.specs.Timings.{IsScheduleOf}
use Rattle.sipwhere.specs.Accounts.{IsToldAccount, accounts}
use Rattle.sipwhere.specs.LineInputs.{AreInputTexts, numbered_from, said}
use Rattle.sipwhere.specs.LineOutcomes.{IsLineOutcome, extent_of}
use Rattle.sip_report.specs.Lines.{gravity}
use Rattle.sip_report.specs.Reports.{status_in, traced_report}
use Rattle.sip_report.specs.Verdicts.{verdict_of}
use Rattle.sip_report.specs.declared.account.Account.{Account}
use Rattle.sip_report.specs.declared.line_outcome.LineOutcome.{LineOutcome}
use Rattle.sipwhere.specs.declared.line.Line.{Line}
use Rattle.sipwhere_options.specs.declared.options.Options.{Options}
use Rattle.sipwhere_options.specs.declared.plan.Plan.{Plan}
use Rattle.sip_report.specs.declared.report.Style.{Style}
use Rattle.sipwhere.specs.declared.locate_settings.LocateSettings.{LocateSettings}
use Rattle.sip_report.specs.declared.verdict.Verdict.{Verdict}

-- the report of a text was printed, with this verdict of a check, and the status is that of what
-- became of it
abbrev pub IsPrintedWith : Verdict → Option (List ℕ) → Option (List ℕ) → Style → List WireTry
    → List ℕ → ℕ → Account → LineOutcome → ℕ → Type 0
IsPrintedWith verdict old new style tries text took account line_outcome status =
    Appends old new (traced_report style tries text took verdict account line_outcome)
    × (status ≡ status_in style.report verdict line_outcome)

-- The report of a text was printed, and the status is that of what became of it. It took so many
-- milliseconds, as the program measured them.
abbrev pub IsPrinted : Option (List ℕ) → Option (List ℕ) → Style → List WireTry → List ℕ → ℕ
    → Account → LineOutcome → ℕ → Type 0
IsPrinted old new style tries text took account line_outcome status =
    IsPrintedWith (verdict_of style.limits took line_outcome) old new style tries text took account
    line_outcome status

-- the same, or the status is 5
abbrev pub IsTold : Option (List ℕ) → Option (List ℕ) → Style → List WireTry → List ℕ → ℕ
    → Account → LineOutcome → ℕ → Type 0
IsTold old new style tries text took account line_outcome status =
    IsPrinted old new style tries text took account line_outcome status ⊎ (status ≡ 5)

-- The same of an output that takes more: where the report was not printed, for want of memory,
-- nothing was.
abbrev pub IsToldWhole : Option (List ℕ) → Option (List ℕ) → Style → List WireTry → List ℕ → ℕ
    → Account → LineOutcome → ℕ → Type 0
IsToldWhole old new style tries text took account line_outcome status =
    IsPrinted old new style tries text took account line_outcome status
    ⊎ ((new ≡ old) × (status ≡ 5))

-- What became of a line is printed, after what went over the wire for it, with how its targets
-- came. It took so many milliseconds, as the program measured them.
pub record IsReported (shows : ℕ → Type 0) (seat : SeatView) (settings : LocateSettings)
    (style : Style) (line : Line) (line_outcome : LineOutcome) (old new : Option (List ℕ))
    (status : ℕ) : Type 0 where
  pub tries : List WireTry
  pub took : ℕ
  pub account : Account
  pub accounted : IsToldAccount shows seat settings line.text.now line_outcome account
  pub printed : IsPrinted old new style tries line.text.now took account line_outcome status

-- what may become of a line is printed, or the status is 5
pub record Tells (gives : List ℕ → Type 0) (shows : ℕ → Type 0) (seat : SeatView)
    (settings : LocateSettings) (style : Style) (line : Line) (old new : Option (List ℕ))
    (status : ℕ) : Type 0 where
  pub line_outcome : LineOutcome
  pub became : IsLineOutcome gives shows seat settings line line_outcome
  pub told : IsReported shows seat settings style line line_outcome old new status
      ⊎ (status ≡ 5)

-- ---- many lines

-- What became of these lines is printed, of each after that of those before it, with these
-- statuses.
abbrev pub AreTold : (List ℕ → Type 0) → (ℕ → Type 0) → SeatView → LocateSettings → Style
    → List Line → Option (List ℕ) → Option (List ℕ) → List ℕ → Type 0
AreTold gives shows seat settings style [] old new statuses = (new ≡ old) × (statuses ≡ [])
AreTold gives shows seat settings style (line ∷ lines) old new statuses =
    (middle : Option (List ℕ)) × (status : ℕ) × (others : List ℕ)
    × Tells gives shows seat settings style line old middle status
    × AreTold gives shows seat settings style lines middle new others
    × (statuses ≡ status ∷ others)

-- a status is one of these, or 0
abbrev pub IsOneOf : ℕ → List ℕ → Type 0
IsOneOf status [] = status ≡ 0
IsOneOf status (first ∷ others) = (status ≡ first) ⊎ IsOneOf status others

-- the gravest of statuses, and 0 where there is none
pub record IsGravest (statuses : List ℕ) (status : ℕ) : Type 0 where
  pub none_graver : All (λ it. gravity it ≤ gravity status) statuses
  pub one : IsOneOf status statuses

-- What became of lines is printed in their order, of all of them but where the status is 5; and the
-- status is the gravest, or 5.
pub record AreRun (gives : List ℕ → Type 0) (shows : ℕ → Type 0) (seat : SeatView)
    (settings : LocateSettings) (style : Style) (lines : List Line) (old new : Option (List ℕ))
    (status : ℕ) : Type 0 where
  pub count : ℕ
  pub statuses : List ℕ
  pub told : AreTold gives shows seat settings style (take count lines) old new statuses
  pub gravest : IsGravest statuses status ⊎ (status ≡ 5)
  pub whole : (length lines ≤ count) ⊎ (status ≡ 5)

-- what contracts see of a run: by what settings lines are located, a seat at its book, and what was
-- printed
pub record RunView : Type 0 where
  pub settings : LocateSettings
  pub seat : SeatView
  pub printed : Option (List ℕ)

-- a seat has gone on, and what might become of a line at it may still
pub record StaysSo (gives : List ℕ → Type 0) (shows : ℕ → Type 0) (old new : SeatView) : Type 0
  where
    pub goes_on : GoesOn old new
    pub became : (settings : LocateSettings) (line : Line) (it : LineOutcome)
        → IsLineOutcome gives shows old settings line it
        → IsLineOutcome gives shows new settings line it

-- What became of these lines is printed in their order, and the status is the gravest; or the
-- status is 5, as memory or the output failed.
abbrev pub IsRun : (List ℕ → Type 0) → (ℕ → Type 0) → SeatView → LocateSettings → Style → List Line
    → Option (List ℕ) → Option (List ℕ) → ℕ → Type 0
IsRun gives shows seat settings style lines old new status =
    (status ≡ 5) ⊎ ((statuses : List ℕ)
    × AreTold gives shows seat settings style lines old new statuses × IsGravest statuses status)

-- ---- texts

-- what became of texts, which are numbered from this number on, is printed in their order, with
-- these statuses
pub record AreToldFrom (gives : List ℕ → Type 0) (shows : ℕ → Type 0) (seat : SeatView)
    (settings : LocateSettings) (style : Style) (first : ℕ) (texts : List (List ℕ))
    (old new : Option (List ℕ)) (statuses : List ℕ) : Type 0 where
  pub lines : List Line
  pub numbered : map said lines ≡ numbered_from first texts
  pub told : AreTold gives shows seat settings style lines old new statuses

-- What became of texts is printed in their order, numbered from 1, and the status is the gravest of
-- theirs.
pub record IsRunOf (gives : List ℕ → Type 0) (shows : ℕ → Type 0) (seat : SeatView)
    (settings : LocateSettings) (style : Style) (texts : List (List ℕ)) (old new : Option (List ℕ))
    (status : ℕ) : Type 0 where
  pub statuses : List ℕ
  pub told : AreToldFrom gives shows seat settings style 1 texts old new statuses
  pub gravest : IsGravest statuses status

-- the word for the lines of the input
abbrev pub from_input : List (List ℕ)
from_input = codes "-" ∷ []

-- the texts of a run: those that are given, or for `-` those of the input
abbrev pub AreTextsOf : List (List ℕ) → Option (List ℕ) → List (List ℕ) → Type 0
AreTextsOf given input texts =
    ((given ≡ from_input) × AreInputTexts input texts) ⊎ ((given ≢ from_input) × (texts ≡ given))

-- each line begins with its text: where several are given, or those of the input
abbrev pub HasFronts : List (List ℕ) → Bool → Type 0
HasFronts given true = (given ≡ from_input) ⊎ (2 ≤ length given)
HasFronts given false = (given ≢ from_input) × (length given ≤ 1)

-- What became of the texts of the options, or of the lines of the input, is printed in their order,
-- in the style that the options ask for, and the status is the gravest.
pub record IsRunBy (gives : List ℕ → Type 0) (shows : ℕ → Type 0) (seat : SeatView)
    (settings : LocateSettings) (options : Options) (input old new : Option (List ℕ)) (status : ℕ)
    : Type 0 where
  pub texts : List (List ℕ)
  pub are : AreTextsOf (map (λ text. text.now) options.texts.items) input texts
  pub fronts : Bool
  pub has_fronts : HasFronts (map (λ text. text.now) options.texts.items) fronts
  pub style : Style
  pub is_style : IsStyle options fronts style
  pub run : IsRunOf gives shows seat settings style texts old new status

-- ---- the whole run

-- The settings by which texts are located: those of the options, the schedule of the plan, and this
-- key.
pub record AreSettings (options : Options) (plan : Plan) (key : List ℕ) (settings : LocateSettings)
    : Type 0 where
  pub caps : settings.caps ≡ options.caps
  pub key_is : settings.key ≡ key
  pub schedule : plan.attempts.time ≤ 60000 → IsScheduleOf plan.attempts settings.schedule
  pub total : as_nanos settings.total ≡ options.total * 1000000
  pub extent : settings.extent ≡ extent_of options.pinging
  pub sent_by : settings.by_sent_by ≡ options.by_sent_by
  pub told : settings.accounts ≡ accounts options
  pub draws : settings.draws ≡ unwrap_or options.detail.draws 0

-- A run over the sockets, the clock, the input and the output of a host. Nothing is known of what
-- these give and take: there are a seat, an input, and an output before and after it, so that this
-- is the status of the run.
pub record IsRunOnHost (settings : LocateSettings) (options : Options) (status : ℕ) : Type 0 where
  pub seat : SeatView
  pub input : Option (List ℕ)
  pub old : Option (List ℕ)
  pub new : Option (List ℕ)
  pub run : IsRunBy (λ octets. ⊤) (λ moment. ⊤) seat settings options input old new status

-- the same by the options, the plan and the key
pub record IsRunWith (options : Options) (plan : Plan) (key : List ℕ) (status : ℕ) : Type 0 where
  pub settings : LocateSettings
  pub are : AreSettings options plan key settings
  pub run : IsRunOnHost settings options status

-- the key of a run: that of the options, or one that was drawn
abbrev pub IsKey : (List ℕ → Type 0) → Option (List ℕ) → List ℕ → Type 0
IsKey drew None key = drew key
IsKey drew (Some seed) key = key ≡ seed

-- the same by the options alone: their plan, and their key or one that was drawn
pub record IsRunOfOptions (drew : List ℕ → Type 0) (options : Options) (status : ℕ) : Type 0 where
  pub plan : Plan
  pub is_plan : IsPlan options plan
  pub key : List ℕ
  pub is_key : IsKey drew options.seed key
  pub run : IsRunWith options plan key status
