-- What is told of many lines.
use Rattle.std.proofs.Common.{◌≡◌, ◌⊎◌, ℕ, ◌+◌, ◌≤◌, nat_lt, List, [], ◌∷◌, ◌++◌, Option, get_or, length, take, refl, sym, ap, subst, inl, inr, map, append_assoc, ◌∙◌, arith}
use Rattle.std.proofs.lemmas.Bool.{cases_Bool}
use Rattle.std.proofs.lemmas.Bool.Decides.{nat_tests}
use Rattle.std.proofs.lemmas.List.{map-append, take_all, take_more}
use Rattle.std.proofs.lemmas.List.Elements.{All-append, All-cons, All-nil, All-weaker}
use Rattle.answer_cache.specs.Seats.{GoesOn, SeatView}
use Rattle.sipwhere.specs.LineInputs.{numbered_from, said}
use Rattle.sip_report.specs.Lines.{graver_of, gravity}
use Rattle.sipwhere.specs.OpenLines.{HasTold, OpenView, TellsFirst}
use Rattle.sipwhere.specs.Runs.{AreRun, AreTold, AreToldFrom, IsGravest, IsOneOf, IsReported, IsRun, StaysSo, Tells}
use Rattle.sipwhere.specs.declared.line.Line.{Line}
use Rattle.sip_report.specs.declared.report.Style.{Style}
use Rattle.sipwhere.specs.declared.locate_settings.LocateSettings.{LocateSettings}
use Rattle.sip_report.specs.declared.line_outcome.LineOutcome.{LineOutcome}
use Rattle.sipwhere.proofs.Inputs.{numbered-append}
use Rattle.sipwhere.proofs.Quiet.{goes-not, goes-through}
use Rattle.sipwhere.proofs.ToldAccounts.{told-account-later}

-- ---- the gravest status

graver-first : (a b : ℕ) → gravity a ≤ gravity (graver_of a b)
graver-first a b =
    elim (cases_Bool (nat_lt (gravity a) (gravity b))) [
      | inl less ↦ rw less (grind (arith, nat_tests))
      | inr not' ↦ rw not' (omega arith)
    ]

graver-second : (a b : ℕ) → gravity b ≤ gravity (graver_of a b)
graver-second a b =
    elim (cases_Bool (nat_lt (gravity a) (gravity b))) [
      | inl less ↦ rw less (omega arith)
      | inr not' ↦ rw not' (grind (arith, nat_tests))
    ]

graver-one : (a b : ℕ) → (graver_of a b ≡ a) ⊎ (graver_of a b ≡ b)
graver-one a b =
    elim (cases_Bool (nat_lt (gravity a) (gravity b))) [
      | inl less ↦ inr (rw less refl)
      | inr not' ↦ inl (rw not' refl)
    ]

-- 0 is one of any numbers, or 0
one-zero : (ys : List ℕ) → IsOneOf 0 ys
one-zero [] = refl
one-zero (y ∷ ys) = inr (one-zero ys)

one-left : (s : ℕ) (xs ys : List ℕ) → IsOneOf s xs → IsOneOf s (xs ++ ys)
one-left s [] ys is = subst (λ n. IsOneOf n ys) (sym is) (one-zero ys)
one-left s (x ∷ xs) ys (inl is) = inl is
one-left s (x ∷ xs) ys (inr rest) = inr (one-left s xs ys rest)

one-right : (s : ℕ) (xs ys : List ℕ) → IsOneOf s ys → IsOneOf s (xs ++ ys)
one-right s [] ys is = is
one-right s (x ∷ xs) ys is = inr (one-right s xs ys is)

pub gravest-none : IsGravest [] 0
gravest-none = record { none_graver = All-nil (λ it. gravity it ≤ gravity 0); one = refl }

pub gravest-one : (s : ℕ) → IsGravest (s ∷ []) s
gravest-one s = record {
  none_graver = All-cons (λ it. gravity it ≤ gravity s) s [] (omega arith) (All-nil (λ it. gravity it ≤ gravity s));
  one = inl refl;
}

pub gravest-more : (xs ys : List ℕ) (a b : ℕ) → IsGravest xs a → IsGravest ys b → IsGravest (xs ++ ys) (graver_of a b)
gravest-more xs ys a b first second =
    let Q : ℕ → Type 0 = λ it. gravity it ≤ gravity (graver_of a b) in
    let low = graver-first a b in
    let high = graver-second a b in
    record {
      none_graver = All-append Q xs ys
          (All-weaker (λ it. gravity it ≤ gravity a) Q (λ it le. omega (arith, le, low)) xs first.none_graver)
          (All-weaker (λ it. gravity it ≤ gravity b) Q (λ it le. omega (arith, le, high)) ys second.none_graver);
      one = elim (graver-one a b) [
        | inl is ↦ subst (λ n. IsOneOf n (xs ++ ys)) (sym is) (one-left a xs ys first.one)
        | inr is ↦ subst (λ n. IsOneOf n (xs ++ ys)) (sym is) (one-right b xs ys second.one)
      ];
    }

-- ---- what is printed

pub all-told : (count : ℕ) (lines others : List Line) → count ≡ length lines → lines ≡ others → length others ≤ count
all-told count lines others every same =
    let size = ap (λ (l : List Line). length l) same in
    omega (arith, every, size)

module _ (gives : List ℕ → Type 0) (shows : ℕ → Type 0) (seat : SeatView) (settings : LocateSettings) (style : Style) where
  -- one line more is told
  pub told-more : (lines : List Line) (line : Line) (old middle new : Option (List ℕ)) (statuses : List ℕ) (status : ℕ)
      → AreTold gives shows seat settings style lines old middle statuses → Tells gives shows seat settings style line middle new status
      → AreTold gives shows seat settings style (lines ++ line ∷ []) old new (statuses ++ status ∷ [])
  told-more [] line old middle new statuses status told tells = (
    new,
    status,
    [],
    subst (λ o. Tells gives shows seat settings style line o new status) told.0 tells,
    (refl, refl),
    ap (λ l. l ++ status ∷ []) told.1,
  )
  told-more (first ∷ lines) line old middle new statuses status told tells = (
    told.0,
    told.1,
    told.2 ++ status ∷ [],
    told.3,
    told-more lines line told.0 middle new told.2 status told.4 tells,
    ap (λ l. l ++ status ∷ []) told.5,
  )

-- a seat that has not gone on
pub stays-not : (gives : List ℕ → Type 0) (shows : ℕ → Type 0) (seat : SeatView) → StaysSo gives shows seat seat
stays-not gives shows seat = record { goes_on = goes-not seat; became = λ settings line it is. is }

-- a seat that has gone on twice
pub stays-through : (gives : List ℕ → Type 0) (shows : ℕ → Type 0) (old middle new : SeatView) → StaysSo gives shows old middle
    → StaysSo gives shows middle new → StaysSo gives shows old new
stays-through gives shows old middle new front back = record {
  goes_on = goes-through old middle new front.goes_on back.goes_on;
  became = λ settings line it is. back.became settings line it (front.became settings line it is);
}

module _ (gives : List ℕ → Type 0) (shows : ℕ → Type 0) where
  reported-later : (before after : SeatView) → GoesOn before after → (settings : LocateSettings) (style : Style) (line : Line)
      (line_outcome : LineOutcome) (old new : Option (List ℕ)) (status : ℕ)
      → IsReported shows before settings style line line_outcome old new status ⊎ (status ≡ 5)
      → IsReported shows after settings style line line_outcome old new status ⊎ (status ≡ 5)
  reported-later before after on settings style line line_outcome old new status (inl it) = inl (record {
    tries = it.tries;
    took = it.took;
    account = it.account;
    accounted = told-account-later shows before after on settings line.text.now line_outcome it.account it.accounted;
    printed = it.printed;
  })
  reported-later before after on settings style line line_outcome old new status (inr five) = inr five

  -- what was told at a seat is so when the seat has gone on
  pub told-later : (before after : SeatView) → StaysSo gives shows before after → (settings : LocateSettings) (style : Style)
      (lines : List Line) (old new : Option (List ℕ)) (statuses : List ℕ) → AreTold gives shows before settings style lines old new statuses
      → AreTold gives shows after settings style lines old new statuses
  told-later before after later settings style [] old new statuses told = told
  told-later before after later settings style (line ∷ lines) old new statuses told = (
    told.0,
    told.1,
    told.2,
    record {
      line_outcome = told.3.line_outcome;
      became = later.became settings line told.3.line_outcome told.3.became;
      told = reported-later before after later.goes_on settings style line told.3.line_outcome old told.0 told.1 told.3.told;
    },
    told-later before after later settings style lines told.0 new told.2 told.4,
    told.5,
  )

  -- the first line that was not reported is told, and then it was
  pub told-first : (seat : SeatView) (style : Style) (it next : OpenView) (start old new : Option (List ℕ)) (statuses : List ℕ) (status : ℕ)
      → HasTold gives shows seat style it start old statuses → TellsFirst gives shows seat style it old new status
      → next.told ≡ it.told + 1 → next.lines ≡ it.lines → next.settings ≡ it.settings
      → HasTold gives shows seat style next start new (statuses ++ status ∷ [])
  told-first seat style it next start old new statuses status told tells count lines settings =
      let none : Line = record { number = 0; text = record { ref_ptr = (0, 0); now = [] } } in
      let line = get_or it.lines it.told none in
      let front = take it.told it.lines in
      let more = told-more gives shows seat it.settings style front line start old new statuses status told (tells.tells none) in
      let all = subst (λ l. AreTold gives shows seat it.settings style l start new (statuses ++ status ∷ []))
      (sym (take_more it.lines it.told none tells.inside)) more in
      rw (count, lines, settings) all

  -- the same behind what was told before, and with the gravest status
  pub told-on : (seat : SeatView) (style : Style) (it next : OpenView) (start middle new : Option (List ℕ)) (before more : List ℕ)
      (gravest status : ℕ) → HasTold gives shows seat style it start middle (before ++ more) → IsGravest more gravest
      → TellsFirst gives shows seat style it middle new status → next.told ≡ it.told + 1 → next.lines ≡ it.lines
      → next.settings ≡ it.settings
      → (all : List ℕ) × HasTold gives shows seat style next start new (before ++ all) × IsGravest all (graver_of gravest status)
  told-on seat style it next start middle new before more gravest status told is first count lines settings = (
    more ++ status ∷ [],
    subst (λ l. HasTold gives shows seat style next start new l) (append_assoc before more (status ∷ []))
        (told-first seat style it next start middle new (before ++ more) status told first count lines settings),
    gravest-more more (status ∷ []) gravest status is (gravest-one status),
  )

  -- nothing was told
  pub told-none : (seat : SeatView) (style : Style) (it : OpenView) (start : Option (List ℕ)) → it.told ≡ 0
      → HasTold gives shows seat style it start start []
  told-none seat style it start none = rw none (refl, refl)

  -- what was told stays told while lines are begun and given up
  pub told-same : (seat : SeatView) (style : Style) (it next : OpenView) (start now : Option (List ℕ)) (statuses : List ℕ)
      → (next.told ≡ it.told) × (next.lines ≡ it.lines) × (next.settings ≡ it.settings)
      → HasTold gives shows seat style it start now statuses
      → HasTold gives shows seat style next start now statuses
  told-same seat style it next start now statuses same told = rw (same.0, same.1, same.2) told

  -- what was told of lines
  pub told-of : (seat : SeatView) (style : Style) (it : OpenView) (lines : List Line) (settings : LocateSettings)
      (start now : Option (List ℕ)) (statuses : List ℕ) → it.lines ≡ lines → it.settings ≡ settings
      → HasTold gives shows seat style it start now statuses
      → AreTold gives shows seat settings style (take it.told lines) start now statuses
  told-of seat style it lines settings start now statuses same from told =
      subst (λ s. AreTold gives shows seat s style (take it.told lines) start now statuses) from
      (subst (λ l. AreTold gives shows seat it.settings style (take it.told l) start now statuses) same told)

module _ (gives : List ℕ → Type 0) (shows : ℕ → Type 0) (seat : SeatView) (settings : LocateSettings) (style : Style) where
  told-append : (lines others : List Line) (old middle new : Option (List ℕ)) (statuses more : List ℕ)
      → AreTold gives shows seat settings style lines old middle statuses → AreTold gives shows seat settings style others middle new more
      → AreTold gives shows seat settings style (lines ++ others) old new (statuses ++ more)
  told-append [] others old middle new statuses more told second =
      subst (λ o. AreTold gives shows seat settings style others o new (statuses ++ more)) told.0
      (subst (λ l. AreTold gives shows seat settings style others middle new (l ++ more)) (sym told.1) second)
  told-append (line ∷ lines) others old middle new statuses more told second = (
    told.0,
    told.1,
    told.2 ++ more,
    told.3,
    told-append lines others told.0 middle new told.2 more told.4 second,
    ap (λ l. l ++ more) told.5,
  )

  -- what was told of all lines, but where the status is 5
  pub run-of : (lines : List Line) (old new : Option (List ℕ)) (status : ℕ) → AreRun gives shows seat settings style lines old new status
      → IsRun gives shows seat settings style lines old new status
  run-of lines old new status it =
      elim it.gravest [
        | inr five ↦ inl five
        | inl gravest ↦ elim it.whole [
          | inr five ↦ inl five
          | inl all ↦ inr (
            it.statuses,
            subst (λ l. AreTold gives shows seat settings style l old new it.statuses) (take_all it.count lines all) it.told,
            gravest,
          )
        ]
      ]

-- a run, and one of more lines after it
pub run-more : (gives : List ℕ → Type 0) (shows : ℕ → Type 0) (before after : SeatView) (settings : LocateSettings) (style : Style)
    (lines others : List Line) (old middle new : Option (List ℕ)) (first second status : ℕ) → StaysSo gives shows before after
    → ((first ≡ 5) ⊎ (second ≡ 5) → status ≡ 5) → status ≡ graver_of first second
    → IsRun gives shows before settings style lines old middle first → IsRun gives shows after settings style others middle new second
    → IsRun gives shows after settings style (lines ++ others) old new status
run-more gives shows before after settings style lines others old middle new first second status later fault is (inl five) more =
    inl (fault (inl five))
run-more gives shows before after settings style lines others old middle new first second status later fault is (inr told) (inl five) =
    inl (fault (inr five))
run-more gives shows before after settings style lines others old middle new first second status later fault is (inr told) (inr more) =
    let there = told-later gives shows before after later settings style lines old middle told.0 told.1 in
    inr (
      told.0 ++ more.0,
      told-append gives shows after settings style lines others old middle new told.0 more.0 there more.1,
      rw is (gravest-more told.0 more.0 first second told.2 more.2),
    )

-- ---- texts

module _ (gives : List ℕ → Type 0) (shows : ℕ → Type 0) (settings : LocateSettings) (style : Style) where
  -- no text was told
  pub texts-none : (seat : SeatView) (now : Option (List ℕ)) → AreToldFrom gives shows seat settings style 1 [] now now []
  texts-none seat now = record { lines = []; numbered = refl; told = (refl, refl) }

  -- texts behind others
  pub texts-append : (before after : SeatView) (first : ℕ) (texts others : List (List ℕ)) (old middle new : Option (List ℕ))
      (statuses more : List ℕ) → StaysSo gives shows before after
      → AreToldFrom gives shows before settings style first texts old middle statuses
      → AreToldFrom gives shows after settings style (first + length texts) others middle new more
      → AreToldFrom gives shows after settings style first (texts ++ others) old new (statuses ++ more)
  texts-append before after first texts others old middle new statuses more later told second = record {
    lines = told.lines ++ second.lines;
    numbered = map-append said told.lines second.lines ∙ ap (λ l. l ++ map said second.lines) told.numbered
        ∙ ap (λ l. numbered_from first texts ++ l) second.numbered ∙ sym (numbered-append first texts others);
    told = told-append gives shows after settings style told.lines second.lines old middle new statuses more
        (told-later gives shows before after later settings style told.lines old middle statuses told.told) second.told;
  }

  -- what was told of texts, and then of lines behind them
  pub texts-on : (before after : SeatView) (texts others : List (List ℕ)) (lines : List Line) (old middle new : Option (List ℕ))
      (first second status : ℕ) → StaysSo gives shows before after → ((first ≡ 5) ⊎ (second ≡ 5) → status ≡ 5)
      → status ≡ graver_of first second
      → (first ≡ 5) ⊎ ((statuses : List ℕ) × AreToldFrom gives shows before settings style 1 texts old middle statuses
      × IsGravest statuses first)
      → map said lines ≡ numbered_from (1 + length texts) others → IsRun gives shows after settings style lines middle new second
      → (status ≡ 5) ⊎ ((statuses : List ℕ) × AreToldFrom gives shows after settings style 1 (texts ++ others) old new statuses
      × IsGravest statuses status)
  texts-on before after texts others lines old middle new first second status later fault is (inl five) numbered run =
      inl (fault (inl five))
  texts-on before after texts others lines old middle new first second status later fault is (inr told) numbered (inl five) =
      inl (fault (inr five))
  texts-on before after texts others lines old middle new first second status later fault is (inr told) numbered (inr run) =
      inr (
        told.0 ++ run.0,
        texts-append before after 1 texts others old middle new told.0 run.0 later told.1
            (record { lines = lines; numbered = numbered; told = run.1 }),
        rw is (gravest-more told.0 run.0 first second told.2 run.2),
      )
