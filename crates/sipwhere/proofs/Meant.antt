-- Whose requests are inside a resolver, and what became of lines.
use Rattle.std.proofs.Common.{◌≡◌, ℕ, zero, suc, false, ◌+◌, ◌-◌, ◌<◌, inl, inr, List, [], ◌∷◌, Option, Some, None, get_or, length, set, refl, sym, ap, subst, ◌∙◌, arith}
use Rattle.std.specs.List.{AllZip, sum_by}
use Rattle.std.specs.Prelude.{IfOk}
use Rattle.std.proofs.lemmas.List.Elements.{at_read}
use Rattle.std.proofs.lemmas.List.Sums.{sum_by_push}
use Rattle.answer_cache.specs.Seats.{SeatView}
use Rattle.sip_resolver.specs.Draws.{drawn}
use Rattle.sip_resolver.specs.Outcomes.{IsOutcome, Sought}
use Rattle.sip_resolver.specs.Requests.{AreSame, IsBack, RequestsView, weight}
use Rattle.sip_resolver.specs.Resolvers.{ResolverView, with_request}
use Rattle.sip_resolver.specs.Tasks.{TaskView, sought_of}
use Rattle.sip_resolver.specs.declared.outcome.Outcome.{Outcome}
use Rattle.sip_selection.specs.Selections.{begun}
use Rattle.sip_selection.specs.declared.caps.Caps.{Caps}
use Rattle.sip_selection.specs.declared.request.Request.{Request}
use Rattle.sipwhere.specs.LineOutcomes.{AreAlike, EndsAs, IsLineOutcome, IsOfLine, IsOnlyLocated, NeedsNoReply}
use Rattle.sipwhere.proofs.Later.{zip-set}
use Rattle.sipwhere.specs.Accounts.{IsEmpty, IsEndAccount, IsToldAccount}
use Rattle.sipwhere.specs.OpenLines.{AreMeant, IsLineResult, IsMeant, IsOwn, IsResultOf}
use Rattle.sipwhere.specs.declared.line_result.LineResult.{LineResult}
use Rattle.sipwhere.proofs.Results.{if_ok}
use Rattle.sip_report.specs.declared.line_outcome.LineOutcome.{LineOutcome}
use Rattle.sip_report.specs.declared.line_outcome.LineOutcome.TheVariants.{Became, Tried, NoSuchName, TimeOver, Bad, NotText, Memory}
use Rattle.sipwhere.specs.declared.line.Line.{Line}
use Rattle.sipwhere.specs.declared.locate_settings.LocateSettings.{LocateSettings}

-- ---- numbers that are 0

abbrev apart : ℕ → ℕ → ℕ
apart a b = a - b + (b - a)

-- a number where another one is 0, and else 0
abbrev where_none : ℕ → ℕ → ℕ
where_none zero x = x
where_none (suc k) x = 0

none-where : (k x : ℕ) → (k ≡ 0 → x ≡ 0) → where_none k x ≡ 0
none-where zero x is = is refl
none-where (suc k) x is = refl

where-none : (k x : ℕ) → k ≡ 0 → where_none k x ≡ 0 → x ≡ 0
where-none zero x none is = is
where-none (suc k) x none is = absurd (omega (arith, none))

-- ---- what stands at a place

at-itself : {X : Type 0} (xs : List X) (k : ℕ) (d : X) → get_or xs k d ≡ get_or xs k (get_or xs k d)
at-itself [] k d = refl
at-itself (x ∷ xs) zero d = refl
at-itself (x ∷ xs) (suc k) d = at-itself xs k d

-- ---- what is submitted

pub weighs-more : (h : Sought → ℕ) (old new : ResolverView) (number : ℕ) (request : Request) (caps : Caps) (words : List ℕ)
    → new ≡ with_request number request caps words None old
    → weight h new.requests
    ≡ weight h old.requests + h (record { number = number; request = request; caps = caps; words = words; until = None })
weighs-more h old new number request caps words is =
    let task : TaskView = record { number = number; selection = begun request caps words; cut = false; until = None } in
    let more = sum_by_push (λ (it : TaskView). h (sought_of it)) old.requests.ready task in
    rw is (omega (arith, more))

-- ---- what is inside

module _ (settings : LocateSettings) (lines : List Line) where
  pub meant-same : (old new : RequestsView) → AreSame old new → AreMeant settings lines old → AreMeant settings lines new
  meant-same old new same own h none = same.1 h ∙ own h none

  pub meant-one : (ended : Sought) (old new : RequestsView) → IsBack ended new old → AreMeant settings lines old
      → IsMeant settings lines ended
  meant-one ended old new back own h none =
      let all = own h none in
      let weighs = back.weighs h in
      omega (arith, all, weighs)

  pub meant-others : (ended : Sought) (old new : RequestsView) → IsBack ended new old → AreMeant settings lines old
      → AreMeant settings lines new
  meant-others ended old new back own h none =
      let all = own h none in
      let weighs = back.weighs h in
      omega (arith, all, weighs)

  -- one more is submitted, of the line at a place
  pub meant-more : (place : ℕ) (line : Line) → place < length lines → line ≡ get_or lines place line → (old new : RequestsView)
      → ((h : Sought → ℕ) → ((it : Sought) → it.number ≡ place → IsOfLine settings line it → h it ≡ 0) → weight h new ≡ weight h old)
      → AreMeant settings lines old → AreMeant settings lines new
  meant-more place line inside at old new weighs own h none =
      weighs h (λ it number of. none it (record {
        inside = omega (arith, inside, number);
        of = λ d. subst (λ n. IsOfLine settings (get_or lines n d) it) (sym number)
            (at_read lines (λ l. IsOfLine settings l it) place line inside at of d);
      })) ∙ own h none

  pub meant-left : (old new : RequestsView) (gone : List Sought)
      → ((h : Sought → ℕ) → weight h old ≡ weight h new + sum_by h gone) → AreMeant settings lines old
      → AreMeant settings lines new
  meant-left old new gone kept own h none =
      let all = own h none in
      let weighs = kept h in
      omega (arith, all, weighs)

  pub meant-next : (place : ℕ) (d : Line) → place < length lines → (old new : RequestsView)
      → ((h : Sought → ℕ) → ((it : Sought) → it.number ≡ place → IsOfLine settings (get_or lines place d) it → h it ≡ 0)
      → weight h new ≡ weight h old)
      → AreMeant settings lines old → AreMeant settings lines new
  meant-next place d inside old new weighs own = meant-more place (get_or lines place d) inside (at-itself lines place d) old new weighs own

  pub meant-inside : (sought : Sought) → IsMeant settings lines sought → sought.number < length lines
  meant-inside sought meant =
      let none = meant (λ (it : Sought). it.number + 1 - length lines)
      (λ it own. (let inside = own.inside in omega (arith, inside))) in
      omega (arith, none)

  -- the one request of a line, under its place
  module _ (place : ℕ) (line : Line) (at : line ≡ get_or lines place line) (request : Request)
      (only : IsOnlyLocated settings line.text.now request) where
    abbrev one : Sought
    one = record { number = place; request = request; caps = settings.caps; words = drawn settings.key line.number; until = None }

    is-one : (it : Sought) → IsOwn settings lines it → it.number ≡ place → it ≡ one
    is-one it own number =
        let here = ap (λ n. get_or lines n line) number ∙ sym at in
        let of : IsOfLine settings line it = subst (λ l. IsOfLine settings l it) here (own.of line) in
        let same = sym (only.only it.request of.is) in
        λ i. record { number = number i; request = same i; caps = of.caps i; words = of.words i; until = of.until i }

    pub meant-alike : (it : Sought) → it.number ≡ place → IsMeant settings lines it → AreAlike it one
    meant-alike it number meant measure =
        let far = λ (each : Sought). apart each.number place in
        let other = λ (each : Sought). apart (measure each) (measure one) in
        let none = meant (λ (each : Sought). where_none (far each) (other each))
        (λ each own. none-where (far each) (other each)
        (λ here. (let same = ap measure (is-one each own (omega (arith, here))) in omega (arith, same)))) in
        let here : far it ≡ 0 = omega (arith, number) in
        let nothing = where-none (far it) (other it) here none in
        omega (arith, nothing)

-- ---- what became of a line

module _ (gives : List ℕ → Type 0) (shows : ℕ → Type 0) (seat : SeatView) (settings : LocateSettings) where
  pub line_outcome-needless : (line : Line) (line_outcome : LineOutcome) → NeedsNoReply settings line.text.now line_outcome
      → IsLineOutcome gives shows seat settings line line_outcome
  line_outcome-needless line (Became outcome) it = inr it
  line_outcome-needless line (Tried tries) it = absurd it
  line_outcome-needless line (NoSuchName name) it = absurd it
  line_outcome-needless line TimeOver it = record { request = it.request; is = it.is; place = 0; became = tt; tried = tt }
  line_outcome-needless line (Bad refusal) it = it
  line_outcome-needless line NotText it = it
  line_outcome-needless line Memory it = it

  pub line_outcome-ended : (lines : List Line) (line : Line) (ended : Sought) (outcome : Outcome) (line_outcome : LineOutcome)
      → line ≡ get_or lines ended.number line → IsMeant settings lines ended → EndsAs gives settings line.text.now outcome line_outcome
      → IsOutcome gives shows seat ended outcome → IsLineOutcome gives shows seat settings line line_outcome
  line_outcome-ended lines line ended outcome (Became it) at meant (inl ends) is = inl (record {
    request = ends.request;
    is = ends.only.is;
    place = ended.number;
    became = (
      ended,
      meant-alike settings lines ended.number line at ends.request ends.only ended refl meant,
      rw ends.ends.0 is,
    );
    tried = ends.ends.1;
  })
  line_outcome-ended lines line ended outcome (Became it) at meant (inr named) is = inr named
  line_outcome-ended lines line ended outcome (Tried tries) at meant ends is = record {
    request = ends.request;
    is = ends.only.is;
    place = ended.number;
    became = (
      ended,
      ends.ends.targets,
      meant-alike settings lines ended.number line at ends.request ends.only ended refl meant,
      subst (IsOutcome gives shows seat ended) ends.ends.has is,
      ends.ends.so,
    );
    tried = ends.ends.extent_is;
  }
  line_outcome-ended lines line ended outcome (NoSuchName name) at meant ends is = record {
    request = ends.request;
    is = ends.only.is;
    place = ended.number;
    became = (
      ended,
      meant-alike settings lines ended.number line at ends.request ends.only ended refl meant,
      subst (IsOutcome gives shows seat ended) ends.ends.0 is,
      ends.ends.1,
    );
    tried = tt;
  }
  line_outcome-ended lines line ended outcome TimeOver at meant ends is = absurd ends
  line_outcome-ended lines line ended outcome (Bad refusal) at meant ends is = ends
  line_outcome-ended lines line ended outcome NotText at meant ends is = ends
  line_outcome-ended lines line ended outcome Memory at meant ends is = ends

  -- what is reported of the line at a place is kept
  results-set : (lines : List Line) (results : List (Option LineResult)) (place : ℕ) (line : Line) (it : LineResult)
      → place < length lines → line ≡ get_or lines place line → AllZip (IsResultOf gives shows seat settings) lines results
      → IsLineResult gives shows seat settings line it
      → AllZip (IsResultOf gives shows seat settings) lines (set results place (Some it))
  results-set lines results place line it inside at all is =
      zip-set (IsResultOf gives shows seat settings) lines results place (Some it) inside all
      (at_read lines (λ l. IsResultOf gives shows seat settings l (Some it)) place line inside at is)

  -- of a line that needs no reply
  pub results-needless : (lines : List Line) (results : List (Option LineResult)) (place : ℕ) (d : Line) (line_outcome : LineOutcome)
      (it : LineResult) → place < length lines → AllZip (IsResultOf gives shows seat settings) lines results
      → NeedsNoReply settings (get_or lines place d).text.now line_outcome → it.line_outcome ≡ line_outcome → IfOk it.account IsEmpty
      → AllZip (IsResultOf gives shows seat settings) lines (set results place (Some it))
  results-needless lines results place d line_outcome it inside all needless same empty =
      let line = get_or lines place d in
      let so : NeedsNoReply settings line.text.now it.line_outcome = subst (NeedsNoReply settings line.text.now) (sym same) needless in
      results-set lines results place line it inside (at-itself lines place d) all (record {
        became = line_outcome-needless line it.line_outcome so;
        account = if_ok IsEmpty (IsToldAccount shows seat settings line.text.now it.line_outcome) it.account
            (λ account nothing. inl (so, nothing)) empty;
      })

  -- of a line whose request ended
  pub results-ended : (lines : List Line) (results : List (Option LineResult)) (place : ℕ) (d : Line) (ended : Sought)
      (outcome got : Outcome) (it : LineResult) → place < length lines → place ≡ ended.number → got ≡ outcome
      → IsMeant settings lines ended → EndsAs gives settings (get_or lines place d).text.now got it.line_outcome
      → IsOutcome gives shows seat ended outcome
      → IfOk it.account (IsEndAccount shows seat settings (get_or lines ended.number d).text.now)
      → AllZip (IsResultOf gives shows seat settings) lines results
      → AllZip (IsResultOf gives shows seat settings) lines (set results place (Some it))
  results-ended lines results place d ended outcome got it inside number same meant ends is account all =
      let line = get_or lines place d in
      let at : line ≡ get_or lines place line = at-itself lines place d in
      let here : line ≡ get_or lines ended.number line = subst (λ n. line ≡ get_or lines n line) number at in
      let so : EndsAs gives settings line.text.now outcome it.line_outcome =
      subst (λ o. EndsAs gives settings line.text.now o it.line_outcome) same ends in
      let told : IfOk it.account (IsEndAccount shows seat settings line.text.now) =
      subst (λ n. IfOk it.account (IsEndAccount shows seat settings (get_or lines n d).text.now)) (sym number) account in
      results-set lines results place line it inside at all (record {
        became = line_outcome-ended lines line ended outcome it.line_outcome here meant so is;
        account = if_ok (IsEndAccount shows seat settings line.text.now)
            (IsToldAccount shows seat settings line.text.now it.line_outcome) it.account (λ account of. inr of) told;
      })
