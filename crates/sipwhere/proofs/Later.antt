-- What became of lines stays so while a resolver is driven.
use Rattle.std.proofs.Common.{◌≡◌, ℕ, zero, suc, ◌<◌, inl, inr, List, [], ◌∷◌, ◌++◌, Option, Some, None, get_or, length, replicate, set, sym, ap, ◌∙◌, append_assoc, arith}
use Rattle.std.proofs.lemmas.List.Elements.{All-weaker, Contains-append_left}
use Rattle.std.specs.List.{AllZip}
use mathlib.Core.List.{IsPrefix}
use Rattle.answer_cache.specs.Seats.{SeatView, offer_of}
use Rattle.dns_message.specs.declared.question.Question.{Question}
use Rattle.sip_selection.specs.Choice.{Resolution, need, refused, targets}
use Rattle.sip_selection.specs.Known.{Given}
use Rattle.sip_resolver.specs.Outcomes.{Counts, IsCached, IsChosen, IsLacking, IsOutcome, Sought}
use Rattle.sip_resolver.specs.Works.{Works}
use Rattle.sip_resolver.specs.declared.outcome.Outcome.{Outcome}
use Rattle.sip_resolver.specs.declared.outcome.Outcome.TheVariants as outcomes
use Rattle.sipwhere.specs.LineOutcomes.{IsLineOutcome, without_address}
use Rattle.sipwhere.specs.Accounts.{IsToldAccount}
use Rattle.sipwhere.specs.OpenLines.{IsLineResult, IsResultOf}
use Rattle.sipwhere.specs.Runs.{StaysSo}
use Rattle.sipwhere.specs.declared.line_result.LineResult.{LineResult}
use Rattle.sipwhere.proofs.Quiet.{prefix-through}
use Rattle.sipwhere.proofs.Results.{if_ok}
use Rattle.sipwhere.proofs.ToldAccounts.{told-account-later}
use Rattle.sip_report.specs.declared.line_outcome.LineOutcome.{LineOutcome}
use Rattle.sip_report.specs.declared.line_outcome.LineOutcome.TheVariants.{Became, Tried, NoSuchName, TimeOver, Bad, NotText, Memory}
use Rattle.sipwhere.specs.declared.line.Line.{Line}
use Rattle.sipwhere.specs.declared.locate_settings.LocateSettings.{LocateSettings}

-- ---- lists of which the items fit place by place

pub zip-set : {A B : Type 0} (R : A → B → Type 0) (xs : List A) (ys : List B) (k : ℕ) (y : B) → k < length xs → AllZip R xs ys
    → ((d : A) → R (get_or xs k d) y) → AllZip R xs (set ys k y)
zip-set R [] ys k y inside all one = absurd (omega (arith, inside))
zip-set R (x ∷ xs) [] k y inside all one = absurd all
zip-set R (x ∷ xs) (z ∷ zs) zero y inside all one = (one x, all.1)
zip-set R (x ∷ xs) (z ∷ zs) (suc k) y inside all one = (all.0, zip-set R xs zs k y (omega (arith, inside)) all.1 one)

zip-weaker : {A B : Type 0} (R S : A → B → Type 0) → ((x : A) (y : B) → R x y → S x y) → (xs : List A) (ys : List B)
    → AllZip R xs ys → AllZip S xs ys
zip-weaker R S weaker [] [] all = all
zip-weaker R S weaker [] (y ∷ ys) all = absurd all
zip-weaker R S weaker (x ∷ xs) [] all = absurd all
zip-weaker R S weaker (x ∷ xs) (y ∷ ys) all = (weaker x y all.0, zip-weaker R S weaker xs ys all.1)

pub zip-at : {A B : Type 0} (R : A → B → Type 0) (xs : List A) (ys : List B) (k : ℕ) (d : A) (y : B) → k < length xs → AllZip R xs ys
    → y ≡ get_or ys k y → R (get_or xs k d) y
zip-at R [] ys k d y inside all at = absurd (omega (arith, inside))
zip-at R (x ∷ xs) [] k d y inside all at = absurd all
zip-at R (x ∷ xs) (z ∷ zs) zero d y inside all at = rw at all.0
zip-at R (x ∷ xs) (z ∷ zs) (suc k) d y inside all at = zip-at R xs zs k d y (omega (arith, inside)) all.1 at

module _ (gives : List ℕ → Type 0) (shows : ℕ → Type 0) where
  -- nothing is known of any line
  pub results-not : (seat : SeatView) (settings : LocateSettings) (lines : List Line)
      → AllZip (IsResultOf gives shows seat settings) lines (replicate (length lines) None)
  results-not seat settings [] = tt
  results-not seat settings (line ∷ lines) = (tt, results-not seat settings lines)

  module _ (old new : SeatView) (works : Works gives shows old new) where
    cached-later : (given : Given) → IsCached shows old.seen given → IsCached shows new.seen given
    cached-later given it = record {
      history = it.history;
      before = prefix-through it.history old.seen new.seen it.before works.goes_on.seen;
      now = it.now;
      shown = it.shown;
      found = it.found;
    }

    lacking-later : (question : Question) → IsLacking shows old.seen question → IsLacking shows new.seen question
    lacking-later question it = record {
      history = it.history;
      before = prefix-through it.history old.seen new.seen it.before works.goes_on.seen;
      now = it.now;
      shown = it.shown;
      none = it.none;
    }

    counts-later : (given : Given) → Counts gives shows old given → Counts gives shows new given
    counts-later given (inl cached) = inl (cached-later given cached)
    counts-later given (inr replied) =
        let offer = offer_of given.question given.answer replied.1.now in
        inr (
          replied.0,
          record {
            now = replied.1.now;
            stands = rw works.offered (Contains-append_left old.offered works.offers offer replied.1.stands);
          },
        )

    chosen-later : (sought : Sought) (resolution : Resolution) → IsChosen (Counts gives shows old) sought resolution
        → IsChosen (Counts gives shows new) sought resolution
    chosen-later sought resolution it = record {
      given = it.given;
      counted = All-weaker (Counts gives shows old) (Counts gives shows new) counts-later it.given it.counted;
      is = it.is;
    }

    pub outcome-later : (sought : Sought) (outcome : Outcome) → IsOutcome gives shows old sought outcome
        → IsOutcome gives shows new sought outcome
    outcome-later sought (outcomes.Targets list) it = (chosen-later sought (targets list.targets) it.0, it.1)
    outcome-later sought (outcomes.Refused reason) it = chosen-later sought (refused reason) it
    outcome-later sought (outcomes.NoAnswer question) it = (chosen-later sought (need question) it.0, lacking-later question it.1)
    outcome-later sought (outcomes.NoServer question) it = (chosen-later sought (need question) it.0, lacking-later question it.1)
    outcome-later sought (outcomes.BadReply question refusal) it = (chosen-later sought (need question) it.0, it.1)
    outcome-later sought outcomes.Memory it = it

    module _ (settings : LocateSettings) where
      pub line_outcome-later : (line : Line) (line_outcome : LineOutcome) → IsLineOutcome gives shows old settings line line_outcome
          → IsLineOutcome gives shows new settings line line_outcome
      line_outcome-later line (Became outcome) (inl it) = inl (record {
        request = it.request;
        is = it.is;
        place = it.place;
        became = (it.became.0, it.became.1, outcome-later it.became.0 outcome it.became.2);
        tried = it.tried;
      })
      line_outcome-later line (Became outcome) (inr named) = inr named
      line_outcome-later line (Tried tries) it =
          let list = it.became.1 in
          record {
            request = it.request;
            is = it.is;
            place = it.place;
            became = (
              it.became.0,
              list,
              it.became.2,
              outcome-later it.became.0 (outcomes.Targets list) it.became.3,
              it.became.4,
            );
            tried = it.tried;
          }
      line_outcome-later line (NoSuchName name) it = record {
        request = it.request;
        is = it.is;
        place = it.place;
        became = (it.became.0, it.became.1, outcome-later it.became.0 without_address it.became.2, it.became.3);
        tried = tt;
      }
      line_outcome-later line TimeOver it = record { request = it.request; is = it.is; place = it.place; became = tt; tried = tt }
      line_outcome-later line (Bad refusal) it = it
      line_outcome-later line NotText it = it
      line_outcome-later line Memory it = it

      result-later : (line : Line) (it : LineResult) → IsLineResult gives shows old settings line it
          → IsLineResult gives shows new settings line it
      result-later line it is = record {
        became = line_outcome-later line it.line_outcome is.became;
        account = if_ok (IsToldAccount shows old settings line.text.now it.line_outcome)
            (IsToldAccount shows new settings line.text.now it.line_outcome) it.account
            (told-account-later shows old new works.goes_on settings line.text.now it.line_outcome) is.account;
      }

      result-of-later : (line : Line) (it : Option LineResult) → IsResultOf gives shows old settings line it
          → IsResultOf gives shows new settings line it
      result-of-later line None is = tt
      result-of-later line (Some it) is = result-later line it is

      pub results-later : (lines : List Line) (results : List (Option LineResult))
          → AllZip (IsResultOf gives shows old settings) lines results → AllZip (IsResultOf gives shows new settings) lines results
      results-later lines results all =
          zip-weaker (IsResultOf gives shows old settings) (IsResultOf gives shows new settings) result-of-later lines results all

    -- what is so of lines stays so
    pub stays-so : StaysSo gives shows old new
    stays-so = record { goes_on = works.goes_on; became = line_outcome-later }
