-- Accounts that are told, while a seat goes on.
use Rattle.std.proofs.Common.{◌≡◌, ◌≤◌, ℕ, true, false, List, inl, inr}
use Rattle.std.proofs.lemmas.Bool.{cases_Bool}
use Rattle.std.specs.Prelude.{IfOk, Result}
use Rattle.answer_cache.specs.Seats.{GoesOn, SeatView}
use Rattle.sip_report.specs.declared.account.Account.{Account}
use Rattle.sip_report.specs.declared.line_outcome.LineOutcome.{LineOutcome}
use Rattle.sipwhere.specs.Accounts.{IsAccountOfText, IsEmpty, IsEndAccount, IsToldAccount, asked, not_asked}
use Rattle.sipwhere.specs.declared.locate_settings.LocateSettings.{LocateSettings}
use Rattle.sipwhere.proofs.Quiet.{goes-not, goes-through}
use Rattle.sipwhere.proofs.Results.{if_ok}

module _ (shows : ℕ → Type 0) (seat next : SeatView) (on : GoesOn seat next) (settings : LocateSettings) (text : List ℕ) where
  -- the account of the end of a request stays one
  pub end-account-later : (account : Account) → IsEndAccount shows seat settings text account → IsEndAccount shows next settings text account
  end-account-later account (not_asked nobody empty) = not_asked nobody empty
  end-account-later account (asked old new now latest somebody went goes shown soon is) =
      asked old new now latest somebody went (goes-through new seat next goes on) shown soon is

  -- the account that is told of a line stays one
  pub told-account-later : (line_outcome : LineOutcome) (account : Account) → IsToldAccount shows seat settings text line_outcome account
      → IsToldAccount shows next settings text line_outcome account
  told-account-later line_outcome account (inl needless) = inl needless
  told-account-later line_outcome account (inr ended) = inr (end-account-later account ended)

-- the account of a text, by what a book held at a moment that the clock had reached
pub end-account-of : {E : Type 0} (shows : ℕ → Type 0) (old new : SeatView) (settings : LocateSettings) (text : List ℕ) (now latest : ℕ)
    (it : Result Account E) → GoesOn old new → shows latest → now ≤ latest → (settings.accounts ≡ false → IfOk it IsEmpty)
    → (settings.accounts ≡ true → IfOk it (IsAccountOfText old new settings now text))
    → IfOk it (IsEndAccount shows new settings text)
end-account-of shows old new settings text now latest it on shown soon nobody somebody =
    elim (cases_Bool settings.accounts) [
      | inl asks ↦ if_ok (IsAccountOfText old new settings now text) (IsEndAccount shows new settings text) it
          (λ account is. asked old new now latest asks on (goes-not new) shown soon is) (somebody asks)
      | inr silent ↦ if_ok IsEmpty (IsEndAccount shows new settings text) it (λ account is. not_asked silent is) (nobody silent)
    ]
