-- What became of a text, by what became of the request that was located for it.
use Rattle.std.proofs.Common.{ℕ, List, inl, inr}
use Rattle.sip_resolver.specs.declared.outcome.Outcome.{Outcome}
use Rattle.sip_selection.specs.declared.request.Request.{Request}
use Rattle.sip_report.specs.declared.line_outcome.LineOutcome.{LineOutcome}
use Rattle.sip_report.specs.declared.line_outcome.LineOutcome.TheVariants.{Became, Tried, NoSuchName, TimeOver, Bad, NotText, Memory}
use Rattle.sipwhere.specs.LineOutcomes.{EndsAs, EndsSo, IsOnlyLocated, IsReady}
use Rattle.sipwhere.specs.declared.locate_settings.LocateSettings.{LocateSettings}

module _ (gives : List ℕ → Type 0) (settings : LocateSettings) (text : List ℕ) (outcome : Outcome) where
  -- its request was located
  pub ends-located : (request : Request) → IsOnlyLocated settings text request → (it : LineOutcome)
      → EndsSo gives settings.extent request outcome it → EndsAs gives settings text outcome it
  ends-located request only (Became it) ends = inl (record { request = request; only = only; ends = ends })
  ends-located request only (Tried tries) ends = record { request = request; only = only; ends = ends }
  ends-located request only (NoSuchName name) ends = record { request = request; only = only; ends = ends }
  ends-located request only TimeOver ends = absurd ends
  ends-located request only (Bad refusal) ends = absurd ends
  ends-located request only NotText ends = absurd ends
  ends-located request only Memory ends = record { request = only.is.request; is = only.is.is }

  -- no request was located for it
  pub ends-ready : (it : LineOutcome) → IsReady settings text it → EndsAs gives settings text outcome it
  ends-ready (Became it) ready = inr ready
  ends-ready (Tried tries) ready = absurd ready
  ends-ready (NoSuchName name) ready = absurd ready
  ends-ready TimeOver ready = absurd ready
  ends-ready (Bad refusal) ready = ready
  ends-ready NotText ready = ready
  ends-ready Memory ready = ready
