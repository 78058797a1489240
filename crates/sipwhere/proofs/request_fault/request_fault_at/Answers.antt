use Rattle.std.proofs.Common.{ℕ, List, Option, None, Some, IfSome, refl}
use Rattle.sip_fault.specs.Faults.{IsUri, IsVia, IsViaFault}
use Rattle.sip_selection.specs.RequestLines.{BeginsVia}
use Rattle.sip_selection.specs.declared.request.Request.TheVariants.{Uri, Via}
use Rattle.sipwhere.specs.LineOutcomes.{of_via, of_uri}
use Rattle.sipwhere.proofs.request_fault.request_fault_at.Goals as goal

of_each : {P Q : ℕ → Type 0} (found : Option ℕ) → ((at : ℕ) → P at → Q at) → IfSome found P → IfSome found Q
of_each None so is = tt
of_each (Some at) so is = so at is

pub returns-in_err-at-in-Some-clause-none : goal.returns-in_err-at-in-Some-clause-none
returns-in_err-at-in-Some-clause-none c = λ e.
    let via : IsVia c.in-Some.rest.now = rw c.as_bytes.ensures.value at (c.in_err-at-in-Some.ensures.none.0 refl) in
    record { request = Via via.0; is = (c.in-Some.rest.now, c.in-Some.ensures.begins, via.1) }

pub returns-in_ok-at-in-Some-clause-at : goal.returns-in_ok-at-in-Some-clause-at
returns-in_ok-at-in-Some-clause-at c =
    let fault : IsViaFault c.in-Some.rest.now c.in_ok-at-in-Some.at = rw c.as_bytes.ensures.value at c.in_ok-at-in-Some.ensures.at in
    of_via c.in-Some.rest.now c.in_ok-at-in-Some.at c.in-Some.ensures.begins fault refl

pub returns-in-None-clause-none : goal.returns-in-None-clause-none
returns-in-None-clause-none c = λ e.
    let uri : IsUri c.args.text.now = rw c.as_bytes-in-None.ensures.value at (c.uri_fault_at.ensures.none.0 e) in
    record { request = Uri uri.0; is = uri.1 }

pub returns-in-None-clause-at : goal.returns-in-None-clause-at
returns-in-None-clause-at c =
    let apart : (rest : List ℕ) → BeginsVia c.args.text.now rest → ⊥ =
    λ rest begins. let all = c.in-None.ensures.all rest begins in absurd cc in
    of_each c.uri_fault_at.result (λ at fault. of_uri apart (rw c.as_bytes-in-None.ensures.value at fault)) c.uri_fault_at.ensures.at
