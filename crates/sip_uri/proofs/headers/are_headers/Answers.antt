use Rattle.std.proofs.Common.{◌≡◌, true, false, Some, None, sym, ◌∙◌}
use Rattle.ip_text.specs.Parts.{before, behind}
use Rattle.ip_text.proofs.Cutting.{length_behind}
use Rattle.sip_uri.specs.Classes.{is_header_octet}
use Rattle.sip_uri.specs.Readers.Pairs.{is_value_run}
use Rattle.sip_uri.specs.Readers.Runs.{is_run}
use Rattle.sip_uri.specs.Readers.Uris.{is_header}
use Rattle.sip_uri.proofs.DomainTexts.{both_of}
use Rattle.sip_uri.proofs.ParamRuns.{no_header}
use Rattle.sip_uri.proofs.ParamSteps.{all_more, all_good, all_bad}
use Rattle.sip_uri.proofs.headers.are_headers.Goals as goal
use Rattle.sip_uri.proofs.headers.are_headers.Goals.{In-Some-behind}

pub returns-in_default : goal.returns-in_default
returns-in_default c =
    sym (all_bad is_header 38 c.args.text.now c.loop-name.rest.now c.loop-name.invariant
    (no_header (before 38 c.loop-name.rest.now) c.in_default.ensures))

pub is_header-requires-clause-value : goal.is_header-requires-clause-value
is_header-requires-clause-value c =
    rw c.in-Some.ensures.value
    (both_of (is_run is_header_octet (before 61 (before 38 c.loop-name.rest.now)))
    (is_value_run is_header_octet (behind 61 (before 38 c.loop-name.rest.now))) c.in-Some.ensures.runs).1

pub returns-then-not-is_header : goal.returns-then-not-is_header
returns-then-not-is_header c =
    let bad : is_header (before 38 c.loop-name.rest.now) ≡ false =
    rw (c.in-Some.ensures.name, c.in-Some.ensures.value) at (sym c.is_header.ensures ∙ c.if-not-is_header.true) in
    sym (all_bad is_header 38 c.args.text.now c.loop-name.rest.now c.loop-name.invariant bad)

pub returns-in-None : goal.returns-in-None
returns-in-None c =
    let none : behind 38 c.loop-name.rest.now ≡ None = rw c.in-None.is at (sym c.in-Some.ensures.behind) in
    let good : is_header (before 38 c.loop-name.rest.now) ≡ true =
    rw (c.in-Some.ensures.name, c.in-Some.ensures.value) at (sym c.is_header.ensures ∙ c.if-not-is_header.false) in
    sym (all_good is_header 38 c.args.text.now c.loop-name.rest.now c.loop-name.invariant none good)

more : (c : In-Some-behind) → behind 38 c.loop-name.rest.now ≡ Some c.in-Some-behind.behind.now
more c = rw c.in-Some-behind.is at (sym c.in-Some.ensures.behind)

pub loop-name-smaller : goal.loop-name-smaller
loop-name-smaller c =
    length_behind 38 c.loop-name.rest.now c.in-Some-behind.behind.now (more (goal.at.loop-name-smaller c).In-Some-behind)

pub loop-name-preserved : goal.loop-name-preserved
loop-name-preserved c =
    let good : is_header (before 38 c.loop-name.rest.now) ≡ true =
    rw (c.in-Some.ensures.name, c.in-Some.ensures.value) at (sym c.is_header.ensures ∙ c.if-not-is_header.false) in
    all_more is_header 38 c.args.text.now c.loop-name.rest.now c.loop-name.invariant c.in-Some-behind.behind.now
    (more (goal.at.loop-name-preserved c).In-Some-behind) good
