use Rattle.std.proofs.Common.{◌≡◌, ◌<◌, length, true, false, Some, None, inl, inr, refl, sym, ◌∙◌, arith}
use Rattle.std.proofs.lemmas.Bool.Decides.{nat_tests}
use Rattle.std.proofs.lemmas.List.{nil_from_length}
use Rattle.sip_uri.specs.ViaClasses.{is_blank, behind_row}
use Rattle.sip_uri.specs.Readers.Vias.{next_param, stands_in, names}
use Rattle.sip_uri.proofs.ViaSteps.{shorter_read}
use Rattle.sip_uri.proofs.ViaLists.{all_read, bad_here, again_here, apart_here, repeated_here, walked_more}
use Rattle.sip_uri.proofs.via_params.check_via_params.Goals as goal
use Rattle.sip_uri.proofs.via_params.check_via_params.Goals.{In-Some}

pub returns-then-is_empty-clause-ok : goal.returns-then-is_empty-clause-ok
returns-then-is_empty-clause-ok c =
    let size : length c.behind_blanks.result.now ≡ 0 = grind (arith, nat_tests, c.is_empty.ensures, c.if-is_empty.true) in
    all_read c.args.params.now c.loop-rest.rest.now c.loop-rest.count c.loop-rest.invariant
    (sym c.behind_blanks.ensures ∙ nil_from_length c.behind_blanks.result.now size)

pub returns-in-None-clause-err : goal.returns-in-None-clause-err
returns-in-None-clause-err c =
    let size : 0 < length c.behind_blanks.result.now = grind (arith, nat_tests, c.is_empty.ensures, c.if-is_empty.false) in
    let some : 0 < length (behind_row is_blank c.loop-rest.rest.now) = rw c.behind_blanks.ensures at size in
    let none : next_param c.loop-rest.rest.now ≡ None = rw c.in-None.is at (sym c.next_param.ensures) in
    bad_here c.args.params.now c.loop-rest.rest.now c.loop-rest.count c.loop-rest.invariant some none

pub returns-in-None-clause-fault : goal.returns-in-None-clause-fault
returns-in-None-clause-fault c =
    let none : next_param c.loop-rest.rest.now ≡ None = rw c.in-None.is at (sym c.next_param.ensures) in
    inl (refl, apart_here c.args.params.now c.loop-rest.rest.now c.loop-rest.count c.loop-rest.invariant none)

found : (c : In-Some) → next_param c.loop-rest.rest.now ≡ Some (c.in-Some.name.now, c.in-Some.behind.now)
found c = rw c.in-Some.is at (sym c.next_param.ensures)

pub returns-then-stands_before-clause-err : goal.returns-then-stands_before-clause-err
returns-then-stands_before-clause-err c =
    let again : stands_in (names c.loop-rest.count c.args.params.now) c.in-Some.name.now ≡ true =
    sym c.stands_before.ensures ∙ c.if-stands_before.true in
    again_here c.args.params.now c.loop-rest.rest.now c.loop-rest.count c.loop-rest.invariant c.in-Some.name.now c.in-Some.behind.now
    (found (goal.at.returns-then-stands_before-clause-err c).In-Some) again

pub returns-then-stands_before-clause-fault : goal.returns-then-stands_before-clause-fault
returns-then-stands_before-clause-fault c =
    let e = found (goal.at.returns-then-stands_before-clause-fault c).In-Some in
    let again : stands_in (names c.loop-rest.count c.args.params.now) c.in-Some.name.now ≡ true =
    sym c.stands_before.ensures ∙ c.if-stands_before.true in
    let shorter = shorter_read c.loop-rest.rest.now c.in-Some.name.now c.in-Some.behind.now e in
    inr (
      refl,
      repeated_here c.args.params.now c.loop-rest.rest.now c.loop-rest.count c.loop-rest.invariant c.in-Some.name.now
          c.in-Some.behind.now e again shorter,
    )

pub loop-rest-smaller : goal.loop-rest-smaller
loop-rest-smaller c =
    shorter_read c.loop-rest.rest.now c.in-Some.name.now c.in-Some.behind.now (found (goal.at.loop-rest-smaller c).In-Some)

pub loop-rest-preserved : goal.loop-rest-preserved
loop-rest-preserved c =
    let e = found (goal.at.loop-rest-preserved c).In-Some in
    let new : stands_in (names c.loop-rest.count c.args.params.now) c.in-Some.name.now ≡ false =
    sym c.stands_before.ensures ∙ c.if-stands_before.false in
    walked_more c.args.params.now c.loop-rest.rest.now c.loop-rest.count c.loop-rest.invariant c.in-Some.name.now c.in-Some.behind.now e new
    (shorter_read c.loop-rest.rest.now c.in-Some.name.now c.in-Some.behind.now e)
