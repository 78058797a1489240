use Rattle.std.proofs.Common.{◌≡◌, true, not, Some, None, sym, ap, ◌∙◌}
use Rattle.sip_uri.specs.Classes.{is_user_octet}
use Rattle.sip_uri.specs.Readers.Pairs.{behind_end}
use Rattle.sip_uri.specs.Readers.Runs.{is_some_run}
use Rattle.sip_uri.proofs.UserRuns.{and_true, user_is, user_found, user_bad}
use Rattle.sip_uri.proofs.userinfo.is_userinfo.Goals as goal

pub returns-in-None : goal.returns-in-None
returns-in-None c =
    let front = c.run_in_front in
    let e : behind_end 58 front.result.1.now ≡ None = rw c.in-None.is at (sym c.behind_end.ensures) in
    user_bad c.args.text.now front.result.0.now front.result.1.now front.ensures.joined front.ensures.run e front.ensures.ends

pub returns-in-Some-None : goal.returns-in-Some-None
returns-in-Some-None c =
    let front = c.run_in_front in
    let e : behind_end 58 front.result.1.now ≡ Some None =
    rw (c.in-Some-None.is, c.in-Some-None.field-0-is) at (sym c.behind_end.ensures) in
    sym (user_is front.result.0.now front.ensures.run c.is_empty.result c.is_empty.ensures)
    ∙ sym (and_true (is_some_run is_user_octet front.result.0.now))
    ∙ user_found c.args.text.now front.result.0.now front.result.1.now front.ensures.joined front.ensures.run None e

pub returns-then-not-is_empty : goal.returns-then-not-is_empty
returns-then-not-is_empty c =
    let front = c.run_in_front in
    let e : behind_end 58 front.result.1.now ≡ Some (Some c.in-Some-Some.password.now) =
    rw (c.in-Some-Some.is, c.in-Some-Some.field-0-is) at (sym c.behind_end.ensures) in
    let some : is_some_run is_user_octet front.result.0.now ≡ true =
    user_is front.result.0.now front.ensures.run c.is_empty-in-Some-Some.result c.is_empty-in-Some-Some.ensures
    ∙ ap not c.if-not-is_empty.true in
    c.is_run.ensures
    ∙ rw some at (user_found c.args.text.now front.result.0.now front.result.1.now front.ensures.joined front.ensures.run
    (Some c.in-Some-Some.password.now) e)
