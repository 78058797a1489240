use Rattle.wokhleas.proofs.Handling.{submitted-by, taken-by}
use Rattle.wokhleas.proofs.Refusing.{neither-submitted, uri-refused}
use Rattle.wokhleas.proofs.requests.submit_text.Goals as goal

pub returns-in-Ok-clause-submitted : goal.returns-in-Ok-clause-submitted
returns-in-Ok-clause-submitted c =
    let a = c.args in
    submitted-by a.number a.text.now a.transports.now a.families a.until _ _ c.in-Some.ensures.are c.in_ok-until.ensures.until
    c.submit_uri.result _ _
    (taken-by a.number a.text.now _ _ _ c.in-Ok.ensures.found c.submit_uri.result _ _ c.submit_uri.ensures.taken_in
    c.submit_uri.ensures.gains)

pub returns-in-Err-clause-submitted : goal.returns-in-Err-clause-submitted
returns-in-Err-clause-submitted c =
    let a = c.args in
    submitted-by a.number a.text.now a.transports.now a.families a.until _ _ c.in-Some.ensures.are c.in_ok-until.ensures.until
    c.submit_via.result _ _ c.submit_via.ensures.taken_in

pub returns-in-Ok-clause-refused : goal.returns-in-Ok-clause-refused
returns-in-Ok-clause-refused c =
    let a = c.args in
    uri-refused a.number a.text.now a.transports.now a.families a.until _ c.submit_uri.result
    ((c.in-Some.caps, c.in-Some.ensures.are), (c.in_ok-until.until, c.in_ok-until.ensures.until)) _ c.in-Ok.ensures.found
    c.submit_uri.ensures.refused

pub returns-in-Err-clause-refused : goal.returns-in-Err-clause-refused
returns-in-Err-clause-refused c =
    let a = c.args in
    neither-submitted a.number a.text.now a.transports.now a.families a.until _ c.submit_via.result
    ((c.in-Some.caps, c.in-Some.ensures.are), (c.in_ok-until.until, c.in_ok-until.ensures.until))
    c.in-Err.ensures.seen c.submit_via.ensures.refused
