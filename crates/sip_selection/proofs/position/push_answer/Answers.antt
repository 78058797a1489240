use Rattle.std.proofs.Common.{◌++◌, sym}
use Rattle.srv_choice.specs.Draws.{words_of}
use Rattle.dns_answers.specs.Found.{answer_in}
use Rattle.sip_selection.specs.Callers.{kinds_of}
use Rattle.sip_selection.specs.Consulting.{inquiry}
use Rattle.sip_selection.specs.Known.{servers_in}
use Rattle.sip_selection.specs.Services.{offer_by}
use Rattle.sip_selection.specs.Stages.{first_server, servers_left}
use Rattle.sip_selection.proofs.Consulting.{needs-of}
use Rattle.sip_selection.proofs.Walking.{answer-asks, ok-each, walks-too, answer-listed, answer-unlisted, fits-unlisted, goes-on-unlisted}
use Rattle.sip_selection.proofs.position.push_answer.Goals as goal

pub push_listed-requires-clause-needs : goal.push_listed-requires-clause-needs
push_listed-requires-clause-needs g c =
    let a = c.args in
    let b = a.context.now in
    let answer = answer_in a.answer in
    let is = rw (c.servers_in-servers.ensures.servers, c.deref.ensures, c.as_arc.ensures, c.in-Listed.is) at c.order_by-outcome.ensures in
    needs-of (inquiry b) a.walk.now.known
    (λ all. offer_by all (kinds_of b.caps.now.families) b.caps.now.is_fixed (words_of b.words.now) a.transport a.position.word answer)
    (λ all. servers_left b.caps.now all a.transport (servers_in answer.records) c.in-Listed.indexes first_server)
    (λ all question extends. answer-asks b.caps.now (words_of b.words.now) all a.transport answer a.position.word c.in-Listed.indexes
    c.in-Listed.field-1 (sym is) question) c.requires.needs

pub returns-in-Listed-clause-left : goal.returns-in-Listed-clause-left
returns-in-Listed-clause-left g c =
    let a = c.args in
    let b = a.context.now in
    let is = rw (c.servers_in-servers.ensures.servers, c.deref.ensures, c.as_arc.ensures, c.in-Listed.is) at c.order_by-outcome.ensures in
    let left = rw (c.behind-behind.ensures, c.in-Listed.is) at c.push_listed.ensures.left in
    ok-each _ _ (λ service_step walks services. walks-too b c.push_listed.new.walk.known services _ _ service_step
    a.walk.now.targets.items _
    (λ all extends fallback found. answer-listed b.caps.now (words_of b.words.now) b.name.now all services fallback a.position found
    a.transport
    (answer_in a.answer) c.in-Listed.indexes c.in-Listed.field-1 (sym is))
    (walks services)) c.push_listed.result left

pub returns-in-Absent-clause-left : goal.returns-in-Absent-clause-left
returns-in-Absent-clause-left g c =
    let a = c.args in
    let b = a.context.now in
    let outcome = c.order_by-outcome.result in
    let is = rw (c.servers_in-servers.ensures.servers, c.deref.ensures, c.as_arc.ensures) at c.order_by-outcome.ensures in
    rw c.behind-behind.ensures (λ services fallback front. (
      λ all extends. answer-unlisted b.caps.now (words_of b.words.now) b.name.now all services fallback a.position
          (front ++ a.walk.now.targets.items) a.transport (answer_in a.answer) outcome c.in-Absent.is is,
      tt,
    ))

pub returns-in-Absent-clause-fits : goal.returns-in-Absent-clause-fits
returns-in-Absent-clause-fits g c =
    rw c.behind-behind.ensures (fits-unlisted c.args.position c.order_by-outcome.result c.in-Absent.is c.requires.words)

pub returns-in-Absent-clause-goes_on : goal.returns-in-Absent-clause-goes_on
returns-in-Absent-clause-goes_on g c =
    rw c.behind-behind.ensures (goes-on-unlisted c.args.position c.order_by-outcome.result c.in-Absent.is)
