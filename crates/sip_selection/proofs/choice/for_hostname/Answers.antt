use Rattle.std.proofs.Common.{[], ◌∙◌}
use Rattle.srv_choice.specs.Draws.{words_of}
use Rattle.sip_selection.specs.Consulting.{nothing}
use Rattle.sip_selection.specs.Requests.{request_of}
use Rattle.sip_selection.proofs.Beginning.{whatever-came}
use Rattle.sip_selection.proofs.Choosing.{domain-is}
use Rattle.sip_uri.specs.Views.{name_of}
use Rattle.sip_selection.proofs.choice.for_hostname.Goals as goal

pub returns-in-Some-clause-consulted : goal.returns-in-Some-clause-consulted
returns-in-Some-clause-consulted g c = nothing c.requires.ready

pub returns-in-Some-clause-comes : goal.returns-in-Some-clause-comes
returns-in-Some-clause-comes g c =
    let a = c.args in
    let request = request_of a.request.now in
    let name = name_of a.hostname.now in
    let refused = rw (
      c.is_secure-secure.ensures,
      c.port-port.ensures,
      c.spoken-spoken.ensures,
      c.transport_offered-transport.ensures,
    ) at c.in-Some.ensures.refused in
    rw c.requires.target (
      λ all extends. domain-is request a.caps.now (words_of a.words.now) all name _ _ ∙ refused (words_of a.words.now) name all,
      tt,
    )

pub returns-in_err-name-clause-consulted : goal.returns-in_err-name-clause-consulted
returns-in_err-name-clause-consulted g c = nothing c.requires.ready

pub returns-in_err-name-clause-memory : goal.returns-in_err-name-clause-memory
returns-in_err-name-clause-memory g c =
    let a = c.args in
    let name = name_of a.hostname.now in
    let asked = rw (
      c.is_secure-secure.ensures,
      c.port-port.ensures,
      c.spoken-spoken.ensures,
      c.transport_offered-transport.ensures,
    ) at (c.refused_at_once.ensures.asked c.in_default.is) in
    whatever-came c.from_residual.result
    (rw (c.requires.target, domain-is (request_of a.request.now) a.caps.now (words_of a.words.now) [] name _ _)
    (asked (words_of a.words.now) name))

pub for_name-requires-clause-target : goal.for_name-requires-clause-target
for_name-requires-clause-target g c = rw c.in_ok-name.ensures c.requires.target
