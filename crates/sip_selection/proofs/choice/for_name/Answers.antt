use Rattle.std.proofs.Common.{◌≡◌, [], ◌∙◌, ap, Err}
use Rattle.srv_choice.specs.Draws.{words_of}
use Rattle.sip_selection.specs.Choice.{chosen, resolved}
use Rattle.sip_selection.specs.Consulting.{nothing}
use Rattle.sip_selection.specs.Requests.{request_of}
use Rattle.sip_selection.proofs.Choosing.{domain-is}
use Rattle.sip_selection.proofs.Walking.{ok-each}
use Rattle.sip_selection.proofs.choice.for_name.Goals as goal

pub for_domain-requires-clause-needs : goal.for_domain-requires-clause-needs
for_domain-requires-clause-needs g c = λ all question extends is.
    let a = c.args in
    let request = request_of a.request.now in
    let here = rw (
      c.is_secure.ensures,
      c.port.ensures,
      c.spoken.ensures,
      c.transport_offered-transport.ensures,
    ) at is in
    let whole : chosen request a.caps.now (words_of a.words.now) all ≡ Err question =
    rw c.requires.target (domain-is request a.caps.now (words_of a.words.now) all a.name.now _ _ ∙ here) in
    ap resolved whole

pub for_domain-requires-clause-consulted : goal.for_domain-requires-clause-consulted
for_domain-requires-clause-consulted g c = rw (c.of.ensures, c.of-2.ensures) (nothing c.requires.ready)

pub returns-clause-comes : goal.returns-clause-comes
returns-clause-comes g c =
    let a = c.args in
    let comes = rw (
      c.is_secure.ensures,
      c.port.ensures,
      c.spoken.ensures,
      c.transport_offered-transport.ensures,
    ) at c.for_domain.ensures.comes in
    rw c.requires.target (ok-each _ _ (λ step first. (
      λ all extends. domain-is (request_of a.request.now) a.caps.now (words_of a.words.now) all a.name.now _ _ ∙ first.0 all extends,
      first.1,
    )) c.for_domain.result comes)

pub returns-clause-memory : goal.returns-clause-memory
returns-clause-memory g c =
    let a = c.args in
    let asked = rw (
      c.is_secure.ensures,
      c.port.ensures,
      c.spoken.ensures,
      c.transport_offered-transport.ensures,
    ) at c.for_domain.ensures.memory in
    rw (c.requires.target, domain-is (request_of a.request.now) a.caps.now (words_of a.words.now) [] a.name.now _ _) asked
