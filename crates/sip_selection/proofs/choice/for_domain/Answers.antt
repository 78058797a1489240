use Rattle.std.proofs.Common.{[], ap, Ok}
use Rattle.srv_choice.specs.Draws.{words_of}
use Rattle.sip_selection.specs.Known.{made}
use Rattle.sip_selection.specs.Choice as spec
use Rattle.sip_selection.proofs.Beginning.{name-asked, named_service-asked, whatever-came}
use Rattle.sip_selection.proofs.Choosing.{comes-first}
use Rattle.sip_selection.proofs.Walking.{ok-each}
use Rattle.sip_selection.proofs.choice.for_domain.Goals as goal

pub returns-in-Some-default-Ok-clause-comes : goal.returns-in-Some-default-Ok-clause-comes
returns-in-Some-default-Ok-clause-comes g c =
    let it = c.in-Some-default-Ok in
    rw (it.is-0, it.is-2) (ok-each _ _ (λ step goes. (rw c.requires.empty at goes) []) c.to_domain.result c.to_domain.ensures.goes)

pub returns-in-None-Some-Ok-clause-comes : goal.returns-in-None-Some-Ok-clause-comes
returns-in-None-Some-Ok-clause-comes g c =
    let it = c.in-None-Some-Ok in
    let b = c.args.context.now in
    rw (it.is-0, it.is-1, it.is-2)
    (ok-each _ _ (λ step goes. comes-first b c.to_service.new.walk.known
    (λ all. spec.to_service b.caps.now (words_of b.words.now) all b.name.now (Ok it.transport))
    step _ ((rw c.requires.empty at goes) [])) c.to_service.result c.to_service.ensures.goes)

pub returns-in-None-None-default-clause-comes : goal.returns-in-None-None-default-clause-comes
returns-in-None-None-default-clause-comes g c =
    let it = c.in-None-None-default in
    let b = c.args.context.now in
    rw (it.is-0, it.is-1) (ok-each _ _ (λ step goes. comes-first b c.discovered.new.walk.known
    (λ all. spec.discovered b.secure b.caps.now (words_of b.words.now) all b.name.now (spec.offered_default b.secure b.caps.now))
    step _ ((rw c.requires.empty at goes) [])) c.discovered.result c.discovered.ensures.goes)

pub returns-in-Some-default-Ok-clause-memory : goal.returns-in-Some-default-Ok-clause-memory
returns-in-Some-default-Ok-clause-memory g c =
    let it = c.in-Some-default-Ok in
    let b = c.args.context.now in
    rw (it.is-0, it.is-2) (whatever-came c.to_domain.result (name-asked b.caps.now b.name.now it.port it.transport))

pub returns-in-None-Some-Ok-clause-memory : goal.returns-in-None-Some-Ok-clause-memory
returns-in-None-Some-Ok-clause-memory g c =
    let it = c.in-None-Some-Ok in
    let b = c.args.context.now in
    rw (it.is-0, it.is-1, it.is-2)
    (whatever-came c.to_service.result (named_service-asked b.caps.now (words_of b.words.now) b.name.now it.transport))

pub returns-in-None-None-default-clause-memory : goal.returns-in-None-None-default-clause-memory
returns-in-None-None-default-clause-memory g c =
    let it = c.in-None-None-default in
    rw (it.is-0, it.is-1) c.discovered.ensures.memory

pub to_domain-requires-clause-needs : goal.to_domain-requires-clause-needs
to_domain-requires-clause-needs g c = λ all question extends is.
    let it = c.in-Some-default-Ok in
    c.requires.needs all question extends (rw (it.is-0, it.is-2) (ap (made Ok) is))

pub to_service-requires-clause-needs : goal.to_service-requires-clause-needs
to_service-requires-clause-needs g c = λ all question extends is.
    let it = c.in-None-Some-Ok in
    c.requires.needs all question extends (rw (it.is-0, it.is-1, it.is-2) is)

pub discovered-requires-clause-needs : goal.discovered-requires-clause-needs
discovered-requires-clause-needs g c = λ all question extends is.
    let it = c.in-None-None-default in
    c.requires.needs all question extends (rw (it.is-0, it.is-1) is)
