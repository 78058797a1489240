use Rattle.std.specs.Arc.{arc_value}
use Rattle.std.proofs.Common.{[], ◌∙◌}
use Rattle.srv_choice.specs.Draws.{words_of}
use Rattle.sip_selection.specs.Consulting.{inquiry}
use Rattle.sip_selection.specs.Stages.{listing_left, position_left, servers_first}
use Rattle.sip_selection.proofs.Consulting.{extends-on, needs-of}
use Rattle.sip_selection.proofs.Walking.{listing-asks, ok-both, ok-each, walks-then}
use Rattle.sip_selection.proofs.position.push_from.Goals as goal

pub push_services-requires-clause-needs : goal.push_services-requires-clause-needs
push_services-requires-clause-needs g c = rw c.in-ServiceRecords.is at c.requires.needs

pub push_listing-requires-clause-needs : goal.push_listing-requires-clause-needs
push_listing-requires-clause-needs g c =
    let a = c.args in
    let b = a.context.now in
    let s = c.in-Server in
    let needs = rw s.is at c.requires.needs in
    needs-of (inquiry b) a.walk.now.known
    (λ all. servers_first b.caps.now (words_of b.words.now) b.name.now all a.services.now needs.0 (arc_value s.listing) s.cursor s.position
    a.walk.now.targets.items)
    (λ all. listing_left b.caps.now all (arc_value s.listing) s.cursor)
    (λ all question extends. listing-asks b.caps.now (words_of b.words.now) b.name.now all a.services.now needs.0 (arc_value s.listing)
    s.cursor
    s.position a.walk.now.targets.items question) needs.1

pub push_services-requires-in-Position-clause-needs : goal.push_services-requires-in-Position-clause-needs
push_services-requires-in-Position-clause-needs g c =
    let a = c.args in
    let s = c.in-Server in
    let needs = rw s.is at c.requires.needs in
    let first = rw c.in-Position.is at (c.in_ok-stop-in-Server.ensures.left a.services.now) in (
      needs.0,
      λ all question extends is. needs.1 all question
          (extends-on a.walk.now.known c.push_listing.new.walk.known all c.in_ok-stop-in-Server.ensures.extends extends)
          ((first needs.0 []).0 all extends ∙ is),
    )

pub returns-in-ServiceRecords-clause-left : goal.returns-in-ServiceRecords-clause-left
returns-in-ServiceRecords-clause-left g c = rw c.in-ServiceRecords.is c.push_services.ensures.left

pub returns-in-Position-clause-left : goal.returns-in-Position-clause-left
returns-in-Position-clause-left g c =
    let a = c.args in
    let b = a.context.now in
    let s = c.in-Server in
    let then = c.push_listing.new.walk.known in
    let more = c.push_services-in-Position.new.walk.known in
    let first = rw c.in-Position.is at (c.in_ok-stop-in-Server.ensures.left a.services.now) in
    rw s.is (ok-both _ _ _ (λ service_step on walks. walks-then b more a.services.now
    (λ all fallback found. position_left b.caps.now (words_of b.words.now) b.name.now all a.services.now fallback c.in-Position.position
    found)
    (λ all fallback found. servers_first b.caps.now (words_of b.words.now) b.name.now all a.services.now fallback
    (arc_value s.listing) s.cursor s.position found)
    service_step a.walk.now.targets.items c.push_listing.new.walk.targets.items c.push_services-in-Position.new.walk.targets.items
    (λ fallback front all extends. (first fallback front).0 all (extends-on then more all on extends)) walks)
    c.push_services-in-Position.result c.push_services-in-Position.ensures.extends c.push_services-in-Position.ensures.left)

pub returns-in-Position-clause-extends : goal.returns-in-Position-clause-extends
returns-in-Position-clause-extends g c =
    ok-each _ _ (λ _ on. extends-on c.args.walk.now.known c.push_listing.new.walk.known c.push_services-in-Position.new.walk.known
    c.in_ok-stop-in-Server.ensures.extends on) c.push_services-in-Position.result c.push_services-in-Position.ensures.extends

pub returns-in_default-clause-left : goal.returns-in_default-clause-left
returns-in_default-clause-left g c = rw c.in-Server.is (c.in_ok-stop-in-Server.ensures.left c.args.services.now)
