use Rattle.std.proofs.Common.{◌++◌}
use Rattle.srv_choice.specs.Draws.{words_of}
use Rattle.sip_selection.specs.Stages.{first_server}
use Rattle.sip_selection.specs.declared.stage.Listing.{Listing}
use Rattle.sip_selection.proofs.Walking.{listing-more, listing-asks}
use Rattle.sip_selection.proofs.position.push_listed.Goals as goal

pub returns-in_ok-new-in-Some-clause-left : goal.returns-in_ok-new-in-Some-clause-left
returns-in_ok-new-in-Some-clause-left g c = λ services fallback front.
    let a = c.args in
    let b = a.context.now in
    let it = c.in-Some in
    let kept = c.in_ok-into_arc-in-Some in
    let listing : Listing = record { transport = a.transport; answer = kept.field-0; indexes = a.indexes } in
    let stop = rw (
      c.servers_in-servers.ensures.servers,
      c.deref.ensures,
      c.as_arc.ensures,
      ← kept.ensures.same,
      c.as_slice.ensures,
      it.is,
    ) at c.in_ok-push_indexes.ensures.reaches in
    rw (stop.1, c.in_ok-new-in-Some.ensures, c.in_ok-listing-in-Some.ensures.ok, ← kept.ensures.same) (
      λ all extends. listing-more b.caps.now (words_of b.words.now) b.name.now services listing a.position a.walk.now.targets.items stop.0
          first_server it.cursor all (stop.2.0 all extends) fallback front,
      listing-asks b.caps.now (words_of b.words.now) b.name.now c.push_indexes.new.walk.known services fallback listing it.cursor
          a.position (front ++ (a.walk.now.targets.items ++ stop.0)) it.question stop.2.1,
    )
