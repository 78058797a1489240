use Rattle.std.proofs.Common.{◌++◌}
use Rattle.std.specs.Arc.{arc_value}
use Rattle.srv_choice.specs.Draws.{words_of}
use Rattle.sip_selection.proofs.Walking.{listing-done, listing-more, listing-asks}
use Rattle.sip_selection.proofs.position.push_listing.Goals as goal

pub push_indexes-requires-clause-needs : goal.push_indexes-requires-clause-needs
push_indexes-requires-clause-needs g c = rw (
  c.servers_in-servers.ensures.servers,
  c.deref-2.ensures,
  c.deref.ensures,
  c.as_slice-indexes.ensures,
  c.deref-3.ensures,
  c.deref-4.ensures,
) c.requires.needs

pub returns-in-None-clause-left : goal.returns-in-None-clause-left
returns-in-None-clause-left g c = λ services fallback front.
    let a = c.args in
    let b = a.context.now in
    let stop = rw (
      c.servers_in-servers.ensures.servers,
      c.deref-2.ensures,
      c.deref.ensures,
      c.as_slice-indexes.ensures,
      c.deref-3.ensures,
      c.deref-4.ensures,
      c.in-None.is,
    ) at c.in_ok-push_indexes.ensures.reaches in
    rw stop.1 (
      λ all extends. listing-done b.caps.now (words_of b.words.now) b.name.now services (arc_value a.listing.now) a.position
          a.walk.now.targets.items stop.0
          a.from all (stop.2 all extends) fallback front,
      tt,
    )

pub returns-in_ok-new-in-Some-clause-left : goal.returns-in_ok-new-in-Some-clause-left
returns-in_ok-new-in-Some-clause-left g c = λ services fallback front.
    let a = c.args in
    let b = a.context.now in
    let it = c.in-Some in
    let stop = rw (
      c.servers_in-servers.ensures.servers,
      c.deref-2.ensures,
      c.deref.ensures,
      c.as_slice-indexes.ensures,
      c.deref-3.ensures,
      c.deref-4.ensures,
      it.is,
    ) at c.in_ok-push_indexes.ensures.reaches in
    rw (stop.1, c.in_ok-new-in-Some.ensures, c.in_ok-listing-in-Some.ensures) (
      λ all extends. listing-more b.caps.now (words_of b.words.now) b.name.now services (arc_value a.listing.now) a.position
          a.walk.now.targets.items stop.0
          a.from it.cursor all (stop.2.0 all extends) fallback front,
      listing-asks b.caps.now (words_of b.words.now) b.name.now c.push_indexes.new.walk.known services fallback (arc_value a.listing.now)
          it.cursor
          a.position (front ++ (a.walk.now.targets.items ++ stop.0)) it.question stop.2.1,
    )
