use Rattle.std.proofs.Common.{[], ◌++◌, ◌≡◌, append-nil}
use Rattle.sip_selection.specs.Consulting.{nothing}
use Rattle.sip_selection.proofs.Consulting.{consulted-behind}
use Rattle.sip_selection.proofs.selection.resumed.Goals as goal

pub resume-requires-clause-needs : goal.resume-requires-clause-needs
resume-requires-clause-needs g c =
    rw (c.is_secure.ensures, c.after-walk.ensures.targets, c.after-walk.ensures.known) c.requires.needs

pub resume-requires-clause-consulted : goal.resume-requires-clause-consulted
resume-requires-clause-consulted g c = rw (c.of.ensures, ← c.of-2.ensures) (nothing c.requires.ready)

pub returns-clause-goes : goal.returns-clause-goes
returns-clause-goes g c = λ front.
    let given = rw (c.of-2.ensures, c.after-walk.ensures.known) at (consulted-behind c.resume.ensures.consulted) in
    let nothing-before : front ++ [] ≡ front = append-nil front in
    let goes = rw (c.after-walk.ensures.targets, nothing-before, c.is_secure.ensures) at (c.in_ok-step.ensures.goes front) in
    rw (c.in_ok-targets.ensures.targets, c.in_ok-targets.ensures.known, c.count.ensures, given) goes

pub returns-clause-consulted : goal.returns-clause-consulted
returns-clause-consulted g c =
    let given = rw (c.of-2.ensures, c.after-walk.ensures.known) at (consulted-behind c.resume.ensures.consulted) in
    let consulted = rw (c.of-2.ensures, c.after-walk.ensures.known, c.of.ensures) at c.resume.ensures.consulted in
    rw (c.in_ok-targets.ensures.known, c.count.ensures, given) consulted
