use Rattle.sip_resolver.proofs.Dealing.{all-before, all-dealt, one-due}
use Rattle.sip_resolver.proofs.laws.law_questions_are_dealt_with.Goals as goal

pub returns-clause-dealt : goal.returns-clause-dealt
returns-clause-dealt g c = λ now asked first last it.
    all-dealt now asked g.F.Facts.gives g.F.Facts.shows g.I.Ids.draws first last it

pub returns-clause-before : goal.returns-clause-before
returns-clause-before g c = λ now asked least first last it is early.
    all-before now asked g.F.Facts.gives g.F.Facts.shows g.I.Ids.draws least first last it is early

pub returns-clause-due : goal.returns-clause-due
returns-clause-due g c = λ now asked least first last it is over.
    one-due now asked g.F.Facts.gives g.F.Facts.shows g.I.Ids.draws least first last it is over
