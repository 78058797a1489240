use Rattle.std.proofs.Common.{sym, subst}
use Rattle.sipwhere.proofs.Later.{outcome-later, results-later, stays-so}
use Rattle.sipwhere.proofs.Meant.{meant-inside, meant-one}
use Rattle.sipwhere.proofs.ToldAccounts.{end-account-of}
use Rattle.sipwhere.proofs.open_lines.OpenLines.advance.Goals as goal

pub account_at-account-requires-clause-inside : goal.account_at-account-requires-clause-inside
account_at-account-requires-clause-inside g c =
    let own = meant-one c.self.inside.settings c.self.inside.lines.now _ _ _ c.in-Some.ensures.once c.self.invariant.own in
    rw (c.note_time.ensures, c.number-place.ensures)
    (meant-inside c.self.inside.settings c.self.inside.lines.now c.in-Some.ended.sought own)

pub settle-requires : goal.settle-requires
settle-requires g c =
    let own = meant-one c.self.inside.settings c.self.inside.lines.now _ _ _ c.in-Some.ensures.once c.self.invariant.own in
    rw (c.note_time.ensures) (record {
      inside = meant-inside c.self.inside.settings c.self.inside.lines.now c.in-Some.ended.sought own;
      own = own;
    })

pub returns-in-Some-clause-stands : goal.returns-in-Some-clause-stands
returns-in-Some-clause-stands g c =
    let before = rw (← c.self.view_is) at c.requires.stands in
    let settings = c.self.inside.settings in
    let lines = c.self.inside.lines.now in
    let law = c.law_requests_stand_as_seats_go_on.ensures in
    let account = c.account_at-account.ensures in
    let works = law.works _ _ _ account.goes_on account.stores_nothing c.in-Some.ensures.works in
    c.settle.ensures.stands _ (rw (c.note_time.ensures) (record {
      requests = law.stand _ _ _ account.goes_on account.stores_nothing c.in-Some.ensures.stand;
      results = results-later _ _ _ _ works settings lines c.self.inside.results.items before.results;
    })) (outcome-later _ _ _ _ (law.quiet _ _ account.goes_on account.stores_nothing) _ _ c.in-Some.ensures.outcome)
    (λ d. rw (c.note_time.ensures) (end-account-of g.C.Clock.shows _ _ settings _ c.moment_of-begun.result c.now.result
    c.account_at-account.result account.goes_on c.now.ensures c.moment_of-begun.ensures (rw (c.note_time.ensures) at account.not_asked)
    (λ asks. (rw (c.note_time.ensures, c.number-place.ensures) at account.asked) asks d)))

pub returns-in_default-clause-stands : goal.returns-in_default-clause-stands
returns-in_default-clause-stands g c =
    let before = rw (← c.self.view_is) at c.requires.stands in
    let lines = c.self.inside.lines.now in
    record {
      requests = c.poll_over.ensures.stand;
      results = results-later _ _ _ _ c.poll_over.ensures.works c.self.inside.settings lines c.self.inside.results.items before.results;
    }

pub returns-in-Some-clause-later : goal.returns-in-Some-clause-later
returns-in-Some-clause-later g c =
    let law = c.law_requests_stand_as_seats_go_on.ensures in
    let account = c.account_at-account.ensures in
    stays-so _ _ _ _ (law.works _ _ _ account.goes_on account.stores_nothing c.in-Some.ensures.works)

pub returns-in_default-clause-later : goal.returns-in_default-clause-later
returns-in_default-clause-later g c = stays-so _ _ _ _ c.poll_over.ensures.works
