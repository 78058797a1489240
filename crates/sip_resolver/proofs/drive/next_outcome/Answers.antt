use Rattle.std.proofs.Common.{◌≡◌, None, inl, inr, refl, subst, rules}
use Rattle.sip_resolver.specs.Expiries.{timeouts_of, untils_of}
use Rattle.sip_resolver.specs.Questions.{IsLeast, deadlines_of}
use Rattle.sip_resolver.specs.Driven.{begun}
use Rattle.sip_resolver.proofs.Deadlines.{none-at-front}
use Rattle.sip_resolver.proofs.Drives.{drives-through}
use Rattle.sip_resolver.proofs.Standing.{works-not}
use Rattle.sip_resolver.proofs.Working.{works-through}
use Rattle.sip_resolver.proofs.drive.next_outcome.Goals as goal
use Rattle.sip_resolver.proofs.drive.next_outcome.Goals.{then-is_none-via-then-is_none, then-is_none-via-else-is_none+then-is_over}

pub returns-then-is_none-clause-none : goal.returns-then-is_none-clause-none
returns-then-is_none-clause-none g c = λ _. (
  c.send_and_poll.ensures.none (search rules),
  elim c.then-is_none.branch [
    | then-is_none-via-then-is_none w ↦
        let none : c.next_timeout.result ≡ None = search rules in
        let resolver = c.send_and_poll.new.resolver in
        inl
        (none-at-front (deadlines_of resolver.questions) (untils_of resolver.requests)
        (subst (IsLeast (timeouts_of resolver.requests resolver.questions)) none c.next_timeout.ensures))
    | then-is_none-via-else-is_none+then-is_over w ↦ inr (search rules)
  ],
)

pub returns-in-Some-send_and_poll-clause-works : goal.returns-in-Some-send_and_poll-clause-works
returns-in-Some-send_and_poll-clause-works g c =
    works-through _ _ _ _ _ c.rounds.invariant.works c.send_and_poll.ensures.works

pub returns-in-Some-send_and_poll-clause-drives : goal.returns-in-Some-send_and_poll-clause-drives
returns-in-Some-send_and_poll-clause-drives g c =
    drives-through _ _ _ _ c.rounds.invariant.drives c.send_and_poll.ensures.drives

pub returns-then-is_none-clause-works : goal.returns-then-is_none-clause-works
returns-then-is_none-clause-works g c = works-through _ _ _ _ _ c.rounds.invariant.works c.send_and_poll.ensures.works

pub returns-then-is_none-clause-drives : goal.returns-then-is_none-clause-drives
returns-then-is_none-clause-drives g c =
    drives-through _ _ _ _ c.rounds.invariant.drives c.send_and_poll.ensures.drives

pub rounds-init : goal.rounds-init
rounds-init g c = record {
  stays = c.requires.made_here;
  works = works-not _ _ (g.B.AnswerBook.shown c.args.seat.now);
  stand = c.requires.stand;
  same = (refl, (λ h. refl));
  drives = begun;
}

pub rounds-preserved : goal.rounds-preserved
rounds-preserved g c =
    let so-far = c.rounds.invariant in
    let round = works-through _ _ _ _ _ c.send_and_poll.ensures.works c.receive_once.ensures.works in
    let driven = drives-through _ _ _ _ c.send_and_poll.ensures.drives c.receive_once.ensures.drives in
    record {
      stays = c.receive_once.ensures.stays;
      works = works-through _ _ _ _ _ so-far.works round;
      stand = c.receive_once.ensures.stand;
      same = search rules;
      drives = drives-through _ _ _ _ so-far.drives driven;
    }
