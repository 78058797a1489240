use Rattle.std.proofs.Common.{◌≡◌, ◌∙◌, ◌++◌, [], inl, inr, lit≤, refl}
use Rattle.sipwhere.proofs.Told.{all-told, gravest-more, gravest-none, stays-not, stays-through, told-later, told-none, told-of, told-same}
use Rattle.sipwhere.proofs.locate_run.LocateRun.locate_open.Goals as goal

pub rounds-init : goal.rounds-init
rounds-init g c = rw (← c.self.view_is) (record {
  settings = refl;
  stays = c.self.invariant;
  stands = rw (← c.self.view_is) at c.requires.stands;
  same = (refl, refl);
  told = ([], told-none _ _ _ _ c.args.lines.now _ c.requires.told, gravest-none);
  later = stays-not _ _ _;
  range = lit≤ tt;
  closed = λ is. absurd (cc (is));
})

pub advance-requires-clause-stands : goal.advance-requires-clause-stands
advance-requires-clause-stands g c =
    let seat = g.B.AnswerBook.shown c.rounds.self-inside.seat in
    c.tell_all.ensures.stands seat (c.begin_all.ensures.stands seat (c.give_late_up.ensures.stands seat c.rounds.invariant.stands))

pub rounds-preserved : goal.rounds-preserved
rounds-preserved g c =
    let seat = g.B.AnswerBook.shown c.rounds.self-inside.seat in
    let style = c.args.style in
    let was = c.rounds.invariant.told in
    let late = c.give_late_up.ensures.same in
    let begun = c.begin_all.ensures.same in
    let stands = c.begin_all.ensures.stands seat (c.give_late_up.ensures.stands seat c.rounds.invariant.stands) in
    let before = told-same _ _ seat style c.rounds.lines c.begin_all.new.self _ _ was.0
    (begun.0 ∙ late.0, begun.1 ∙ late.1, begun.2 ∙ late.2) was.1 in
    let more = c.tell_all.ensures.tells seat stands _ was.0 before in
    let said = c.tell_all.ensures.same in
    let on = c.advance.ensures.same in
    let later = c.advance.ensures.later in
    let all = was.0 ++ more.0 in
    let there = told-same _ _ seat style c.tell_all.new.self c.advance.new.self _ _ all on more.1 in
    record {
      settings = c.rounds.invariant.settings;
      stays = c.advance.ensures.stays;
      stands = c.advance.ensures.stands;
      same = (
        on.1 ∙ said.0 ∙ begun.1 ∙ late.1 ∙ c.rounds.invariant.same.0,
        on.2 ∙ said.1 ∙ begun.2 ∙ late.2 ∙ c.rounds.invariant.same.1,
      );
      told = (
        all,
        told-later _ _ _ _ later _ style _ _ _ all there,
        rw c.and-told.ensures.status (gravest-more was.0 more.0 _ _ was.2 more.2),
      );
      later = stays-through _ _ _ _ _ c.rounds.invariant.later later;
      range = c.and-told.ensures.range c.rounds.invariant.range c.tell_all.ensures.range;
      closed = c.and-told.ensures.ended c.rounds.invariant.closed c.tell_all.ensures.closed c.rounds.invariant.range
          c.tell_all.ensures.range;
    }

pub returns-then-is_done-clause-run : goal.returns-then-is_done-clause-run
returns-then-is_done-clause-run g c =
    let seat = g.B.AnswerBook.shown c.rounds.self-inside.seat in
    let style = c.args.style in
    let was = c.rounds.invariant.told in
    let late = c.give_late_up.ensures.same in
    let begun = c.begin_all.ensures.same in
    let stands = c.begin_all.ensures.stands seat (c.give_late_up.ensures.stands seat c.rounds.invariant.stands) in
    let before = told-same _ _ seat style c.rounds.lines c.begin_all.new.self _ _ was.0
    (begun.0 ∙ late.0, begun.1 ∙ late.1, begun.2 ∙ late.2) was.1 in
    let more = c.tell_all.ensures.tells seat stands _ was.0 before in
    let said = c.tell_all.ensures.same in
    let lines : c.tell_all.new.self.lines ≡ c.args.lines.now.lines = said.0 ∙ begun.1 ∙ late.1 ∙ c.rounds.invariant.same.0 in
    let settings : c.tell_all.new.self.settings ≡ c.args.lines.now.settings = said.1 ∙ begun.2 ∙ late.2 ∙ c.rounds.invariant.same.1 in
    let all = was.0 ++ more.0 in
    record {
      count = c.tell_all.new.self.told;
      statuses = all;
      told = told-of _ _ seat style c.tell_all.new.self c.args.lines.now.lines c.args.lines.now.settings _ _ all lines settings more.1;
      gravest = inl (rw c.and-told.ensures.status (gravest-more was.0 more.0 _ _ was.2 more.2));
      whole = elim (c.is_done.ensures.0 c.if-is_done.true) [
        | inl every ↦ inl (all-told c.tell_all.new.self.told c.tell_all.new.self.lines c.args.lines.now.lines every lines)
        | inr closed ↦ inr (c.and-told.ensures.ended c.rounds.invariant.closed c.tell_all.ensures.closed c.rounds.invariant.range
            c.tell_all.ensures.range closed)
      ];
    }

pub returns-then-is_done-clause-closed : goal.returns-then-is_done-clause-closed
returns-then-is_done-clause-closed g c =
    c.and-told.ensures.ended c.rounds.invariant.closed c.tell_all.ensures.closed c.rounds.invariant.range c.tell_all.ensures.range
