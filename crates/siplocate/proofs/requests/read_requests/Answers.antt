use Rattle.std.proofs.Common.{◌≡◌, ◌<◌, ◌+◌, length, get_or, sym, ◌∙◌, arith, rules}
use Rattle.std.specs.Str.Lines.{lines}
use Rattle.std.proofs.lemmas.Iterator.Splits.{YieldsList-from_lines}
use Rattle.std.proofs.lemmas.Iterator.Consumers.{YieldsList-from_enumerate, YieldsList-turn, YieldsList-end}
use Rattle.std.proofs.lemmas.List.{length_push}
use Rattle.std.proofs.lemmas.Result.{err_from_is_err_and}
use Rattle.std.proofs.lemmas.List.FromFn.{length-enumerate_from}
use Rattle.siplocate.proofs.Runs.{all_read, fewer, numbered, one_more, one_more_counted, one_too_many}
use Rattle.siplocate.proofs.requests.read_requests.Goals as goal
use Rattle.siplocate.proofs.requests.read_requests.Goals.{In-Some, In-None}

-- the line of this turn, and its place
turn : (c : In-Some) → (c.in-Some.at ≡ length c.lines.yielded) × (length c.lines.yielded < length (lines c.args.text.now))
    × (c.in-Some.line.now ≡ get_or (lines c.args.text.now) (length c.lines.yielded) c.in-Some.line.now)
turn c =
    let whole = YieldsList-from_enumerate (YieldsList-from_lines c.args.text.now (cc)) (cc) in
    let this = YieldsList-turn whole c.lines.yielded _ c.lines.yielded_by _ _
    (c.in-Some.at, c.in-Some.line) c.in-Some.is c.next.ensures.steps in
    numbered (lines c.args.text.now) (length c.lines.yielded) c.in-Some.at c.in-Some.line.now this.0 this.1

-- every line had its turn
all_turns : (c : In-None) → length c.lines.yielded ≡ length (lines c.args.text.now)
all_turns c =
    let whole = YieldsList-from_enumerate (YieldsList-from_lines c.args.text.now (cc)) (cc) in
    let all = YieldsList-end whole c.lines.yielded _ c.lines.yielded_by _ _ c.in-None.is c.next.ensures.steps in
    all.1 ∙ length-enumerate_from 0 (lines c.args.text.now)

pub lines-preserved : goal.lines-preserved
lines-preserved c =
    let l = c.lines in
    let this = turn (goal.at.lines-preserved c).In-Some in
    let entry = rw this.0 at c.in_ok-read_request_line.ensures.entry in
    let more = one_more (lines c.args.text.now) (length l.yielded) c.in-Some.line.now l.entries.items l.jobs.items
    c.read_request_line.new.jobs.items c.in_ok-read_request_line.field-0 this.1 this.2 l.invariant.read entry in
    record {
      can_next = search rules;
      is_finite = search rules;
      read = rw (length_push l.yielded (c.in-Some.at, c.in-Some.line), c.in_ok-push.ensures.items) more;
      counted = rw (length_push l.yielded (c.in-Some.at, c.in-Some.line))
          (one_more_counted (lines c.args.text.now) (length l.yielded) (length l.yielded + 1) c.in-Some.line.now l.jobs.items
          c.read_request_line.new.jobs.items c.in_ok-read_request_line.field-0 this.1 this.2 l.invariant.counted entry);
      limit = c.in_ok-read_request_line.ensures.limit l.invariant.limit;
    }

pub returns-in_err-read_request_line-clause-full : goal.returns-in_err-read_request_line-clause-full
returns-in_err-read_request_line-clause-full c =
    let this = turn (goal.at.returns-in_err-read_request_line-clause-full c).In-Some in
    let e = err_from_is_err_and c.from_residual.result c.from_residual.ensures.1 in
    rw e.1 (λ full.
    let crowd = c.in_err-read_request_line.ensures.full (sym e.2 ∙ full) in
    let all = one_too_many (lines c.args.text.now) (length c.lines.yielded) c.in-Some.line.now c.lines.jobs.items this.1 this.2
    c.lines.invariant.counted crowd.1 in
    fewer (lines c.args.text.now) (length c.lines.jobs.items + 1) 10001 (omega (arith, crowd.0)) all)

pub returns-clause-entries : goal.returns-clause-entries
returns-clause-entries c = all_read (lines c.args.text.now) (length c.lines.yielded) c.lines.entries.items c.lines.jobs.items
    (all_turns (goal.at.returns-clause-entries c).In-None) c.lines.invariant.read

pub returns-clause-few : goal.returns-clause-few
returns-clause-few c = c.lines.invariant.limit
