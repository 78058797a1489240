use Rattle.std.proofs.Common.{◌≡◌, length}
use Rattle.siplocate_one.specs.Requests.{other_lines}
use Rattle.siplocate_one.specs.Talks.{goes, selected}
use Rattle.siplocate_one.proofs.Talks.{Talking}
use Rattle.siplocate_one.proofs.one.talk.Given as goal

abbrev pub invariant-loop-line : goal.invariant-loop-line
invariant-loop-line g l = record {
  can_next : (goal.iterator-loop-line g).can_next l.line-iterator;
  is_finite : (goal.iterator-loop-line g).is_finite l.line-iterator;
  selection : l.talk ≡ selected l.fn.families l.fn.request l.talk.given;
  talking : Talking l.fn.families l.fn.request (other_lines l.text) (length l.yielded) l.talk.given (goes l.fn.families l.fn.request
      l.talk.given);
}
