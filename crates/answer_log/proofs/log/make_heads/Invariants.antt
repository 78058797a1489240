use Rattle.std.proofs.Common.{◌≡◌, ◌+◌}
use Rattle.answer_log.specs.Rules.{heads_of}
use Rattle.answer_log.proofs.log.make_heads.Given as goal

abbrev pub invariant-groups : goal.invariant-groups
invariant-groups l = record {
  book : l.pens.book ≡ l.fn.pens.book;
  next : l.pens.next ≡ l._group;
  left : l.pens.left + l._group ≡ l.fn.groups + 1;
  heads : l.heads.items ≡ heads_of l.fn.pens.book l._group;
}
