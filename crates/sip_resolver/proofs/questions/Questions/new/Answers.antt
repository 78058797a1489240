use Rattle.std.proofs.Common.{rules}
use Rattle.sip_resolver.proofs.Indexing.{index-none}
use Rattle.sip_resolver.specs.QuestionTables.{id_in}
use Rattle.sip_resolver.proofs.questions.Questions.new.Goals as goal

pub invariant_of-result : goal.invariant_of-result
invariant_of-result c =
    record {
      bounded = search rules;
      datagrams = rw c.in_ok-with_schedule.ensures (index-none (id_in c.new.result) c.new.ensures);
      streams = rw c.in_ok-with_schedule-2.ensures (index-none (id_in c.new-2.result) c.new-2.ensures);
    }
