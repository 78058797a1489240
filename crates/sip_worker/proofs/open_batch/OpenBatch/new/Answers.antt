use Rattle.std.proofs.lemmas.List.Elements.{All-nil}
use Rattle.sip_worker.proofs.Telling.{told-not}
use Rattle.sip_worker.proofs.open_batch.OpenBatch.new.Goals as goal

pub returns-clause-stands : goal.returns-clause-stands
returns-clause-stands g c = λ seat. record {
  requests = rw c.in_ok-resolver.ensures (record { ready = All-nil _; held = All-nil _; waiting = All-nil _; ended = All-nil _ });
  told = rw c.in_ok-outcomes.ensures (told-not _ _ seat c.args.jobs.now);
}
