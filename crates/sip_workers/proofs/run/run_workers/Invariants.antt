use Rattle.sip_workers.proofs.run.run_workers.Given as goal

abbrev pub ghosts-run_batches : goal.ghosts-run_batches
ghosts-run_batches g a = record { batches = a.batches.now }
