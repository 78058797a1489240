use Rattle.std.proofs.Common.{◌≡◌, ◌<◌, ℕ, length, sym, ap, subst, ◌∙◌}
use Rattle.std.proofs.lemmas.List.FromFn.{length-map-range_with_len}
use Rattle.std.proofs.lemmas.Result.{err_from_is_err_and}
use Rattle.answer_cache.specs.Shared.{new_seat}
use Rattle.std.specs.Prelude.{⊤}
use Rattle.siplocate.proofs.Replies.{of-new-seats}
use Rattle.siplocate.proofs.Runs.{faults_of}
use Rattle.siplocate.proofs.server.run_to_server.Goals as goal

pub returns-in_err-run_text-clause-refused : goal.returns-in_err-run_text-clause-refused
returns-in_err-run_text-clause-refused g c =
    let workers = c.args.workers in
    let made = c.in_ok-cache.ensures in
    let seats : length c.in_ok-cache.seats.items ≡ workers =
    ap length made.seats ∙ length-map-range_with_len (new_seat c.in_ok-cache.cache) 0 workers in
    let wires : length c.in_ok-wires.wires.items ≡ length c.in_ok-cache.seats.items = c.in_ok-wires.ensures.all ∙ sym seats in
    let some : 0 < length c.in_ok-cache.seats.items = subst (λ (count : ℕ). 0 < count) (sym seats) made.count.0 in
    let e = err_from_is_err_and c.from_residual-in_err-run_text.result c.from_residual-in_err-run_text.ensures.1 in
    rw (e.1, e.2) (faults_of workers c.args.requests.now (length c.in_ok-cache.seats.items)
    (length c.in_ok-wires.wires.items) c.in_err-run_text.field-0.0 (some, wires) c.in_err-run_text.ensures.refused)

pub returns-clause-asked : goal.returns-clause-asked
returns-clause-asked g c =
    let made = c.in_ok-cache.ensures in
    let run = c.in_ok-run_text.ensures.run in
    record {
      few = c.in_ok-run_text.ensures.few;
      cache = c.in_ok-cache.cache;
      seats = c.in_ok-cache.seats.items;
      run = run;
      replies = of-new-seats (λ _. ⊤) (λ _. ⊤) run.history c.in_ok-cache.cache c.args.workers c.in_ok-cache.seats.items
          made.count.2 made.seats run.is.seats run.stores;
    }
