use Rattle.std.proofs.Common.{map, refl, rules}
use Rattle.std.specs.Bool.{IsTrue}
use Rattle.sip_resolver.proofs.Queues.{in-first, in-last, in-second, in-third, only-last}
use Rattle.sip_resolver.specs.Requests.{number_of_ended, number_of_waiting}
use Rattle.sip_resolver.specs.Tasks.{TaskView}
use Rattle.sip_resolver.proofs.requests.Requests.find.Goals as goal

pub returns-then-has : goal.returns-then-has
returns-then-has g c =
    let ready = map (λ (it : TaskView). it.number) c.self.inside.ready.items in
    let held = map (λ (it : TaskView). it.number) c.self.inside.held.items in
    let waiting = map number_of_waiting c.self.inside.waiting.items in
    let ended = map number_of_ended c.self.inside.ended.items in
    let yes : IsTrue c.has.result = let it = c.if-has.true in search rules in
    rw (← c.self.view_is) ((λ _. in-third ready held waiting ended c.args.number (c.has.ensures.0 yes)), (λ there. refl))

pub returns-then-has-2 : goal.returns-then-has-2
returns-then-has-2 g c =
    let ready = map (λ (it : TaskView). it.number) c.self.inside.ready.items in
    let held = map (λ (it : TaskView). it.number) c.self.inside.held.items in
    let waiting = map number_of_waiting c.self.inside.waiting.items in
    let ended = map number_of_ended c.self.inside.ended.items in
    let yes : IsTrue c.has-2.result = let it = c.if-has-2.true in search rules in
    rw (← c.self.view_is) ((λ _. in-first ready held waiting ended c.args.number (c.has-2.ensures.0 yes)), (λ there. refl))

pub returns-then-has-3 : goal.returns-then-has-3
returns-then-has-3 g c =
    let ready = map (λ (it : TaskView). it.number) c.self.inside.ready.items in
    let held = map (λ (it : TaskView). it.number) c.self.inside.held.items in
    let waiting = map number_of_waiting c.self.inside.waiting.items in
    let ended = map number_of_ended c.self.inside.ended.items in
    let yes : IsTrue c.has-3.result = let it = c.if-has-3.true in search rules in
    rw (← c.self.view_is) ((λ _. in-second ready held waiting ended c.args.number (c.has-3.ensures.0 yes)), (λ there. refl))

pub returns : goal.returns
returns g c =
    let ready = map (λ (it : TaskView). it.number) c.self.inside.ready.items in
    let held = map (λ (it : TaskView). it.number) c.self.inside.held.items in
    let waiting = map number_of_waiting c.self.inside.waiting.items in
    let ended = map number_of_ended c.self.inside.ended.items in
    let third : IsTrue c.has.result → ⊥ = let it = c.if-has.false in search rules in
    let first : IsTrue c.has-2.result → ⊥ = let it = c.if-has-2.false in search rules in
    let second : IsTrue c.has-3.result → ⊥ = let it = c.if-has-3.false in search rules in
    rw (← c.self.view_is) (
      (λ yes. in-last ready held waiting ended c.args.number (c.has-4.ensures.0 yes)),
      (λ there.
          c.has-4.ensures.1
          (only-last ready held waiting ended c.args.number (λ it. first (c.has-2.ensures.1 it)) (λ it. second (c.has-3.ensures.1 it))
          (λ it. third (c.has.ensures.1 it)) there)
          ),
    )
