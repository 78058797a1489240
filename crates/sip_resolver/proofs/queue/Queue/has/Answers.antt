use Rattle.std.proofs.Common.{◌≢◌, sym, refl, ◌∙◌}
use Rattle.std.proofs.lemmas.List.Elements.{All-nil}
use Rattle.sip_resolver.proofs.Queues.{found-there, searched-all, searched-on}
use Rattle.sip_resolver.proofs.queue.Queue.has.Goals as goal

pub items-init : goal.items-init
items-init g c = All-nil (λ it. g.T.Numbered.numbered it ≢ c.args.number)

pub items-preserved : goal.items-preserved
items-preserved g c =
    let within = rw (c.len-at-end.ensures, c.self.inside.items.ok.0) at c.items-test.true in
    let other : g.T.Numbered.numbered c.index-item.result.now ≢ c.args.number =
    λ is. c.if-number.false (c.number.ensures ∙ is) in
    searched-on g.T.Numbered.numbered c.args.number c.self.inside.items.items c.items.at c.index-item.result.now within
    c.index-item.ensures c.items.invariant other

pub returns-then-number : goal.returns-then-number
returns-then-number g c =
    let within = rw (c.len-at-end.ensures, c.self.inside.items.ok.0) at c.items-test.true in
    rw (← c.self.view_is) (
      (λ yes.
          found-there g.T.Numbered.numbered c.args.number c.self.inside.items.items c.items.at c.index-item.result.now within
          c.index-item.ensures (sym c.number.ensures ∙ c.if-number.true)
          ),
      (λ there. refl),
    )

pub returns : goal.returns
returns g c =
    let all = rw (c.len-at-end.ensures, c.self.inside.items.ok.0) at c.items-test.false in
    rw (← c.self.view_is) (
      (λ yes. absurd cc),
      (λ there.
          absurd
          (searched-all g.T.Numbered.numbered c.args.number c.self.inside.items.items c.items.at all c.items.invariant there)
          ),
    )
