use Rattle.std.proofs.Common.{◌≡◌, ℕ, List, sym, ap, subst, ◌++◌, ◌∙◌}
use Rattle.answer_log.specs.Groups.{group_in}
use Rattle.answer_log.specs.Logs.{In, top}
use Rattle.answer_log.specs.declared.event.Event.{Event}
use Rattle.answer_log.specs.declared.event.Event.TheVariants.{Placed}
use Rattle.answer_log.proofs.Logs.{begun-in, groups-prefix, in-here}
use Rattle.answer_log.specs.declared.event.Counted.{Counted}
use Rattle.answer_log.proofs.Following.{as_named, placed_on}
use Rattle.answer_log.proofs.Moving.{follow_moves}
use Rattle.answer_log.proofs.steps.node_before.Goals as goal

pub load-requires : goal.load-requires
load-requires c =
    let l = c.learn.ensures in
    let n = c.requires.named in
    let p = c.requires.placed in
    let log = c.learn.new.self.log in
    let r : Counted = record { before = 0; after = 0 } in
    let offer = c.plain-offer.ensures in
    let same = as_named l.4.0 log c.args.book.now.log c.args.named.now.log p.0 p.1 c.args.node n.0 p.2 c.args.link.now.key p.3 l.4.1 l.2
    l.3 p.4 n.1.named in
    let placed = placed_on c.args.book.now.log log p.0 p.1 c.args.node p.2 c.args.link.now.key p.3 l.2 p.4 same.1 in (
      ap (λ w. w.tracked) n.1.link,
      l.0 ∙ sym c.requires.books ∙ sym (ap (λ w. w.book) n.1.link),
      offer.0,
      rw (offer.1, offer.3) (follow_moves log c.args.link.now.key r (p.0, p.1 ++ l.2.0, c.args.node, p.2, placed)),
    )

pub returns-clause-before : goal.returns-clause-before
returns-clause-before c before after placed key split =
    let l = c.learn.ensures in
    let n = c.requires.named in
    let log = c.learn.new.self.log in
    let same = as_named l.4.0 log c.args.book.now.log c.args.named.now.log before after c.args.node n.0 placed c.args.link.now.key key
    l.4.1 l.2 l.3 split n.1.named in
    let e : Event = Placed c.args.node placed key in
    let I : List Event → Type 0 = λ w. In e w in
    let on = groups-prefix c.args.book.now.log log l.2 (begun-in e c.args.book.now.log (subst I (sym split) (in-here e before after))) in
    let T : ℕ → Type 0 = λ groups. c.load.result ≡ top groups (group_in groups placed.question) before in
    subst T on (c.load.ensures.6.1 before (after ++ l.2.0) c.args.node placed
    (placed_on c.args.book.now.log log before after c.args.node placed c.args.link.now.key key l.2 split same.1))

pub returns-clause-store : goal.returns-clause-store
returns-clause-store c before after store placed key split named =
    let l = c.learn.ensures in
    let same = as_named l.4.0 c.learn.new.self.log c.args.book.now.log c.args.named.now.log before after c.args.node store placed
    c.args.link.now.key key l.4.1 l.2 l.3 split named.named in
    same.0
