use Rattle.std.proofs.Common.{[], refl, sym, arith, ◌∙◌}
use Rattle.std.proofs.lemmas.List.{length_push, set_at}
use Rattle.std.proofs.lemmas.Result.{err_from_is_err_and}
use Rattle.dns_message.specs.Offsets.{NamedAt, none}
use Rattle.dns_message.proofs.Offsets.{AllAt-push, AllAt-first, Follows-push, Follows-next, Follows-all}
use Rattle.dns_message.proofs.entry.read_entries.Goals as goal
use Rattle.dns_message.proofs.entry.read_entries.Goals.{then-are_wanted, else-are_wanted}

pub loop-init : goal.loop-init
loop-init g c =
    rw (c.make_room.ensures, c.requires.empty) (record {
      so_far = none refl;
      follows = λ others end there size. (others, refl, there);
      count = refl;
      known = c.requires.known;
    })

pub loop-preserved : goal.loop-preserved
loop-preserved g c =
    let l = c.loop in
    let stands = g.E.Entry.stands c.args.bytes.now in
    let entry = c.read_over.new.self in
    let read = c.in_ok-offset in
    let placed = set_at l.entries.items c.unread.result [] entry c.len-place.result (omega (arith, c.len-place.ensures)) in
    rw (c.in-Ok.ensures.items, placed) (record {
      so_far = AllAt-push stands read.offset entry l.invariant.so_far read.ensures.found;
      follows = Follows-push stands c.args.offset l.offset read.offset entry l.entries.items l.invariant.follows read.ensures.read;
      count = length_push l.entries.items entry ∙ omega arith;
      known = elim c.if-are_wanted.branch [
        | then-are_wanted w ↦ rw w.landings-is w.find.ensures
        | else-are_wanted w ↦ rw w.landings-is l.invariant.known
      ];
    })

pub returns-clause-read : goal.returns-clause-read
returns-clause-read g c = λ entries end there count.
    let l = c.loop in
    Follows-all (g.E.Entry.stands c.args.bytes.now) c.args.offset l.offset end l.entries.items entries l.invariant.follows there
    (omega (arith, count))

pub returns-in_err-offset-clause-read : goal.returns-in_err-offset-clause-read
returns-in_err-offset-clause-read g c = λ entries end there count.
    let l = c.loop in
    let here = Follows-next (g.E.Entry.stands c.args.bytes.now) c.args.offset l.offset end l.entries.items entries l.invariant.follows there
    (omega (arith, count)) in
    let p = err_from_is_err_and c.from_residual.result c.from_residual.ensures.1 in
    rw p.1 (p.2 ∙ c.in_err-offset.ensures.read here.0 here.1 here.2)

-- a name stands where the entries begin, if one stands where the next one would
pub returns-in_err-offset-clause-memory : goal.returns-in_err-offset-clause-memory
returns-in_err-offset-clause-memory g c =
    let bytes = c.args.bytes.now in
    let p = err_from_is_err_and c.from_residual.result c.from_residual.ensures.1 in
    rw p.1 (λ is. AllAt-first (g.E.Entry.stands bytes) (NamedAt bytes) (g.met.E.Entry.named bytes) c.loop.invariant.so_far
    (c.in_err-offset.ensures.memory (sym p.2 ∙ is)))

-- ---- there is no memory for a further one

pub returns-in_default-clause-read : goal.returns-in_default-clause-read
returns-in_default-clause-read g c = λ entries end there count.
    let l = c.loop in
    let here = Follows-next (g.E.Entry.stands c.args.bytes.now) c.args.offset l.offset end l.entries.items entries l.invariant.follows there
    (omega (arith, count)) in
    c.refusal_at.ensures.read here.0 here.1 here.2

pub returns-in_default-clause-memory : goal.returns-in_default-clause-memory
returns-in_default-clause-memory g c = λ is.
    let bytes = c.args.bytes.now in
    AllAt-first (g.E.Entry.stands bytes) (NamedAt bytes) (g.met.E.Entry.named bytes) c.loop.invariant.so_far
    (c.refusal_at.ensures.memory is)
