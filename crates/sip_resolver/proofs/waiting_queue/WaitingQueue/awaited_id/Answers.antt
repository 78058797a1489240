use Rattle.std.proofs.lemmas.Option.{slice_get_within}
use Rattle.sip_resolver.proofs.Lining.{awaited-by}
use Rattle.sip_resolver.proofs.waiting_queue.WaitingQueue.awaited_id.Goals as goal

pub id_at-requires : goal.id_at-requires
id_at-requires g c = slice_get_within c.self.inside.slots.items c.in_ok-place.place _ c.in_ok-place.ensures.waits

pub returns : goal.returns
returns g c =
    rw (← c.self.view_is)
    (awaited-by c.args.number c.in_ok-place.place c.id_at.result c.self.inside.slots.items c.in_ok-place.ensures c.id_at.ensures)
