use Rattle.dns_name.proofs.message.read_name_into.Goals as goal

pub read_name_into_by-requires : goal.read_name_into_by-requires
read_name_into_by-requires c = c.none.ensures c.args.bytes.now
