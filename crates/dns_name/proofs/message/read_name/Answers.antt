use Rattle.dns_name.proofs.message.read_name.Goals as goal

pub read_name_by-requires : goal.read_name_by-requires
read_name_by-requires c = c.none.ensures c.args.bytes.now
