use Rattle.answer_cache.proofs.Powers.{sixty-four}
use Rattle.answer_cache.proofs.list_cache.ListCache.new.Goals as goal

pub empty-requires : goal.empty-requires
empty-requires c = sixty-four
