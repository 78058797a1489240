use Rattle.dns_name.proofs.Runs.{ends_later, ends_within, IsName-at}
use Rattle.dns_name.proofs.Offsets.{NameAt-other}
use Rattle.dns_name.proofs.laws.law_name_rests_before_its_end.Goals as goal

pub returns-clause-within : goal.returns-clause-within
returns-clause-within c = λ message p end name at. (ends_later message at.labels, ends_within message at.labels)

pub returns-clause-name : goal.returns-clause-name
returns-clause-name c = λ message p end name at. IsName-at message at

pub returns-clause-local : goal.returns-clause-local
returns-clause-local c = λ message other p end name at same. NameAt-other message other p end name at same
