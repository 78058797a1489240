-- What is found, without where it lies in memory.
use Rattle.dns_answers.specs.declared.chain.CnameRecord.{CnameRecord as Found}
use Rattle.dns_answers.specs.Chains.{CnameRecord}

abbrev pub cname_value : Found → CnameRecord
cname_value cname = record { entry = cname.entry.now; target = cname.target.now }
