use Rattle.ip_text.proofs.Digits.{DecimalSoFar}
use Rattle.ip_text.proofs.numbers.decimal.Given as goal

abbrev pub invariant-loop-octet : goal.invariant-loop-octet
invariant-loop-octet l = DecimalSoFar l.limit l.text l.octet-index l.number
