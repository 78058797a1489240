use Rattle.std.proofs.Common.{◌≡◌, not, nat_eq}
use Rattle.sip_resolver.proofs.Circling.{Circled}
use Rattle.sip_resolver.specs.Requests.{number_of_ended}
use Rattle.sip_resolver.proofs.cancels.remove_ended.Given as goal

abbrev pub invariant-ended : goal.invariant-ended
invariant-ended g l = record {
  circled : Circled (λ it. not (nat_eq (number_of_ended it) l.number)) l.fn.requests.ended l.requests.ended l._ended;
  others : l.requests ≡ record l.fn.requests { ended = l.requests.ended };
}
