use Rattle.std.proofs.Common.{◌≡◌, length, take, IfSome}
use Rattle.std.specs.Option.{option_map}
use Rattle.ip_text.specs.Parts.{parted}
use Rattle.sip_uri.specs.Readers.Params.{AreMarked, transport_name}
use Rattle.sip_uri.specs.Readers.Hosts.{IsHostPart}
use Rattle.sip_uri.specs.Views.{host_of}
use Rattle.sip_uri.proofs.MaddrSteps.{MaddrKept}
use Rattle.sip_uri.proofs.ParamSteps.{CheckedSoFar, ValueKept}
use Rattle.sip_uri.proofs.params.check_params.Given as goal

abbrev pub invariant-loop-name : goal.invariant-loop-name
invariant-loop-name l = record {
  checked : CheckedSoFar l.params l.rest l.count;
  size : length l.lengths ≡ 64;
  marked : AreMarked l.lengths (take l.count (parted 59 l.params));
  transport : ValueKept l.params transport_name l.rest (option_map (λ text. text.now) l.transport);
  maddr : MaddrKept l.params l.rest (option_map host_of l.maddr);
  hostname : IfSome l.maddr IsHostPart;
}

abbrev pub decreases-loop-name : goal.decreases-loop-name
decreases-loop-name l = length l.rest
