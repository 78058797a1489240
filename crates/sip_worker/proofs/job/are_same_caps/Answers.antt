use Rattle.std.proofs.Common.{◌≡◌, refl, rules}
use Rattle.std.specs.Bool.{beq}
use Rattle.sip_uri.specs.Same.{same_transport}
use Rattle.sip_uri.specs.declared.transport.Transport.{Transport}
use Rattle.sip_uri.specs.contracts.transport.TransportPartialEq.TheImpl.{eq-value}
use Rattle.sip_selection.specs.contracts.caps.FamiliesPartialEq.TheImpl.{eq-value as families-value}
use Rattle.sip_selection.specs.declared.caps.Families.{Families}
use Rattle.sip_worker.proofs.SameCaps.{caps-same}
use Rattle.sip_worker.specs.SameJobs.{same_families}
use Rattle.sip_worker.proofs.job.are_same_caps.Goals as goal

alike : (transport other : Transport) → eq-value.it transport other ≡ same_transport transport other
alike transport other = search rules

families-alike : (families other : Families) → families-value.it families other ≡ same_families families other
families-alike families other = search rules

pub returns : goal.returns
returns c =
    caps-same _ (families-value.it c.args.caps.now.families c.args.other.now.families)
    (beq c.args.caps.now.is_large c.args.other.now.is_large) (beq c.args.caps.now.is_fixed c.args.other.now.is_fixed)
    c.args.caps.now c.args.other.now c.eq.result c.eq.ensures
    (λ i transport other. alike transport other i) (families-alike c.args.caps.now.families c.args.other.now.families) refl refl
    c.law_transports_are_few.ensures c.law_transports_are_few-2.ensures
