use Rattle.std.proofs.Common.{◌≡◌, ℕ, Bool, List}
use Rattle.std.specs.Bool.{Decides}
use Rattle.dns_name.specs.Labels.{same_name}
use Rattle.sip_uri.specs.declared.host.Host.{Host}
use Rattle.sip_uri.specs.declared.host.Host.TheVariants.{Domain}
use Rattle.sip_uri.specs.Same.Decided.{host_decides}
use Rattle.sip_uri.proofs.host.HostPartialEq.eq.Goals as goal

named : (host other : Host) (name name' : List (List ℕ)) (same : Bool) → host ≡ Domain name → other ≡ Domain name'
    → same ≡ same_name name name' → Decides same (host ≡ other)
named host other name name' same one two is = rw (one, two, is) (host_decides (Domain name) (Domain name'))

pub returns-in-Domain-Domain-clause-same : goal.returns-in-Domain-Domain-clause-same
returns-in-Domain-Domain-clause-same c =
    named c.args.self.now c.args.other.now c.in-Domain-Domain.name c.in-Domain-Domain.other c.eq-in-Domain-Domain.result
    c.in-Domain-Domain.is-0 c.in-Domain-Domain.is-1 c.eq-in-Domain-Domain.ensures
