use Rattle.std.proofs.Common.{refl}
use Rattle.ip_text.specs.declared.address.Address.TheVariants.{V4, V6}
use Rattle.sip_response.specs.Routes.{maddr, maddr_name}
use Rattle.sip_response.proofs.route.to_host.Goals as goal

pub returns-in-V4 : goal.returns-in-V4
returns-in-V4 c = rw c.to_maddr.ensures (maddr c.args.host (V4 c.in-V4.host.octets) c.requires (rw c.in-V4.is refl))

pub returns-in-V6 : goal.returns-in-V6
returns-in-V6 c = rw c.to_maddr-in-V6.ensures (maddr c.args.host (V6 c.in-V6.host.octets) c.requires (rw c.in-V6.is refl))

pub returns-in-Domain : goal.returns-in-Domain
returns-in-Domain c = rw c.to_maddr_name.ensures (maddr_name c.in-Domain.name (rw c.in-Domain.is at c.requires))
