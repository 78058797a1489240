use Rattle.std.proofs.Common.{subst}
use Rattle.dns_zone.specs.Zones.{IsPath}
use Rattle.dns_zone.proofs.Cnames.{is_path, path_is}
use Rattle.dns_zone.proofs.laws.law_zone_follows_cnames.Goals as goal

pub returns : goal.returns
returns c = λ zone name found. (
  λ is. subst (IsPath 8 zone name) is (path_is zone 8 name),
  λ is. is_path zone 8 name found.links found.last is.follows is.short is.ends,
)
