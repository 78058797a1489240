-- The name of the question, to which the owners of records point (RFC 1035 4.1.4).
use Rattle.std.specs.Prelude.{ℕ, ◌≤◌, List}
use Rattle.dns_name.specs.Offsets.{NameAt}
use Rattle.dns_message.specs.declared.owner.AskedName.{AskedName}

-- the name stands behind the header of a message, and ends before an offset
pub record IsAskedName (message : List ℕ) (asked : AskedName) : Type 0 where
  pub there : ℕ
  pub name : NameAt message 12 12 asked.name.now there
  pub before : there ≤ asked.end
