-- The law of names that the laws of answers rest on, as `dns_name` promises it.
use Rattle.std.specs.Prelude.{◌≡◌, ◌↔◌, ℕ, IsTrue, List}
use Rattle.dns_name.specs.Labels.{same_name}

abbrev pub SameNames : Type 0
SameNames = (name other : List (List ℕ)) → IsTrue (same_name name other) ↔ (name ≡ other)
