-- The laws of names that the reader rests on, as `dns_name` promises them.
use Rattle.std.proofs.Common.{◌≡◌, ℕ, ◌+◌, ◌<◌, ◌≤◌, List, ◌++◌, length, take}
use Rattle.dns_name.specs.Labels.{IsName, wire_of}
use Rattle.dns_name.specs.Offsets.{NameAt}

abbrev pub OneName : Type 0
OneName = (message : List ℕ) (p s end end' : ℕ) (name name' : List (List ℕ)) → NameAt message p s name end → NameAt message p s name' end'
    → (name ≡ name') × (end ≡ end')

abbrev pub WithinEnd : Type 0
WithinEnd = (message : List ℕ) (p end : ℕ) (name : List (List ℕ)) → NameAt message p p name end → (p < end) × (end ≤ length message)

abbrev pub IsLocal : Type 0
IsLocal = (message other : List ℕ) (p end : ℕ) (name : List (List ℕ)) → NameAt message p p name end → take end message ≡ take end other
    → NameAt other p p name end

abbrev pub IsReadAgain : Type 0
IsReadAgain = (front back : List ℕ) (name : List (List ℕ)) → IsName name
    → NameAt (front ++ wire_of name ++ back) (length front) (length front) name (length front + length (wire_of name))
