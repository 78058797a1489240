-- What the readers of a host and its port give, and of what follows them, as functions on lists.
use Rattle.std.specs.Prelude.{ℕ, ◌==◌, Bool, not, ◌||◌, List, [], ◌∷◌, Option, Some, None, if◌then◌else◌}
use Rattle.ip_text.specs.Parts.{before, behind}
use Rattle.sip_uri.specs.ViaClasses.{row, behind_row}
use Rattle.sip_uri.specs.declared.place.PlaceClass.{PlaceClass}
use Rattle.sip_uri.specs.declared.place.PlaceClass.TheVariants as class

-- what does not end a host: no `:`, no `;` and no `?`
abbrev pub is_in_host : ℕ → Bool
is_in_host octet = not (octet == 58 || octet == 59 || octet == 63)

-- what does not end a host and its port: no `;` and no `?`
abbrev pub is_in_place : ℕ → Bool
is_in_place octet = not (octet == 59 || octet == 63)

abbrev pub octets_of : PlaceClass → ℕ → Bool
octets_of class.Host octet = is_in_host octet
octets_of class.Place octet = is_in_place octet

-- the digits of a port behind a host, and what follows them
abbrev pub port_in_front : List ℕ → Option (List ℕ)
port_in_front [] = None
port_in_front (x ∷ text) = if x == 58 then Some (row is_in_place text) else None

abbrev pub behind_port : List ℕ → List ℕ
behind_port [] = []
behind_port (x ∷ text) = if x == 58 then behind_row is_in_place text else x ∷ text

-- the parameters and the headers behind a host and its port
abbrev pub params_in : List ℕ → Option (List ℕ)
params_in [] = None
params_in (x ∷ text) = if x == 59 then Some (before 63 text) else None

abbrev pub headers_in : List ℕ → Option (List ℕ)
headers_in [] = None
headers_in (x ∷ text) = if x == 59 then behind 63 text else Some text
