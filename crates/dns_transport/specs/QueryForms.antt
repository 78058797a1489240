-- The octets that go out for a query.
use Rattle.std.specs.Prelude.{ℕ, ◌-◌, ◌%◌, ◌==◌, nat_le, nat_lt, Bool, true, false, ◌&&◌, List, [], ◌∷◌, ◌++◌, length, Option, Some, None, slice_index, slice_set, if◌then◌else◌}
use Rattle.std.specs.Int.{w16, to_be_bytes}
use Rattle.dns_transport.specs.declared.query_form.QueryForm.{QueryForm}
use Rattle.dns_transport.specs.declared.server.Server.{Server}

-- a query without RD, which is the lowest bit of the third octet (RFC 1035 4.1.1)
abbrev pub without_recursion : List ℕ → List ℕ
without_recursion query =
    if nat_lt 2 (length query)
    then slice_set query 2 (slice_index query 2 - slice_index query 2 % 2) else query

-- a query with RD as it is where recursion is desired, else without RD
abbrev pub with_recursion : Bool → List ℕ → List ℕ
with_recursion true query = query
with_recursion false query = without_recursion query

-- the root as NAME, TYPE, CLASS, TTL and RDLENGTH of an OPT record: no upper bits of RCODE, version
-- 0, no flags and no options (RFC 6891 6.1.2, 6.1.3)
abbrev pub opt_record : ℕ → List ℕ
opt_record size =
    0 ∷ 0 ∷ 41 ∷ to_be_bytes w16 size ++ 0 ∷ 0 ∷ 0 ∷ 0 ∷ 0 ∷ 0 ∷ []

-- a query has a whole header, with ARCOUNT 0 (RFC 1035 4.1.1)
abbrev pub has_room_for_opt : List ℕ → Bool
has_room_for_opt query =
    nat_le 12 (length query) && slice_index query 10 == 0 && slice_index query 11 == 0

-- a query with an OPT record after all else and with ARCOUNT 1; a query without room for the record
-- stays as it is
abbrev pub with_opt : ℕ → List ℕ → List ℕ
with_opt size query =
    if has_room_for_opt query then slice_set query 11 1 ++ opt_record size else query

-- the octets of a query with an OPT record of this size, where a size is given and the query has no
-- additional record (RFC 6891 6.1)
abbrev pub with_edns : Option ℕ → List ℕ → List ℕ
with_edns None query = query
with_edns (Some size) query = with_opt size query

-- the octets that go out for a query, with or without RD and EDNS
abbrev pub form_octets : QueryForm → List ℕ → List ℕ
form_octets form query = with_edns form.edns (with_recursion form.recursion query)

-- the form in which a query goes to a server: without EDNS, where the server refused it
abbrev pub form_for : QueryForm → Option Server → QueryForm
form_for form None = form
form_for form (Some server) = if server.refused_edns then record form { edns = None } else form
