-- The order in which a query goes to servers: round, from the one that it goes to first.
use Rattle.std.specs.Prelude.{ℕ, ◌+◌, ◌%◌, ◌==◌, nat_lt, Bool, ◌&&◌, if◌then◌else◌}

-- the server that a query goes to after so many sends
abbrev pub server_at : ℕ → ℕ → ℕ → ℕ
server_at first sends servers = (first + sends) % servers

-- The server that the query of a number goes to first. Where servers take turns (`rotate` of
-- resolv.conf(5)) it is the one after that of the number before, round all of them; else it is the
-- one that comes first.
abbrev pub first_for : Bool → ℕ → ℕ → ℕ → ℕ
first_for rotates first number servers =
    if rotates && nat_lt 0 servers then number % servers else first

-- the server that comes first after this one did not reply in time, or could not be reached: where
-- it came first it comes last from then on
abbrev pub first_after_silence : ℕ → ℕ → ℕ → ℕ
first_after_silence silent first servers =
    if nat_lt 0 servers && silent == first then server_at first 1 servers else first
