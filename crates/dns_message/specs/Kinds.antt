-- The numbers of types of records (RFC 1035 3.2.2, 3596 2.1, 2782, 3403 4.1).
use Rattle.std.specs.Prelude.{ℕ}
use Rattle.dns_message.specs.declared.kind.Kind.{Kind}
use Rattle.dns_message.specs.declared.kind.Kind.TheVariants.{A, Aaaa, Srv, Naptr}

-- the number of the type that a kind of question asks for (RFC 1035 3.2.2, 3596 2.1, 2782, 3403
-- 4.1)
abbrev pub type_of_kind : Kind → ℕ
type_of_kind A = 1
type_of_kind Aaaa = 28
type_of_kind Srv = 33
type_of_kind Naptr = 35
