-- A resource record of a message (RFC 1035 4.1.3).
use Rattle.std.specs.Prelude.{◌≡◌, ℕ, ◌+◌, List}
use Rattle.std.specs.Int.{w16, w32}
use Rattle.dns_name.specs.Offsets.{NameAt}
use Rattle.dns_message.specs.Offsets.{NumberAt}
use Rattle.dns_message.specs.Layouts.{RdataAt}
use Rattle.dns_message.specs.declared.resource.Record.{Record}

-- TYPE, CLASS, TTL and RDLENGTH are at an offset
pub record FixedAt (message : List ℕ) (offset type_number class_number ttl size : ℕ) : Type 0 where
  pub type_number_at : NumberAt w16 message offset type_number
  pub class_number_at : NumberAt w16 message (offset + 2) class_number
  pub ttl_at : NumberAt w32 message (offset + 4) ttl
  pub size_at : NumberAt w16 message (offset + 8) size

-- a record lies from one offset to another: NAME, TYPE, CLASS, TTL, RDLENGTH and RDATA
pub record RecordAt (message : List ℕ) (offset : ℕ) (entry : Record) (end : ℕ) : Type 0 where
  pub after : ℕ
  pub type_number : ℕ
  pub class_number : ℕ
  pub size : ℕ
  pub owner : NameAt message offset offset entry.owner after
  pub fixed : FixedAt message after type_number class_number entry.ttl size
  pub ends : end ≡ after + 10 + size
  pub rdata : RdataAt message (after + 10) type_number class_number entry.rdata end
