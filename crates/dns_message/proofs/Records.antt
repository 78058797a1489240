-- Records at offsets.
use Rattle.std.proofs.Common.{◌≡◌, ℕ, ◌+◌, ◌≤◌, List, length, take, refl, arith}
use Rattle.std.specs.Int.{w16, w32}
use Rattle.dns_message.specs.declared.rdata.Rdata.{Rdata}
use Rattle.dns_message.specs.declared.resource.Record.{Record}
use Rattle.dns_message.specs.Data.{data_format}
use Rattle.dns_message.specs.Offsets.{NamedAt, AllAt}
use Rattle.dns_message.specs.Records.{RecordAt}
use Rattle.dns_message.proofs.Layouts.{one_format, format_within, FormatAt-other}
use Rattle.dns_message.proofs.Names.{OneName, WithinEnd, IsLocal}
use Rattle.dns_message.proofs.Offsets.{one_number, take_less, NumberAt-other, AllAt-first}

abbrev record_of : List (List ℕ) → ℕ → Rdata → Record
record_of owner ttl rdata = record { owner = owner; ttl = ttl; rdata = rdata }

same_record : (a b : Record) → a.owner ≡ b.owner → a.ttl ≡ b.ttl → a.rdata ≡ b.rdata → a ≡ b
same_record a b e0 e1 e2 = let same : record_of a.owner a.ttl a.rdata ≡ record_of b.owner b.ttl b.rdata = rw (e0, e1, e2) refl in same

-- ---- records

pub one_record : OneName → (message : List ℕ) (p end end' : ℕ) (a b : Record) → RecordAt message p a end → RecordAt message p b end'
    → (a ≡ b) × (end ≡ end')
one_record one message p end end' a b x y =
    let k = one message p p x.after y.after a.owner b.owner x.owner y.owner in
    let fixed = rw k.1 at x.fixed in
    let type_number : x.type_number ≡ y.type_number = one_number w16 message y.after x.type_number y.type_number fixed.type_number_at
    y.fixed.type_number_at in
    let class_number : x.class_number ≡ y.class_number =
    one_number w16 message (y.after + 2) x.class_number y.class_number fixed.class_number_at y.fixed.class_number_at in
    let ttl : a.ttl ≡ b.ttl = one_number w32 message (y.after + 4) a.ttl b.ttl fixed.ttl_at y.fixed.ttl_at in
    let size : x.size ≡ y.size = one_number w16 message (y.after + 8) x.size y.size fixed.size_at y.fixed.size_at in
    let ends : end ≡ end' = omega (arith, x.ends, y.ends, k.1, size) in
    let rdata = rw (k.1, type_number, class_number, ends) at x.rdata in (
      same_record a b k.0 ttl
          (one_format one (data_format y.type_number y.class_number) message
          (y.after + 10) y.type_number y.class_number end' a.rdata b.rdata rdata y.rdata),
      ends,
    )

pub record_goes_on : WithinEnd → (message : List ℕ) (p end : ℕ) (a : Record) → RecordAt message p a end → p ≤ end
record_goes_on within message p end a x = omega (arith, (within message p x.after a.owner x.owner).0, x.ends)

pub record_within : WithinEnd → (message : List ℕ) (p end : ℕ) (a : Record) → RecordAt message p a end → end ≤ length message
record_within within message p end a x =
    format_within within (data_format x.type_number x.class_number) message (x.after + 10) x.type_number x.class_number end a.rdata x.rdata

pub RecordAt-other : WithinEnd → IsLocal → (message other : List ℕ) (limit : ℕ) → take limit message ≡ take limit other
    → (p end : ℕ) (a : Record) → RecordAt message p a end → end ≤ limit → RecordAt other p a end
RecordAt-other within local message other limit same p end a x le = record {
  after = x.after;
  type_number = x.type_number;
  class_number = x.class_number;
  size = x.size;
  owner = local message other p x.after a.owner x.owner (take_less message other limit x.after same (omega (arith, x.ends, le)));
  fixed = record {
    type_number_at = NumberAt-other w16 message other limit x.after x.type_number same (omega (arith, x.ends, le)) x.fixed.type_number_at;
    class_number_at =
        NumberAt-other w16 message other limit (x.after + 2) x.class_number same (omega (arith, x.ends, le)) x.fixed.class_number_at;
    ttl_at = NumberAt-other w32 message other limit (x.after + 4) a.ttl same (omega (arith, x.ends, le)) x.fixed.ttl_at;
    size_at = NumberAt-other w16 message other limit (x.after + 8) x.size same (omega (arith, x.ends, le)) x.fixed.size_at;
  };
  ends = x.ends;
  rdata = FormatAt-other within local message other limit same (data_format x.type_number x.class_number)
      (x.after + 10) x.type_number x.class_number end a.rdata x.rdata le;
}

-- a name stands where records begin, if one stands where they end
pub records_named : (message : List ℕ) {p end : ℕ} {records : List Record} → AllAt (RecordAt message) p records end → NamedAt message end
    → NamedAt message p
records_named message = AllAt-first (RecordAt message) (NamedAt message) (λ p end a x. (a.owner, x.after, x.owner))
