-- The data of a record at an offset of a message.
use Rattle.std.specs.Prelude.{◌≡◌, ℕ, ◌+◌, ◌≤◌, List, ◌∷◌, length}
use Rattle.std.specs.Int.{w16, w32}
use Rattle.dns_name.specs.Offsets.{NameAt}
use Rattle.dns_message.specs.Offsets.{NumberAt, OctetsAt}
use Rattle.dns_message.specs.Data.{data_format}
use Rattle.dns_message.specs.declared.naptr.NaptrRecord.{NaptrRecord}
use Rattle.dns_message.specs.declared.rdata.DataFormat.{DataFormat}
use Rattle.dns_message.specs.declared.rdata.DataFormat.TheVariants as format
use Rattle.dns_message.specs.declared.rdata.Rdata.{Rdata}
use Rattle.dns_message.specs.declared.rdata.Rdata.TheVariants.{Addr4, Addr6, Srv, Naptr, Cname, Soa, Other}
use Rattle.dns_message.specs.declared.soa.SoaRecord.{SoaRecord}
use Rattle.dns_message.specs.declared.srv.SrvRecord.{SrvRecord}

-- ---- what a record's data has

-- an address of this number of octets is at an offset (RFC 1035 3.4.1, 3596 2.2)
pub record AddressAt (size : ℕ) (message : List ℕ) (offset : ℕ) (octets : List ℕ)
    (end : ℕ) : Type 0 where
  pub size_is : length octets ≡ size
  pub stands : OctetsAt message offset octets end

-- a character string is at an offset: how many octets it has, and these (RFC 1035 3.3)
pub record CharStringAt (message : List ℕ) (offset : ℕ) (string : List ℕ) (end : ℕ) : Type 0 where
  pub short : length string ≤ 255
  pub stands : OctetsAt message offset (length string ∷ string) end

-- SRV data is at an offset: priority, weight, port and target (RFC 2782)
pub record SrvAt (message : List ℕ) (offset : ℕ) (server : SrvRecord) (end : ℕ) : Type 0 where
  pub priority : NumberAt w16 message offset server.priority
  pub weight : NumberAt w16 message (offset + 2) server.weight
  pub port : NumberAt w16 message (offset + 4) server.port
  pub target : NameAt message (offset + 6) (offset + 6) server.target end

-- NAPTR data is at an offset: ORDER, PREFERENCE, FLAGS, SERVICES, REGEXP and REPLACEMENT (RFC 3403
-- 4.1)
pub record NaptrAt (message : List ℕ) (offset : ℕ) (rule : NaptrRecord) (end : ℕ) : Type 0 where
  pub services_start : ℕ
  pub regexp_start : ℕ
  pub replacement_start : ℕ
  pub order : NumberAt w16 message offset rule.order
  pub preference : NumberAt w16 message (offset + 2) rule.preference
  pub flags : CharStringAt message (offset + 4) rule.flags services_start
  pub services : CharStringAt message services_start rule.services regexp_start
  pub regexp : CharStringAt message regexp_start rule.regexp replacement_start
  pub replacement : NameAt message replacement_start replacement_start rule.replacement end

-- SOA data is at an offset: MNAME, RNAME, SERIAL, REFRESH, RETRY, EXPIRE and MINIMUM (RFC 1035
-- 3.3.13)
pub record SoaAt (message : List ℕ) (offset : ℕ) (authority : SoaRecord) (end : ℕ) : Type 0 where
  pub rname_start : ℕ
  pub numbers_start : ℕ
  pub mname : NameAt message offset offset authority.mname rname_start
  pub rname : NameAt message rname_start rname_start authority.rname numbers_start
  pub serial : NumberAt w32 message numbers_start authority.serial
  pub refresh : NumberAt w32 message (numbers_start + 4) authority.refresh
  pub retry : NumberAt w32 message (numbers_start + 8) authority.retry
  pub expire : NumberAt w32 message (numbers_start + 12) authority.expire
  pub minimum : NumberAt w32 message (numbers_start + 16) authority.minimum
  pub ends : end ≡ numbers_start + 20

-- data of any other type or class is at an offset, as its octets
pub record OtherAt (message : List ℕ) (offset type_number class_number : ℕ) (octets : List ℕ)
    (end : ℕ) : Type 0 where
  pub short : length octets ≤ 65535
  pub stands : OctetsAt message offset octets end

-- ---- the data

-- data of a layout lies from one offset to another
abbrev pub FormatAt : DataFormat → List ℕ → ℕ → ℕ → ℕ → Rdata → ℕ → Type 0
FormatAt format.A message offset type_number class_number rdata end =
    (octets : List ℕ) × (rdata ≡ Addr4 octets) × AddressAt 4 message offset octets end
FormatAt format.Aaaa message offset type_number class_number rdata end =
    (octets : List ℕ) × (rdata ≡ Addr6 octets) × AddressAt 16 message offset octets end
FormatAt format.Srv message offset type_number class_number rdata end =
    (server : SrvRecord) × (rdata ≡ Srv server) × SrvAt message offset server end
FormatAt format.Naptr message offset type_number class_number rdata end =
    (rule : NaptrRecord) × (rdata ≡ Naptr rule) × NaptrAt message offset rule end
FormatAt format.Cname message offset type_number class_number rdata end =
    (name : List (List ℕ)) × (rdata ≡ Cname name) × NameAt message offset offset name end
FormatAt format.Soa message offset type_number class_number rdata end =
    (authority : SoaRecord) × (rdata ≡ Soa authority) × SoaAt message offset authority end
FormatAt format.Other message offset type_number class_number rdata end =
    (octets : List ℕ)
    × (rdata ≡ Other (record {
      type_number = type_number;
      class_number = class_number;
      octets =
          octets;
    }))
    × OtherAt message offset type_number class_number octets end

-- RDATA of this type and class lies from one offset to another, by its layout (RFC 1035 3.2.1)
abbrev pub RdataAt : List ℕ → ℕ → ℕ → ℕ → Rdata → ℕ → Type 0
RdataAt message offset type_number class_number rdata end =
    FormatAt (data_format type_number class_number) message offset type_number class_number rdata
    end
