-- How the data of a record is laid out, and which is kept as octets.
use Rattle.std.specs.Prelude.{◌≡◌, ℕ, ◌≤◌, ◌==◌, List, length, if◌then◌else◌}
use Rattle.dns_message.specs.declared.rdata.DataFormat.{DataFormat}
use Rattle.dns_message.specs.declared.rdata.DataFormat.TheVariants.{A, Aaaa, Srv, Naptr, Cname, Soa, Other}

-- how data of class IN is laid out, by its type (RFC 1035 3.2.2, 3596 2.1, 2782, 3403 4.1)
abbrev pub internet_format : ℕ → DataFormat
internet_format type_number =
    if type_number == 1 then A else
    (if type_number == 5 then Cname else
    (if type_number == 6 then Soa else
    (if type_number == 28 then Aaaa else
    (if type_number == 33 then Srv else
    (if type_number == 35 then Naptr else Other)))))

-- how data is laid out, by its type and class: in another class than IN (1) all data is kept as
-- octets (RFC 1035 3.2.2, 3596 2.1, 2782, 3403 4.1)
abbrev pub data_format : ℕ → ℕ → DataFormat
data_format type_number class_number = if class_number == 1 then internet_format type_number else
    Other

-- data that is kept as octets: its type, its class and its octets
pub record OtherOctets : Type 0 where
  pub type_number : ℕ
  pub class_number : ℕ
  pub octets : List ℕ

-- data has no layout of its own, and at most 65,535 octets (RFC 3597 3)
pub record CanBeOther (type_number class_number : ℕ) (octets : List ℕ) : Type 0 where
  pub format : data_format type_number class_number ≡ Other
  pub short : length octets ≤ 65535
