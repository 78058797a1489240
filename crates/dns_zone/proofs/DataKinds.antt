-- What the type of a line says of its data.
use Rattle.std.proofs.Common.{◌≡◌, ℕ, List, length, get_or, refl, ap, arith}
use Rattle.std.specs.Prelude.{codes}
use Rattle.dns_message.specs.declared.naptr.NaptrRecord.{NaptrRecord}
use Rattle.dns_message.specs.declared.rdata.Rdata.{Rdata}
use Rattle.dns_message.specs.declared.rdata.Rdata.TheVariants.{Addr4, Addr6, Srv, Naptr, Cname, Soa, Other}
use Rattle.dns_message.specs.declared.soa.SoaRecord.{SoaRecord}
use Rattle.dns_message.specs.declared.srv.SrvRecord.{SrvRecord}
use Rattle.dns_name.specs.Texts.{TextOf}
use Rattle.ip_text.specs.Addresses.{AddressText}
use Rattle.ip_text.specs.declared.address.Address.TheVariants.{V4, V6}
use Rattle.dns_zone.specs.Lines.{DataFields, NaptrFields, OneField, SoaFields, SrvFields}

module _ (fields : List (List ℕ)) where
  pub a_data : (found : Rdata) → DataFields (codes "A") fields found
      → (octets : List ℕ) × (found ≡ Addr4 octets) × OneField (λ (text : List ℕ). AddressText text (V4 octets)) fields
  a_data (Addr4 octets) is = (octets, refl, is.1)
  a_data (Addr6 octets) is = absurd (omega (arith, ap length is.0))
  a_data (Cname name) is = absurd (omega (arith, ap length is.0))
  a_data (Srv server) is = absurd (omega (arith, ap length is.0))
  a_data (Naptr rule) is = absurd (omega (arith, ap length is.0))
  a_data (Soa authority) is = absurd (omega (arith, ap length is.0))
  a_data (Other other) is = absurd is

  pub aaaa_data : (found : Rdata) → DataFields (codes "AAAA") fields found
      → (octets : List ℕ) × (found ≡ Addr6 octets) × OneField (λ (text : List ℕ). AddressText text (V6 octets)) fields
  aaaa_data (Addr4 octets) is = absurd (omega (arith, ap length is.0))
  aaaa_data (Addr6 octets) is = (octets, refl, is.1)
  aaaa_data (Cname name) is = absurd (omega (arith, ap length is.0))
  aaaa_data (Srv server) is = absurd (omega (arith, ap length is.0))
  aaaa_data (Naptr rule) is = absurd (omega (arith, ap length is.0))
  aaaa_data (Soa authority) is = absurd (omega (arith, ap length is.0))
  aaaa_data (Other other) is = absurd is

  pub cname_data : (found : Rdata) → DataFields (codes "CNAME") fields found
      → (name : List (List ℕ)) × (found ≡ Cname name) × OneField (TextOf name) fields
  cname_data (Addr4 octets) is = absurd (omega (arith, ap length is.0))
  cname_data (Addr6 octets) is = absurd (omega (arith, ap length is.0))
  cname_data (Cname name) is = (name, refl, is.1)
  cname_data (Srv server) is = absurd (omega (arith, ap length is.0))
  cname_data (Naptr rule) is = let first : ◌≡◌ {A = ℕ} 67 78 = ap (λ (l : List ℕ). get_or l 0 0) is.0 in absurd (omega (arith, first))
  cname_data (Soa authority) is = absurd (omega (arith, ap length is.0))
  cname_data (Other other) is = absurd is

  pub srv_data : (found : Rdata) → DataFields (codes "SRV") fields found
      → (server : SrvRecord) × (found ≡ Srv server) × SrvFields fields server
  srv_data (Addr4 octets) is = absurd (omega (arith, ap length is.0))
  srv_data (Addr6 octets) is = absurd (omega (arith, ap length is.0))
  srv_data (Cname name) is = absurd (omega (arith, ap length is.0))
  srv_data (Srv server) is = (server, refl, is.1)
  srv_data (Naptr rule) is = absurd (omega (arith, ap length is.0))
  srv_data (Soa authority) is = let second : ◌≡◌ {A = ℕ} 82 79 = ap (λ (l : List ℕ). get_or l 1 0) is.0 in absurd (omega (arith, second))
  srv_data (Other other) is = absurd is

  pub naptr_data : (found : Rdata) → DataFields (codes "NAPTR") fields found
      → (rule : NaptrRecord) × (found ≡ Naptr rule) × NaptrFields fields rule
  naptr_data (Addr4 octets) is = absurd (omega (arith, ap length is.0))
  naptr_data (Addr6 octets) is = absurd (omega (arith, ap length is.0))
  naptr_data (Cname name) is = let first : ◌≡◌ {A = ℕ} 78 67 = ap (λ (l : List ℕ). get_or l 0 0) is.0 in absurd (omega (arith, first))
  naptr_data (Srv server) is = absurd (omega (arith, ap length is.0))
  naptr_data (Naptr rule) is = (rule, refl, is.1)
  naptr_data (Soa authority) is = absurd (omega (arith, ap length is.0))
  naptr_data (Other other) is = absurd is

  pub soa_data : (found : Rdata) → DataFields (codes "SOA") fields found
      → (authority : SoaRecord) × (found ≡ Soa authority) × SoaFields fields authority
  soa_data (Addr4 octets) is = absurd (omega (arith, ap length is.0))
  soa_data (Addr6 octets) is = absurd (omega (arith, ap length is.0))
  soa_data (Cname name) is = absurd (omega (arith, ap length is.0))
  soa_data (Srv server) is = let second : ◌≡◌ {A = ℕ} 79 82 = ap (λ (l : List ℕ). get_or l 1 0) is.0 in absurd (omega (arith, second))
  soa_data (Naptr rule) is = absurd (omega (arith, ap length is.0))
  soa_data (Soa authority) is = (authority, refl, is.1)
  soa_data (Other other) is = absurd is
