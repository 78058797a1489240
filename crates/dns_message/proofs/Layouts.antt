-- The data of records at offsets.
use Rattle.std.proofs.Common.{◌≡◌, ℕ, ◌+◌, ◌<◌, ◌≤◌, List, ◌∷◌, length, take, refl, sym, ap, ◌∙◌, arith}
use Rattle.std.specs.Int.{w16, w32}
use Rattle.dns_name.specs.Offsets.{NameAt}
use Rattle.dns_message.specs.Layouts.{AddressAt, CharStringAt, SrvAt, NaptrAt, SoaAt, FormatAt}
use Rattle.dns_message.specs.declared.naptr.NaptrRecord.{NaptrRecord}
use Rattle.dns_message.specs.declared.rdata.DataFormat.{DataFormat}
use Rattle.dns_message.specs.declared.rdata.DataFormat.TheVariants as format
use Rattle.dns_message.specs.declared.rdata.Rdata.{Rdata}
use Rattle.dns_message.specs.declared.rdata.Rdata.TheVariants.{Addr4, Addr6, Srv, Naptr, Cname, Soa, Other}
use Rattle.dns_message.specs.declared.soa.SoaRecord.{SoaRecord}
use Rattle.dns_message.specs.declared.srv.SrvRecord.{SrvRecord}
use Rattle.dns_message.proofs.Names.{OneName, WithinEnd, IsLocal}
use Rattle.dns_message.proofs.Offsets.{one_number, one_text, first_octet, take_less, NumberAt-other, OctetsAt-other}

-- ---- one of each stands at an offset

pub one_char_string : (message : List ℕ) (p end end' : ℕ) (s s' : List ℕ) → CharStringAt message p s end → CharStringAt message p s' end'
    → (s ≡ s') × (end ≡ end')
one_char_string message p end end' s s' x y =
    let size : length s ≡ length s' =
    sym (first_octet message p (length s) s end x.stands) ∙ first_octet message p (length s') s' end' y.stands in
    let ends : end ≡ end' = omega (arith, x.stands.size, y.stands.size, size) in
    let both : length s ∷ s ≡ length s' ∷ s' = one_text message p (length s ∷ s) (length s' ∷ s') end' (rw ends at x.stands) y.stands in
    (cc both, ends)

abbrev srv_of : ℕ → ℕ → ℕ → List (List ℕ) → SrvRecord
srv_of priority weight port target = record { priority = priority; weight = weight; port = port; target = target }

same_srv : (a b : SrvRecord) → a.priority ≡ b.priority → a.weight ≡ b.weight → a.port ≡ b.port → a.target ≡ b.target → a ≡ b
same_srv a b e0 e1 e2 e3 = let same : srv_of a.priority a.weight a.port a.target ≡ srv_of b.priority b.weight b.port b.target =
    rw (e0, e1, e2, e3) refl in same

pub one_srv : OneName → (message : List ℕ) (p end end' : ℕ) (a b : SrvRecord) → SrvAt message p a end → SrvAt message p b end' → (a ≡ b)
    × (end ≡ end')
one_srv one message p end end' a b x y =
    let k = one message (p + 6) (p + 6) end end' a.target b.target x.target y.target in (
      same_srv a b (one_number w16 message p a.priority b.priority x.priority y.priority)
          (one_number w16 message (p + 2) a.weight b.weight x.weight y.weight)
          (one_number w16 message (p + 4) a.port b.port x.port y.port) k.0,
      k.1,
    )

abbrev naptr_of : ℕ → ℕ → List ℕ → List ℕ → List ℕ → List (List ℕ) → NaptrRecord
naptr_of order preference flags services regexp replacement =
    record { order = order; preference = preference; flags = flags; services = services; regexp = regexp; replacement = replacement }

same_naptr : (a b : NaptrRecord) → a.order ≡ b.order → a.preference ≡ b.preference → a.flags ≡ b.flags → a.services ≡ b.services
    → a.regexp ≡ b.regexp → a.replacement ≡ b.replacement → a ≡ b
same_naptr a b e0 e1 e2 e3 e4 e5 =
    let same : naptr_of a.order a.preference a.flags a.services a.regexp a.replacement
    ≡ naptr_of b.order b.preference b.flags b.services b.regexp b.replacement = rw (e0, e1, e2, e3, e4, e5) refl in same

pub one_naptr : OneName → (message : List ℕ) (p end end' : ℕ) (a b : NaptrRecord) → NaptrAt message p a end → NaptrAt message p b end'
    → (a ≡ b) × (end ≡ end')
one_naptr one message p end end' a b x y =
    let flags = one_char_string message (p + 4) x.services_start y.services_start a.flags b.flags x.flags y.flags in
    let services =
    one_char_string message y.services_start x.regexp_start y.regexp_start a.services b.services
    (rw flags.1 at x.services) y.services in
    let regexp = one_char_string message y.regexp_start x.replacement_start y.replacement_start a.regexp b.regexp
    (rw services.1 at x.regexp) y.regexp in
    let replacement =
    one message y.replacement_start y.replacement_start end end' a.replacement b.replacement
    (rw regexp.1 at x.replacement) y.replacement in (
      same_naptr a b (one_number w16 message p a.order b.order x.order y.order)
          (one_number w16 message
          (p + 2) a.preference b.preference x.preference y.preference) flags.0 services.0 regexp.0 replacement.0,
      replacement.1,
    )

abbrev soa_of : List (List ℕ) → List (List ℕ) → ℕ → ℕ → ℕ → ℕ → ℕ → SoaRecord
soa_of mname rname serial refresh retry expire minimum =
    record { mname = mname; rname = rname; serial = serial; refresh = refresh; retry = retry; expire = expire; minimum = minimum }

same_soa : (a b : SoaRecord) → a.mname ≡ b.mname → a.rname ≡ b.rname → a.serial ≡ b.serial → a.refresh ≡ b.refresh → a.retry ≡ b.retry
    → a.expire ≡ b.expire → a.minimum ≡ b.minimum → a ≡ b
same_soa a b e0 e1 e2 e3 e4 e5 e6 =
    let same : soa_of a.mname a.rname a.serial a.refresh a.retry a.expire a.minimum
    ≡ soa_of b.mname b.rname b.serial b.refresh b.retry b.expire b.minimum = rw (e0, e1, e2, e3, e4, e5, e6) refl in same

pub one_soa : OneName → (message : List ℕ) (p end end' : ℕ) (a b : SoaRecord) → SoaAt message p a end → SoaAt message p b end' → (a ≡ b)
    × (end ≡ end')
one_soa one message p end end' a b x y =
    let mname = one message p p x.rname_start y.rname_start a.mname b.mname x.mname y.mname in
    let rname = one message y.rname_start y.rname_start x.numbers_start y.numbers_start a.rname b.rname (rw mname.1 at x.rname) y.rname in
    let n : ℕ = y.numbers_start in
    let serial : a.serial ≡ b.serial = one_number w32 message n a.serial b.serial (rw rname.1 at x.serial) y.serial in
    let refresh : a.refresh ≡ b.refresh = one_number w32 message (n + 4) a.refresh b.refresh (rw rname.1 at x.refresh) y.refresh in
    let retry : a.retry ≡ b.retry = one_number w32 message (n + 8) a.retry b.retry (rw rname.1 at x.retry) y.retry in
    let expire : a.expire ≡ b.expire = one_number w32 message (n + 12) a.expire b.expire (rw rname.1 at x.expire) y.expire in
    let minimum : a.minimum ≡ b.minimum = one_number w32 message (n + 16) a.minimum b.minimum (rw rname.1 at x.minimum) y.minimum in
    (same_soa a b mname.0 rname.0 serial refresh retry expire minimum, omega (arith, x.ends, y.ends, rname.1))

abbrev other_of : ℕ → ℕ → List ℕ → Rdata
other_of type_number class_number octets = Other (record { type_number = type_number; class_number = class_number; octets = octets })

pub one_format : OneName → (f : DataFormat) (message : List ℕ) (p type_number class_number end : ℕ) (a b : Rdata)
    → FormatAt f message p type_number class_number a end → FormatAt f message p type_number class_number b end → a ≡ b
one_format one format.A message p type_number class_number end a b x y =
    x.1 ∙ ap Addr4 (one_text message p x.0 y.0 end x.2.stands y.2.stands) ∙ sym y.1
one_format one format.Aaaa message p type_number class_number end a b x y =
    x.1 ∙ ap Addr6 (one_text message p x.0 y.0 end x.2.stands y.2.stands) ∙ sym y.1
one_format one format.Srv message p type_number class_number end a b x y = x.1 ∙ ap Srv (one_srv one message p end end x.0 y.0 x.2 y.2).0 ∙
    sym y.1
one_format one format.Naptr message p type_number class_number end a b x y =
    x.1 ∙ ap Naptr (one_naptr one message p end end x.0 y.0 x.2 y.2).0 ∙ sym y.1
one_format one format.Cname message p type_number class_number end a b x y = x.1 ∙ ap Cname (one message p p end end x.0 y.0 x.2 y.2).0 ∙
    sym y.1
one_format one format.Soa message p type_number class_number end a b x y = x.1 ∙ ap Soa (one_soa one message p end end x.0 y.0 x.2 y.2).0 ∙
    sym y.1
one_format one format.Other message p type_number class_number end a b x y =
    x.1 ∙ ap (other_of type_number class_number) (one_text message p x.0 y.0 end x.2.stands y.2.stands) ∙ sym y.1

-- ---- the end of each is within the message, and behind its beginning

pub char_string_ends : (message : List ℕ) (p end : ℕ) (s : List ℕ) → CharStringAt message p s end → (p < end) × (end ≤ length message)
char_string_ends message p end s x = (omega (arith, x.stands.size), x.stands.within)

pub soa_ends : WithinEnd → (message : List ℕ) (p end : ℕ) (a : SoaRecord) → SoaAt message p a end → (p < end) × (end ≤ length message)
soa_ends within message p end a x =
    let mname = within message p x.rname_start a.mname x.mname in
    let rname = within message x.rname_start x.numbers_start a.rname x.rname in
    (omega (arith, mname.0, rname.0, x.ends), omega (arith, x.minimum.within, x.ends))

pub format_within : WithinEnd → (f : DataFormat) (message : List ℕ) (p type_number class_number end : ℕ) (a : Rdata)
    → FormatAt f message p type_number class_number a end → end ≤ length message
format_within within format.A message p type_number class_number end a x = x.2.stands.within
format_within within format.Aaaa message p type_number class_number end a x = x.2.stands.within
format_within within format.Srv message p type_number class_number end a x = (within message (p + 6) end x.0.target x.2.target).1
format_within within format.Naptr message p type_number class_number end a x =
    (within message x.2.replacement_start end x.0.replacement x.2.replacement).1
format_within within format.Cname message p type_number class_number end a x = (within message p end x.0 x.2).1
format_within within format.Soa message p type_number class_number end a x = (soa_ends within message p end x.0 x.2).1
format_within within format.Other message p type_number class_number end a x = x.2.stands.within

pub naptr_ends : WithinEnd → (message : List ℕ) (p end : ℕ) (a : NaptrRecord) → NaptrAt message p a end → p < end
naptr_ends within message p end a x =
    let flags = (char_string_ends message (p + 4) x.services_start a.flags x.flags).0 in
    let services = (char_string_ends message x.services_start x.regexp_start a.services x.services).0 in
    let regexp = (char_string_ends message x.regexp_start x.replacement_start a.regexp x.regexp).0 in
    let replacement = (within message x.replacement_start end a.replacement x.replacement).0 in
    omega arith

pub format_goes_on : WithinEnd → (f : DataFormat) (message : List ℕ) (p type_number class_number end : ℕ) (a : Rdata)
    → FormatAt f message p type_number class_number a end → p ≤ end
format_goes_on within format.A message p type_number class_number end a x = omega (arith, x.2.stands.size)
format_goes_on within format.Aaaa message p type_number class_number end a x = omega (arith, x.2.stands.size)
format_goes_on within format.Srv message p type_number class_number end a x = omega
    (arith, (within message (p + 6) end x.0.target x.2.target).0)
format_goes_on within format.Naptr message p type_number class_number end a x = omega (arith, naptr_ends within message p end x.0 x.2)
format_goes_on within format.Cname message p type_number class_number end a x = omega (arith, (within message p end x.0 x.2).0)
format_goes_on within format.Soa message p type_number class_number end a x = omega (arith, (soa_ends within message p end x.0 x.2).0)
format_goes_on within format.Other message p type_number class_number end a x = omega (arith, x.2.stands.size)

-- ---- each rests on the octets before its end

AddressAt-other : (size : ℕ) (message other : List ℕ) (limit : ℕ) → take limit message ≡ take limit other → (p end : ℕ) (octets : List ℕ)
    → AddressAt size message p octets end → end ≤ limit → AddressAt size other p octets end
AddressAt-other size message other limit same p end octets x le =
    record { size_is = x.size_is; stands = OctetsAt-other message other limit p octets end same le x.stands }

CharStringAt-other : (message other : List ℕ) (limit : ℕ) → take limit message ≡ take limit other → (p end : ℕ) (s : List ℕ)
    → CharStringAt message p s end → end ≤ limit → CharStringAt other p s end
CharStringAt-other message other limit same p end s x le =
    record { short = x.short; stands = OctetsAt-other message other limit p (length s ∷ s) end same le x.stands }

module _ (within : WithinEnd) (local : IsLocal) (message other : List ℕ) (limit : ℕ) (same : take limit message ≡ take limit other) where
  NameAt-other : (p end : ℕ) (name : List (List ℕ)) → NameAt message p p name end → end ≤ limit → NameAt other p p name end
  NameAt-other p end name x le = local message other p end name x (take_less message other limit end same le)

  SrvAt-other : (p end : ℕ) (a : SrvRecord) → SrvAt message p a end → end ≤ limit → SrvAt other p a end
  SrvAt-other p end a x le =
      let on = (within message (p + 6) end a.target x.target).0 in
      record {
        priority = NumberAt-other w16 message other limit p a.priority same (omega (arith, on, le)) x.priority;
        weight = NumberAt-other w16 message other limit (p + 2) a.weight same (omega (arith, on, le)) x.weight;
        port = NumberAt-other w16 message other limit (p + 4) a.port same (omega (arith, on, le)) x.port;
        target = NameAt-other (p + 6) end a.target x.target le;
      }

  NaptrAt-other : (p end : ℕ) (a : NaptrRecord) → NaptrAt message p a end → end ≤ limit → NaptrAt other p a end
  NaptrAt-other p end a x le =
      let flags = (char_string_ends message (p + 4) x.services_start a.flags x.flags).0 in
      let services = (char_string_ends message x.services_start x.regexp_start a.services x.services).0 in
      let regexp = (char_string_ends message x.regexp_start x.replacement_start a.regexp x.regexp).0 in
      let replacement = (within message x.replacement_start end a.replacement x.replacement).0 in
      record {
        services_start = x.services_start;
        regexp_start = x.regexp_start;
        replacement_start = x.replacement_start;
        order = NumberAt-other w16 message other limit p a.order same (omega (arith, flags, services, regexp, replacement, le)) x.order;
        preference = NumberAt-other w16 message other limit (p + 2) a.preference same
            (omega (arith, flags, services, regexp, replacement, le)) x.preference;
        flags = CharStringAt-other message other limit same (p + 4) x.services_start a.flags x.flags
            (omega (arith, services, regexp, replacement, le));
        services = CharStringAt-other message other limit same x.services_start x.regexp_start a.services x.services
            (omega (arith, regexp, replacement, le));
        regexp = CharStringAt-other message other limit same x.regexp_start x.replacement_start a.regexp x.regexp
            (omega (arith, replacement, le));
        replacement = NameAt-other x.replacement_start end a.replacement x.replacement le;
      }

  SoaAt-other : (p end : ℕ) (a : SoaRecord) → SoaAt message p a end → end ≤ limit → SoaAt other p a end
  SoaAt-other p end a x le =
      let rname = (within message x.rname_start x.numbers_start a.rname x.rname).0 in
      let n : ℕ = x.numbers_start in
      record {
        rname_start = x.rname_start;
        numbers_start = n;
        mname = NameAt-other p x.rname_start a.mname x.mname (omega (arith, rname, x.ends, le));
        rname = NameAt-other x.rname_start n a.rname x.rname (omega (arith, x.ends, le));
        serial = NumberAt-other w32 message other limit n a.serial same (omega (arith, x.ends, le)) x.serial;
        refresh = NumberAt-other w32 message other limit (n + 4) a.refresh same (omega (arith, x.ends, le)) x.refresh;
        retry = NumberAt-other w32 message other limit (n + 8) a.retry same (omega (arith, x.ends, le)) x.retry;
        expire = NumberAt-other w32 message other limit (n + 12) a.expire same (omega (arith, x.ends, le)) x.expire;
        minimum = NumberAt-other w32 message other limit (n + 16) a.minimum same (omega (arith, x.ends, le)) x.minimum;
        ends = x.ends;
      }

  pub FormatAt-other : (f : DataFormat) (p type_number class_number end : ℕ) (a : Rdata)
      → FormatAt f message p type_number class_number a end → end ≤ limit
      → FormatAt f other p type_number class_number a end
  FormatAt-other format.A p type_number class_number end a x le = (x.0, x.1, AddressAt-other 4 message other limit same p end x.0 x.2 le)
  FormatAt-other format.Aaaa p type_number class_number end a x le = (
    x.0,
    x.1,
    AddressAt-other 16 message other limit same p end x.0 x.2
        le,
  )
  FormatAt-other format.Srv p type_number class_number end a x le = (x.0, x.1, SrvAt-other p end x.0 x.2 le)
  FormatAt-other format.Naptr p type_number class_number end a x le = (x.0, x.1, NaptrAt-other p end x.0 x.2 le)
  FormatAt-other format.Cname p type_number class_number end a x le = (x.0, x.1, NameAt-other p end x.0 x.2 le)
  FormatAt-other format.Soa p type_number class_number end a x le = (x.0, x.1, SoaAt-other p end x.0 x.2 le)
  FormatAt-other format.Other p type_number class_number end a x le =
      (x.0, x.1, record { short = x.2.short; stands = OctetsAt-other message other limit p x.0 end same le x.2.stands })
