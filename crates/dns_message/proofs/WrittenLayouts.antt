-- Data, questions, records and the header as they are written, and what stands there.
use Rattle.std.proofs.Common.{◌≡◌, ℕ, ◌+◌, ◌^◌, ◌<◌, ◌≤◌, List, [], ◌∷◌, ◌++◌, length, refl, sym, ◌∙◌, append_assoc, arith, length-append}
use Rattle.std.specs.Int.{w16}
use Rattle.dns_name.specs.Labels.{wire_of}
use Rattle.dns_message.specs.Fits.{SrvFits, NaptrFits, SoaFits, RdataFits, RecordFits, QuestionFits, HeaderFits}
use Rattle.dns_message.specs.Headers.{HeaderAt}
use Rattle.dns_message.specs.Layouts.{CharStringAt, SrvAt, NaptrAt, SoaAt, RdataAt}
use Rattle.dns_message.specs.Offsets.{NumberAt}
use Rattle.dns_message.specs.Questions.{QuestionAt}
use Rattle.dns_message.specs.Records.{RecordAt}
use Rattle.dns_message.specs.Written.{two_octets, four_octets, string_octets, srv_octets, naptr_octets, soa_octets, rdata_octets, type_of_rdata, rdata_class, question_octets, record_octets, high_flags, low_flags, header_octets, count_octets}
use Rattle.dns_message.specs.declared.header.Header.{Header}
use Rattle.dns_message.specs.declared.naptr.NaptrRecord.{NaptrRecord}
use Rattle.dns_message.specs.declared.question.Asked.{Asked}
use Rattle.dns_message.specs.declared.rdata.Rdata.{Rdata}
use Rattle.dns_message.specs.declared.rdata.Rdata.TheVariants.{Addr4, Addr6, Srv, Naptr, Cname, Soa, Other}
use Rattle.dns_message.specs.declared.resource.Record.{Record}
use Rattle.dns_message.specs.declared.soa.SoaRecord.{SoaRecord}
use Rattle.dns_message.specs.declared.srv.SrvRecord.{SrvRecord}
use Rattle.dns_message.proofs.Names.{IsReadAgain}
use Rattle.dns_message.proofs.WrittenOctets.{length-two_octets, length-four_octets, length-srv_octets, length-naptr_octets, length-soa_octets}
use Rattle.dns_message.proofs.WrittenOffsets.{Stands, Stands-at, Stands-first, Stands-second, octets_at, index_at, two_at, four_at, name_at}

string_at : (message : List ℕ) (offset : ℕ) (string : List ℕ) → length string ≤ 255 → Stands message offset (string_octets string)
    → CharStringAt message offset string (offset + length (string_octets string))
unfolding string_octets
string_at message offset string short s = record { short = short; stands = octets_at message offset (length string ∷ string) s }

-- ---- parts behind one another

-- the first part, and the others behind it
pub record Parts (message : List ℕ) (offset : ℕ) (xs ys : List ℕ) : Type 0 where
  pub first : Stands message offset xs
  pub others : Stands message (offset + length xs) ys

pub parts : (message : List ℕ) (offset : ℕ) (xs ys : List ℕ) → Stands message offset (xs ++ ys) → Parts message offset xs ys
parts message offset xs ys s = record { first = Stands-first message offset xs ys s; others = Stands-second message offset xs ys s }

srv_at : IsReadAgain → (message : List ℕ) (offset : ℕ) (server : SrvRecord) → SrvFits server → Stands message offset (srv_octets server)
    → SrvAt message offset server (offset + length (srv_octets server))
unfolding srv_octets
srv_at again message offset server fits s =
    let priority : List ℕ = two_octets server.priority in
    let weight : List ℕ = two_octets server.weight in
    let port : List ℕ = two_octets server.port in
    let target : List ℕ = wire_of server.target in
    let p3 = parts message offset (priority ++ weight ++ port) target s in
    let p2 = parts message offset (priority ++ weight) port p3.first in
    let p1 = parts message offset priority weight p2.first in
    let sizes : length (priority ++ weight) ≡ 4 = simp (length-append, length-two_octets) in
    let sizes' : length (priority ++ weight ++ port) ≡ 6 = simp (length-append, length-two_octets) in
    let there = name_at again message (offset + 6) server.target fits.target (Stands-at (offset + 6) (omega (arith, sizes')) p3.others) in
    let end : offset + 6 + length target ≡ offset + length (priority ++ weight ++ port ++ target) =
    omega (arith, sizes', length-append (priority ++ weight ++ port) target) in
    record {
      priority = two_at message offset server.priority fits.priority p1.first;
      weight = two_at message (offset + 2) server.weight fits.weight
          (Stands-at (offset + 2) (omega (arith, length-two_octets server.priority)) p1.others);
      port = two_at message (offset + 4) server.port fits.port (Stands-at (offset + 4) (omega (arith, sizes)) p2.others);
      target = rw end at there;
    }

naptr_at : IsReadAgain → (message : List ℕ) (offset : ℕ) (rule : NaptrRecord) → NaptrFits rule → Stands message offset (naptr_octets rule)
    → NaptrAt message offset rule (offset + length (naptr_octets rule))
unfolding naptr_octets
naptr_at again message offset rule fits s =
    let order : List ℕ = two_octets rule.order in
    let preference : List ℕ = two_octets rule.preference in
    let flags : List ℕ = string_octets rule.flags in
    let services : List ℕ = string_octets rule.services in
    let regexp : List ℕ = string_octets rule.regexp in
    let replacement : List ℕ = wire_of rule.replacement in
    let p1 = parts message offset order (preference ++ (flags ++ (services ++ (regexp ++ replacement)))) (simp append_assoc at s) in
    let p2 = parts message (offset + length order) preference (flags ++ (services ++ (regexp ++ replacement))) p1.others in
    let flags_start : offset + 4 ≡ offset + length order + length preference =
    omega (arith, length-two_octets rule.order, length-two_octets rule.preference) in
    let p3 = parts message (offset + 4) flags (services ++ (regexp ++ replacement)) (Stands-at (offset + 4) flags_start p2.others) in
    let p4 = parts message (offset + 4 + length flags) services (regexp ++ replacement) p3.others in
    let p5 = parts message (offset + 4 + length flags + length services) regexp replacement p4.others in
    let there = name_at again message
    (offset + 4 + length flags + length services + length regexp) rule.replacement fits.replacement p5.others in
    let end : offset + 4 + length flags + length services + length regexp + length replacement ≡ offset + length (naptr_octets rule) =
    simp (length-append, length-two_octets) (omega arith) in
    record {
      services_start = offset + 4 + length flags;
      regexp_start = offset + 4 + length flags + length services;
      replacement_start = offset + 4 + length flags + length services + length regexp;
      order = two_at message offset rule.order fits.order p1.first;
      preference = two_at message (offset + 2) rule.preference fits.preference
          (Stands-at (offset + 2) (omega (arith, length-two_octets rule.order)) p2.first);
      flags = string_at message (offset + 4) rule.flags fits.flags p3.first;
      services = string_at message (offset + 4 + length flags) rule.services fits.services p4.first;
      regexp = string_at message (offset + 4 + length flags + length services) rule.regexp fits.regexp p5.first;
      replacement = rw end at there;
    }

soa_at : IsReadAgain → (message : List ℕ) (offset : ℕ) (authority : SoaRecord) → SoaFits authority
    → Stands message offset (soa_octets authority) → SoaAt message offset authority (offset + length (soa_octets authority))
unfolding soa_octets
soa_at again message offset authority fits s =
    let mname : List ℕ = wire_of authority.mname in
    let rname : List ℕ = wire_of authority.rname in
    let serial : List ℕ = four_octets authority.serial in
    let refresh : List ℕ = four_octets authority.refresh in
    let retry : List ℕ = four_octets authority.retry in
    let expire : List ℕ = four_octets authority.expire in
    let minimum : List ℕ = four_octets authority.minimum in
    let start : ℕ = offset + length mname + length rname in
    let p1 = parts message offset mname (rname ++ (serial ++ (refresh ++ (retry ++ (expire ++ minimum))))) (simp append_assoc at s) in
    let p2 = parts message (offset + length mname) rname (serial ++ (refresh ++ (retry ++ (expire ++ minimum)))) p1.others in
    let p3 = parts message start serial (refresh ++ (retry ++ (expire ++ minimum))) p2.others in
    let p4 = parts message (start + 4) refresh (retry ++ (expire ++ minimum))
    (Stands-at (start + 4) (omega (arith, length-four_octets authority.serial)) p3.others) in
    let p5 = parts message (start + 8) retry (expire ++ minimum)
    (Stands-at (start + 8) (omega (arith, length-four_octets authority.refresh)) p4.others) in
    let p6 = parts message (start + 12) expire minimum
    (Stands-at (start + 12) (omega (arith, length-four_octets authority.retry)) p5.others) in
    record {
      rname_start = offset + length mname;
      numbers_start = start;
      mname = name_at again message offset authority.mname fits.mname p1.first;
      rname = name_at again message (offset + length mname) authority.rname fits.rname p2.first;
      serial = four_at message start authority.serial fits.serial p3.first;
      refresh = four_at message (start + 4) authority.refresh fits.refresh p4.first;
      retry = four_at message (start + 8) authority.retry fits.retry p5.first;
      expire = four_at message (start + 12) authority.expire fits.expire p6.first;
      minimum = four_at message (start + 16) authority.minimum fits.minimum
          (Stands-at (start + 16) (omega (arith, length-four_octets authority.expire)) p6.others);
      ends = simp (length-append, length-four_octets) (omega arith);
    }

-- ---- records

length_fits : (rdata : Rdata) → RdataFits rdata → length (rdata_octets rdata) < 2 ^ 16
length_fits (Addr4 octets) fits = omega (arith, fits)
length_fits (Addr6 octets) fits = omega (arith, fits)
length_fits (Srv server) fits = omega (arith, length-srv_octets server, fits.target.short)
length_fits (Naptr rule) fits = omega (arith, length-naptr_octets rule, fits.flags, fits.services, fits.regexp, fits.replacement.short)
length_fits (Cname name) fits = omega (arith, fits.short)
length_fits (Soa authority) fits = omega (arith, length-soa_octets authority, fits.mname.short, fits.rname.short)
length_fits (Other other) fits = omega (arith, fits.short)

rdata_at : IsReadAgain → (message : List ℕ) (offset : ℕ) (rdata : Rdata) → RdataFits rdata → Stands message offset (rdata_octets rdata)
    → RdataAt message offset (type_of_rdata rdata) (rdata_class rdata) rdata (offset + length (rdata_octets rdata))
rdata_at again message offset (Addr4 octets) fits s = (octets, refl, record { size_is = fits; stands = octets_at message offset octets s })
rdata_at again message offset (Addr6 octets) fits s = (octets, refl, record { size_is = fits; stands = octets_at message offset octets s })
rdata_at again message offset (Srv server) fits s = (server, refl, srv_at again message offset server fits s)
rdata_at again message offset (Naptr rule) fits s = (rule, refl, naptr_at again message offset rule fits s)
rdata_at again message offset (Cname name) fits s = (name, refl, name_at again message offset name fits s)
rdata_at again message offset (Soa authority) fits s = (authority, refl, soa_at again message offset authority fits s)
rdata_at again message offset (Other other) fits s =
    rw fits.format (other.octets, refl, record { short = fits.short; stands = octets_at message offset other.octets s })

pub record_at : IsReadAgain → (message : List ℕ) (offset : ℕ) (entry : Record) → RecordFits entry
    → Stands message offset (record_octets entry) → RecordAt message offset entry (offset + length (record_octets entry))
unfolding record_octets
record_at again message offset entry fits s =
    let owner : List ℕ = wire_of entry.owner in
    let type_number : List ℕ = two_octets (type_of_rdata entry.rdata) in
    let class_number : List ℕ = two_octets (rdata_class entry.rdata) in
    let ttl : List ℕ = four_octets entry.ttl in
    let rdata : List ℕ = rdata_octets entry.rdata in
    let size : List ℕ = two_octets (length rdata) in
    let after : ℕ = offset + length owner in
    let p1 = parts message offset owner (type_number ++ (class_number ++ (ttl ++ (size ++ rdata)))) (simp append_assoc at s) in
    let p2 = parts message after type_number (class_number ++ (ttl ++ (size ++ rdata))) p1.others in
    let p3 = parts message (after + 2) class_number (ttl ++ (size ++ rdata))
    (Stands-at (after + 2) (omega (arith, length-two_octets (type_of_rdata entry.rdata))) p2.others) in
    let p4 = parts message (after + 4) ttl (size ++ rdata)
    (Stands-at (after + 4) (omega (arith, length-two_octets (rdata_class entry.rdata))) p3.others) in
    let p5 = parts message (after + 8) size rdata (Stands-at (after + 8) (omega (arith, length-four_octets entry.ttl)) p4.others) in
    let there = rdata_at again message (after + 10) entry.rdata fits.rdata
    (Stands-at (after + 10) (omega (arith, length-two_octets (length rdata))) p5.others) in
    let end : after + 10 + length rdata ≡ offset + length (record_octets entry) =
    simp (length-append, length-two_octets, length-four_octets) (omega arith) in
    record {
      after = after;
      type_number = type_of_rdata entry.rdata;
      class_number = rdata_class entry.rdata;
      size = length rdata;
      owner = name_at again message offset entry.owner fits.owner p1.first;
      fixed = record {
        type_number_at = two_at message after (type_of_rdata entry.rdata) fits.type_number p2.first;
        class_number_at = two_at message (after + 2) (rdata_class entry.rdata) fits.class_number p3.first;
        ttl_at = four_at message (after + 4) entry.ttl fits.ttl p4.first;
        size_at = two_at message (after + 8) (length rdata) (length_fits entry.rdata fits.rdata) p5.first;
      };
      ends = sym end;
      rdata = rw end at there;
    }

pub question_at : IsReadAgain → (message : List ℕ) (offset : ℕ) (asked : Asked) → QuestionFits asked
    → Stands message offset (question_octets asked) → QuestionAt message offset asked (offset + length (question_octets asked))
unfolding question_octets
question_at again message offset asked fits s =
    let name : List ℕ = wire_of asked.name in
    let type_number : List ℕ = two_octets asked.type_number in
    let class_number : List ℕ = two_octets asked.class_number in
    let after : ℕ = offset + length name in
    let p1 = parts message offset name (type_number ++ class_number) (simp append_assoc at s) in
    let p2 = parts message after type_number class_number p1.others in
    record {
      after = after;
      name = name_at again message offset asked.name fits.name p1.first;
      type_number = two_at message after asked.type_number fits.type_number p2.first;
      class_number = two_at message (after + 2) asked.class_number fits.class_number
          (Stands-at (after + 2) (omega (arith, length-two_octets asked.type_number)) p2.others);
      ends = simp (length-append, length-two_octets) (omega arith);
    }

-- ---- the header

pub header_at : (message : List ℕ) (header : Header) → HeaderFits header → Stands message 0 (header_octets header) → HeaderAt message header
unfolding header_octets
header_at message header fits s =
    let high : ℕ = high_flags header in
    let low : ℕ = low_flags header in
    let p1 = parts message 0 (two_octets header.id) (high ∷ low ∷ []) s in
    let flags = parts message 2 (high ∷ []) (low ∷ []) (Stands-at 2 (omega (arith, length-two_octets header.id)) p1.others) in
    let there = octets_at message 3 (low ∷ []) flags.others in
    record {
      within = omega (arith, there.within);
      id = two_at message 0 header.id fits.id p1.first;
      high = record { opcode = fits.opcode; is = index_at message 2 high [] flags.first };
      low = record { z = 0; free = omega arith; rcode = fits.rcode; is = index_at message 3 low [] flags.others ∙ omega arith };
    }

-- the counts of questions, answers, authority and additional records
pub record CountsStand (message : List ℕ) (a b c d : ℕ) : Type 0 where
  pub questions : NumberAt w16 message 4 a
  pub answers : NumberAt w16 message 6 b
  pub authority : NumberAt w16 message 8 c
  pub additional : NumberAt w16 message 10 d

pub counts_at : (message : List ℕ) (a b c d : ℕ) → a < 2 ^ 16 → b < 2 ^ 16 → c < 2 ^ 16 → d < 2 ^ 16
    → Stands message 4 (count_octets a b c d) → CountsStand message a b c d
unfolding count_octets
counts_at message a b c d fits_a fits_b fits_c fits_d s =
    let p1 = parts message 4 (two_octets a) (two_octets b ++ (two_octets c ++ two_octets d)) (simp append_assoc at s) in
    let p2 = parts message 6 (two_octets b) (two_octets c ++ two_octets d) (Stands-at 6 (omega (arith, length-two_octets a)) p1.others) in
    let p3 = parts message 8 (two_octets c) (two_octets d) (Stands-at 8 (omega (arith, length-two_octets b)) p2.others) in
    record {
      questions = two_at message 4 a fits_a p1.first;
      answers = two_at message 6 b fits_b p2.first;
      authority = two_at message 8 c fits_c p3.first;
      additional = two_at message 10 d fits_d (Stands-at 10 (omega (arith, length-two_octets c)) p3.others);
    }
