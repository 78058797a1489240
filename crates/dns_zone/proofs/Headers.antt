-- The header and the questions of a reply.
use Rattle.std.proofs.Common.{◌≡◌, ℕ, ◌<◌, ◌≤◌, Bool, true, false, nat_le, List, [], ◌∷◌, length, refl, ap, subst, ◌∙◌, arith}
use Rattle.dns_message.specs.Messages.{Spells}
use Rattle.dns_message.specs.Written.{fitted, plain}
use Rattle.dns_message.specs.declared.header.Header.{Header}
use Rattle.dns_message.specs.declared.message.Message.{Message}
use Rattle.dns_message.specs.declared.question.Asked.{Asked}
use Rattle.dns_zone.specs.Zones.{Owned, entries_at, path}
use Rattle.dns_zone.specs.Views.{bounded}
use Rattle.dns_zone.proofs.Lengths.{fitted-bounded}
use Rattle.dns_zone.specs.Replies.{Replies, is_taken, name_rcode, rcode, reply_about, reply_header, reply_to}
use Rattle.dns_zone.specs.declared.zone.ZoneEntry.{ZoneEntry}

-- such a header, and at most one question
pub record IsHeaded (query : Header) (reply : Message) : Type 0 where
  pub type_number : ℕ
  pub low : type_number < 16
  pub header : reply.header ≡ reply_header query type_number
  pub few : length reply.questions ≤ 1

low_rcode : (entries : List ZoneEntry) → name_rcode entries < 16
low_rcode [] = omega arith
low_rcode (entry ∷ entries) = omega arith

one_headed : (zone : List Owned) (query : Header) (asked : Asked) (taken : Bool) → is_taken query asked ≡ taken
    → IsHeaded query (reply_about zone query (asked ∷ []))
one_headed zone query asked true e =
    record {
      type_number = rcode zone asked;
      low = low_rcode (entries_at zone (path zone asked.name).last);
      header = rw e refl;
      few =
          rw e (omega arith);
    }
one_headed zone query asked false e = record { type_number = 5; low = omega arith; header = rw e refl; few = rw e (omega arith) }

about_headed : (zone : List Owned) (query : Header) (questions : List Asked) → IsHeaded query (reply_about zone query questions)
about_headed zone query [] = record { type_number = 5; low = omega arith; header = refl; few = omega arith }
about_headed zone query (asked ∷ []) = one_headed zone query asked (is_taken query asked) refl
about_headed zone query (asked ∷ other ∷ more) = record { type_number = 5; low = omega arith; header = refl; few = omega arith }

pub reply_headed : (zone : List Owned) (query : Message) → IsHeaded query.header (reply_to zone query)
reply_headed zone query = about_headed zone query.header query.questions

-- what is sent keeps QR and the id
fitted_by : (message : Message) (fits : Bool) → nat_le (length (plain message)) 512 ≡ fits
    → ((fitted message).header.reply ≡ message.header.reply) × ((fitted message).header.id ≡ message.header.id)
fitted_by message true e = rw e (refl, refl)
fitted_by message false e = rw e (refl, refl)

pub fitted-keeps : (message : Message) → ((fitted message).header.reply ≡ message.header.reply)
    × ((fitted message).header.id ≡ message.header.id)
fitted-keeps message = fitted_by message (nat_le (length (plain message)) 512) refl

-- what is written of the reply is the reply
pub reply_is : (zone : List Owned) (query reply : Message) (octets : List ℕ) → reply ≡ bounded (reply_to zone query)
    → octets ≡ plain (fitted reply) → Spells octets (fitted reply) → length octets ≤ 512 → Replies zone query octets
reply_is zone query reply octets is written spells short =
    let same : fitted reply ≡ fitted (reply_to zone query) = ap fitted is ∙ fitted-bounded (reply_to zone query) in
    record { written = written ∙ ap plain same; spells = subst (Spells octets) same spells; short = short }
