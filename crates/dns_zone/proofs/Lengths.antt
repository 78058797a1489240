-- Replies that are too long for a datagram, whatever more they have.
use Rattle.std.proofs.Common.{◌≡◌, ℕ, ◌*◌, ◌<◌, ◌≤◌, nat_le, Bool, true, false, List, [], ◌∷◌, length, take, refl, sym, ap, ◌∙◌, length-append, arith}
use Rattle.std.specs.List.{flat_map}
use Rattle.std.proofs.lemmas.Bool.Decides.{nat_tests}
use Rattle.std.proofs.lemmas.List.{length-take-le, take_all}
use Rattle.dns_name.specs.Labels.{wire_of}
use Rattle.dns_message.specs.Written.{count_octets, cut, fitted, four_octets, header_octets, plain, rdata_class, type_of_rdata, rdata_octets, record_octets, two_octets}
use Rattle.dns_message.specs.declared.message.Message.{Message}
use Rattle.dns_message.specs.declared.resource.Record.{Record}
use Rattle.dns_zone.specs.Views.{bounded}

length-two_octets : (number : ℕ) → length (two_octets number) ≡ 2
unfolding two_octets
length-two_octets number = refl

length-four_octets : (number : ℕ) → length (four_octets number) ≡ 4
unfolding four_octets
length-four_octets number = refl

length-wire_of : (labels : List (List ℕ)) → 1 ≤ length (wire_of labels)
length-wire_of [] = omega arith
length-wire_of (label ∷ labels) = omega arith

-- a record has 11 octets at least
length-record_octets : (entry : Record) → 11 ≤ length (record_octets entry)
unfolding record_octets
length-record_octets entry =
    let owner = length-wire_of entry.owner in
    let type_number = length-two_octets (type_of_rdata entry.rdata) in
    let class = length-two_octets (rdata_class entry.rdata) in
    let ttl = length-four_octets entry.ttl in
    let size = length-two_octets (length (rdata_octets entry.rdata)) in
    simp (length-append) (omega arith)

length-records : (entries : List Record) → 11 * length entries ≤ length (flat_map record_octets entries)
length-records [] = omega arith
length-records (entry ∷ entries) =
    let first = length-record_octets entry in
    let others = length-records entries in
    simp (length-append) (omega arith)

-- 46 of them are more than a datagram has
long : (message : Message) → 46 ≤ length message.answers → 512 < length (plain message)
unfolding plain header_octets count_octets
long message many =
    let answers = length-records message.answers in
    let id = length-two_octets message.header.id in
    let a = length-two_octets (length message.questions) in
    let b = length-two_octets (length message.answers) in
    let c = length-two_octets (length message.authority) in
    let d = length-two_octets (length message.additional) in
    simp (length-append) (omega arith)

cut_by : (message : Message) (fits : Bool) → nat_le (length (plain message)) 512 ≡ fits → 512 < length (plain message)
    → fitted message ≡ cut message
cut_by message true e over = absurd (grind (arith, nat_tests))
cut_by message false e over = rw e refl

is_cut : (message : Message) → 512 < length (plain message) → fitted message ≡ cut message
is_cut message over = cut_by message (nat_le (length (plain message)) 512) refl over

fitted_by : (message : Message) (few : Bool) → nat_le (length message.answers) 46 ≡ few → fitted (bounded message) ≡ fitted message
fitted_by message true e =
    let all : take 46 message.answers ≡ message.answers = take_all 46 message.answers (grind (arith, nat_tests)) in
    ap (λ (answers : List Record). fitted (record message { answers = answers })) all
fitted_by message false e =
    let many : 46 ≤ length message.answers = grind (arith, nat_tests) in
    let same : length (take 46 message.answers) ≡ 46 = length-take-le 46 message.answers many in
    is_cut (bounded message) (long (bounded message) (omega (arith, same))) ∙ sym (is_cut message (long message many))

-- what is sent is the same
pub fitted-bounded : (message : Message) → fitted (bounded message) ≡ fitted message
fitted-bounded message = fitted_by message (nat_le (length message.answers) 46) refl
