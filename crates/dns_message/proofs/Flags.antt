-- The two octets of flags, and what they say.
use Rattle.std.proofs.Common.{◌≡◌, ℕ, ◌+◌, ◌*◌, ◌/◌, ◌%◌, ◌<◌, Bool, true, false, nat_eq, nat_le, refl, arith}
use Rattle.std.proofs.lemmas.Bool.Decides.{nat_tests}
use Rattle.dns_message.specs.Headers.{bit, HighFlags, LowFlags}
use Rattle.dns_message.specs.declared.header.Header.{Header}

-- ---- an octet is made of what is read from it

bit-top : (octet : ℕ) → octet < 256 → bit (nat_le 128 octet) ≡ octet / 128
bit-top octet fits = grind (arith, nat_tests)

bit-odd : (n : ℕ) → bit (nat_eq (n % 2) 1) ≡ n % 2
bit-odd n = grind (arith, nat_tests)

pub high_octet : (octet : ℕ) → octet < 256
    → octet ≡ 128 * bit (nat_le 128 octet) + 8 * (octet / 8 % 16) + 4 * bit (nat_eq (octet / 4 % 2) 1) + 2 * bit
    (nat_eq (octet / 2 % 2) 1) + bit (nat_eq (octet % 2) 1)
high_octet octet fits = omega (arith, bit-top octet fits, bit-odd (octet / 4), bit-odd (octet / 2), bit-odd octet)

pub low_octet : (octet : ℕ) → octet < 256 → octet ≡ 128 * bit (nat_le 128 octet) + 16 * (octet / 16 % 8) + octet % 16
low_octet octet fits = omega (arith, bit-top octet fits)

-- ---- an octet says one thing

last_bit : (a a' : ℕ) (b b' : Bool) → 2 * a + bit b ≡ 2 * a' + bit b' → (a ≡ a') × (b ≡ b')
last_bit a a' true true e = (omega (arith, e), refl)
last_bit a a' true false e = absurd (omega (arith, e))
last_bit a a' false true e = absurd (omega (arith, e))
last_bit a a' false false e = (omega (arith, e), refl)

first_bit : (b b' : Bool) (n n' size : ℕ) → n < size → n' < size → size * bit b + n ≡ size * bit b' + n' → (b ≡ b') × (n ≡ n')
first_bit true true n n' size fits fits' e = (refl, omega (arith, e))
first_bit true false n n' size fits fits' e = absurd (omega (arith, e))
first_bit false true n n' size fits fits' e = absurd (omega (arith, e))
first_bit false false n n' size fits fits' e = (refl, omega (arith, e))

abbrev header_of : ℕ → Bool → ℕ → Bool → Bool → Bool → Bool → ℕ → Header
header_of id reply opcode authoritative truncated desired available rcode = record {
  id = id;
  reply = reply;
  opcode = opcode;
  authoritative = authoritative;
  truncated = truncated;
  recursion_desired = desired;
  recursion_available = available;
  rcode = rcode;
}

same_header : (h h' : Header) → h.id ≡ h'.id → h.reply ≡ h'.reply → h.opcode ≡ h'.opcode → h.authoritative ≡ h'.authoritative
    → h.truncated ≡ h'.truncated
    → h.recursion_desired ≡ h'.recursion_desired → h.recursion_available ≡ h'.recursion_available → h.rcode ≡ h'.rcode → h ≡ h'
same_header h h' e0 e1 e2 e3 e4 e5 e6 e7 =
    let same : header_of h.id h.reply h.opcode h.authoritative h.truncated h.recursion_desired h.recursion_available h.rcode
    ≡ header_of h'.id h'.reply h'.opcode h'.authoritative h'.truncated h'.recursion_desired h'.recursion_available h'.rcode =
    rw (e0, e1, e2, e3, e4, e5, e6, e7) refl in same

pub one_header : (octet octet' : ℕ) (h h' : Header) → h.id ≡ h'.id → HighFlags octet h → HighFlags octet h' → LowFlags octet' h
    → LowFlags octet' h' → h ≡ h'
one_header octet octet' h h' id high high' low low' =
    let desired =
    last_bit (64 * bit h.reply + 4 * h.opcode + 2 * bit h.authoritative + bit h.truncated)
    (64 * bit h'.reply + 4 * h'.opcode + 2 * bit h'.authoritative + bit h'.truncated) h.recursion_desired h'.recursion_desired
    (omega (arith, high.is, high'.is)) in
    let truncated =
    last_bit (32 * bit h.reply + 2 * h.opcode + bit h.authoritative)
    (32 * bit h'.reply + 2 * h'.opcode + bit h'.authoritative) h.truncated h'.truncated (omega (arith, desired.0)) in
    let authoritative =
    last_bit (16 * bit h.reply + h.opcode) (16 * bit h'.reply + h'.opcode) h.authoritative h'.authoritative
    (omega (arith, truncated.0)) in
    let reply = first_bit h.reply h'.reply h.opcode h'.opcode 16 high.opcode high'.opcode authoritative.0 in
    let available =
    first_bit h.recursion_available h'.recursion_available (16 * low.z + h.rcode) (16 * low'.z + h'.rcode) 128
    (omega (arith, low.free, low.rcode)) (omega (arith, low'.free, low'.rcode)) (omega (arith, low.is, low'.is)) in
    same_header h h' id reply.0 reply.1 authoritative.1 truncated.1 desired.1 available.0
    (omega (arith, available.1, low.rcode, low'.rcode))
