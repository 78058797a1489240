-- Tokens begin with no white space.
use Rattle.std.proofs.Common.{◌≡◌, ℕ, false, List, ◌++◌, refl, arith, ◌/◌}
use Rattle.std.specs.Char.{digit_char}
use Rattle.std.specs.Int.{byte_at}
use Rattle.std.specs.Prelude.{codes}
use Rattle.std.proofs.lemmas.Bool.Decides.{nat_tests}
use Rattle.sip_options.specs.Requests.{token, branch_text}
use Rattle.sip_options.specs.Texts.{Ends, IsOctet, IsWord, is_white}
use Rattle.sip_options.proofs.Octets.{no_octet}
use Rattle.sip_options.proofs.WordTexts.{word_starts}

digit_no_white : (digit : ℕ) → is_white (digit_char digit) ≡ false
digit_no_white digit = grind (arith, nat_tests)

pub token_starts : (number : ℕ) (rest : List ℕ) → Ends (IsOctet is_white) (token number ++ rest)
unfolding token
token_starts number rest = no_octet is_white _ _ (digit_no_white (byte_at 7 number / 16))

pub branch_starts : (number : ℕ) (front rest : List ℕ) → IsWord (branch_text number) front → Ends (IsOctet is_white) (front ++ rest)
branch_starts number front rest is = word_starts 122 (codes "9hG4bK" ++ token number) refl front rest is
