-- A message is a reply to one request.
use Rattle.std.proofs.Common.{◌≡◌, ℕ, zero, suc, ◌<◌, ◌/◌, ◌%◌, ◌^◌, List, [], ◌∷◌, ◌++◌, length, map, take, refl, sym, ap, ◌∙◌, arith}
use Rattle.std.specs.Char.{digit_char, to_ascii_lowercase}
use Rattle.std.specs.Int.{w64, to_be_bytes, from_be_bytes, bytes_high_first, byte_at}
use Rattle.std.specs.List.{flat_map, AllByRecursion}
use Rattle.std.specs.Str.{str_to_ascii_lowercase}
use Rattle.std.proofs.lemmas.Bool.Decides.{nat_tests}
use Rattle.std.proofs.lemmas.List.{take_at}
use Rattle.std.proofs.lemmas.Nat.{from_be_bytes-to_be_bytes_8}
use Rattle.sip_options.specs.Readers.Vias.{BeginsParam}
use Rattle.sip_options.specs.Replies.{IsReply}
use Rattle.sip_options.specs.Requests.{two_digits, token, branch_text}
use Rattle.sip_options.specs.Texts.{IsAlone, is_white}
use Rattle.sip_options.specs.declared.field.Field.TheVariants.{Via, CallId}
use Rattle.sip_options.specs.Vias.{IsBranchValue, HasBranch, here, later, FirstHasBranch}
use Rattle.sip_options.proofs.Octets.{same_cut}
use Rattle.sip_options.proofs.ReplyTexts.{fits_of, fits_at, one_first, one_only}
use Rattle.sip_options.proofs.StatusTexts.{one_status}
use Rattle.sip_options.proofs.TokenTexts.{token_starts, branch_starts}
use Rattle.sip_options.proofs.ViaParams.{has_ends, first_back, first_begins, params_back, params_value}
use Rattle.sip_options.proofs.WordTexts.{word_length}

-- ---- tokens

same_digit : (a b : ℕ) → a < 16 → b < 16 → digit_char a ≡ digit_char b → a ≡ b
same_digit a b small small' e = grind (arith, nat_tests)

same_octet : (a b : ℕ) → a < 256 → b < 256 → digit_char (a / 16) ≡ digit_char (b / 16) → digit_char (a % 16) ≡ digit_char (b % 16) → a ≡ b
same_octet a b small small' e f =
    let high : a / 16 ≡ b / 16 = same_digit (a / 16) (b / 16) (omega arith) (omega arith) e in
    let low : a % 16 ≡ b % 16 = same_digit (a % 16) (b % 16) (omega arith) (omega arith) f in
    omega (arith, high, low)

abbrev Octets : List ℕ → Type 0
Octets xs = AllByRecursion (λ x. x < 256) xs

same_octets : (xs ys : List ℕ) → Octets xs → Octets ys → flat_map two_digits xs ≡ flat_map two_digits ys → xs ≡ ys
same_octets [] [] are are' e = refl
same_octets [] (y ∷ ys) are are' e = absurd cc
same_octets (x ∷ xs) [] are are' e = absurd cc
same_octets (x ∷ xs) (y ∷ ys) are are' e =
    let high : digit_char (x / 16) ≡ digit_char (y / 16) = cc in
    let low : digit_char (x % 16) ≡ digit_char (y % 16) = cc in
    let rest : flat_map two_digits xs ≡ flat_map two_digits ys = cc in
    let first : x ≡ y = same_octet x y are.0 are'.0 high low in
    let others : xs ≡ ys = same_octets xs ys are.1 are'.1 rest in
    cc

octet_low : (k n : ℕ) → byte_at k n < 256
octet_low zero n = omega arith
octet_low (suc k) n = omega arith

octets_high : (k n : ℕ) → Octets (bytes_high_first k n)
octets_high zero n = tt
octets_high (suc k) n = (octet_low k n, octets_high k n)

octets_are : (n : ℕ) → Octets (to_be_bytes w64 n)
octets_are n = octets_high 8 n

same_token : (a b : ℕ) → a < 2 ^ 64 → b < 2 ^ 64 → token a ≡ token b → a ≡ b
unfolding token
same_token a b small small' e =
    let k = same_octets (to_be_bytes w64 a) (to_be_bytes w64 b) (octets_are a) (octets_are b) e in
    sym (from_be_bytes-to_be_bytes_8 a small) ∙ ap (from_be_bytes w64) k ∙ from_be_bytes-to_be_bytes_8 b small'

token_length : (a b : ℕ) → length (token a) ≡ length (token b)
unfolding token
token_length a b = refl

digit_lower : (d : ℕ) → to_ascii_lowercase (digit_char d) ≡ digit_char d
digit_lower d = grind (arith, nat_tests)

digits_lower : (xs : List ℕ) → map to_ascii_lowercase (flat_map two_digits xs) ≡ flat_map two_digits xs
digits_lower [] = refl
digits_lower (x ∷ xs) =
    let high = digit_lower (x / 16) in
    let low = digit_lower (x % 16) in
    let rest = digits_lower xs in
    cc (high, low, rest)

token_lower : (a : ℕ) → map to_ascii_lowercase (token a) ≡ token a
unfolding token
token_lower a = digits_lower (to_be_bytes w64 a)

same_branch : (a b : ℕ) → a < 2 ^ 64 → b < 2 ^ 64 → str_to_ascii_lowercase (branch_text a) ≡ str_to_ascii_lowercase (branch_text b) → a ≡ b
same_branch a b small small' e =
    let tail : map to_ascii_lowercase (token a) ≡ map to_ascii_lowercase (token b) = cc in
    same_token a b small small' (sym (token_lower a) ∙ tail ∙ token_lower b)

-- ---- what stands in front, by its length

same_front : (a b x y : List ℕ) → length a ≡ length b → a ++ x ≡ b ++ y → a ≡ b
same_front a b x y same e =
    sym (take_at a x (length a) refl) ∙ ap (λ (u : List ℕ). take (length a) u) e ∙ take_at b y (length a) (sym same)

same_id : (a b : ℕ) (text : List ℕ) → IsAlone (token a) text → IsAlone (token b) text → token a ≡ token b
same_id a b text is is' =
    let k = same_cut is_white text is.front (token a ++ is.back) is'.front (token b ++ is'.back) is.joined is.front_white
    (token_starts a is.back) is'.joined is'.front_white (token_starts b is'.back) in
    same_front (token a) (token b) is.back is'.back (token_length a b) k.1

branch_length : (a b : ℕ) → length (branch_text a) ≡ length (branch_text b)
branch_length a b = omega (arith, token_length a b)

same_value : (a b : ℕ) (text : List ℕ) → IsBranchValue (branch_text a) text → IsBranchValue (branch_text b) text
    → str_to_ascii_lowercase (branch_text a) ≡ str_to_ascii_lowercase (branch_text b)
same_value a b text is is' =
    let k = same_cut is_white text is.front (is.value ++ is.back) is'.front (is'.value ++ is'.back) is.joined is.front_white
    (branch_starts a is.value is.back is.is_value) is'.joined is'.front_white (branch_starts b is'.value is'.back is'.is_value) in
    let first = word_length (branch_text a) is.value (branch_text a) is.is_value refl in
    let second = word_length (branch_text b) is'.value (branch_text b) is'.is_value refl in
    let value = same_front is.value is'.value is.back is'.back (first ∙ branch_length a b ∙ sym second) k.1 in
    sym is.is_value ∙ ap str_to_ascii_lowercase value ∙ is'.is_value

same_params : (a b : ℕ) (text : List ℕ) → HasBranch (branch_text a) text → HasBranch (branch_text b) text
    → str_to_ascii_lowercase (branch_text a) ≡ str_to_ascii_lowercase (branch_text b)
same_params a b text (here t param rest value part ends named is joined) has =
    let begins : BeginsParam text param rest = (param ++ rest, joined, record { is = part; ends = ends; joined = refl }) in
    same_value a b value is (params_value (branch_text b) text param rest begins value named has)
same_params a b text (later t param rest part other has' joined) has =
    let begins : BeginsParam text param rest =
    (param ++ rest, joined, record { is = part; ends = has_ends (branch_text a) rest has'; joined = refl }) in
    same_params a b rest has' (params_back (branch_text b) text param rest begins other has)

same_first : (a b : ℕ) (value : List ℕ) → FirstHasBranch (branch_text a) value → FirstHasBranch (branch_text b) value
    → str_to_ascii_lowercase (branch_text a) ≡ str_to_ascii_lowercase (branch_text b)
same_first a b value is is' =
    same_params a b is.params is.has
    (first_back (branch_text b) value is.front is.params (first_begins (branch_text a) value is) is')

-- ---- replies

first_at : (branch a b : List ℕ) → a ≡ b → FirstHasBranch branch a → FirstHasBranch branch b
first_at branch a b e is = rw e at is

alone_at : (word a b : List ℕ) → a ≡ b → IsAlone word a → IsAlone word b
alone_at word a b e is = rw e at is

pub one_request : (branch call_id other_branch other_id : ℕ) → branch < 2 ^ 64 → call_id < 2 ^ 64 → other_branch < 2 ^ 64
    → other_id < 2 ^ 64 → (message : List ℕ) (status other : ℕ) → IsReply branch call_id message status
    → IsReply other_branch other_id message other → (branch ≡ other_branch) × (call_id ≡ other_id) × (status ≡ other)
one_request branch call_id other_branch other_id fits1 fits2 fits3 fits4 message status other is is' =
    let line = one_status message status other is.text is'.text is.line is'.line in
    let one = fits_of branch call_id message status is in
    let two = fits_at other_branch other_id is'.text is.text (sym line.1) (fits_of other_branch other_id message other is') in
    let via = one_first Via is.text two.via.0 one.via.0 two.via.1 one.via.1 in
    let id = one_only CallId is.text two.id.0 one.id.0 two.id.1 one.id.1 in (
      same_branch branch other_branch fits1 fits3
          (same_first branch other_branch one.via.0 one.via.2 (first_at (branch_text other_branch) two.via.0 one.via.0 via two.via.2)),
      same_token call_id other_id fits2 fits4
          (same_id call_id other_id one.id.0 one.id.2 (alone_at (token other_id) two.id.0 one.id.0 id two.id.2)),
      line.0,
    )
