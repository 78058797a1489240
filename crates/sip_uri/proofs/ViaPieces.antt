-- The protocol of a Via is what its reader reads.
use Rattle.std.proofs.Common.{◌≡◌, ℕ, ◌<◌, ◌≤◌, true, false, List, [], ◌∷◌, ◌++◌, length, Some, None, refl, sym, ap, ◌∙◌, inl, inr, arith, append_assoc}
use Rattle.std.specs.Option.{option_and_then}
use Rattle.std.specs.Char.{to_ascii_lowercase}
use Rattle.std.specs.Str.{str_eq_ignore_ascii_case}
use Rattle.std.proofs.lemmas.Bool.{cases_Bool}
use Rattle.std.proofs.lemmas.Bool.Decides.{nat_tests}
use Rattle.std.proofs.lemmas.Option.{same_Some}
use Rattle.dns_name.specs.Labels.{small_letters}
use Rattle.sip_uri.specs.ViaClasses.{is_blank, is_token_octet, row, behind_row}
use Rattle.sip_uri.specs.Readers.ViaFronts.{behind_token, with_blanks, transport_in, behind_protocol}
use Rattle.sip_uri.specs.Vias.{IsBlanks, IsToken, ProtocolText}
use Rattle.std.proofs.lemmas.List.{length-append}
use Rattle.ip_text.proofs.Lists.{steps_of, all-append}
use Rattle.sip_uri.proofs.ParamTexts.{same_names, names_same}
use Rattle.sip_uri.proofs.ViaRows.{Ends, row_and, row_all, behind_ends, row_again, MarkRead, mark_read, mark_again, begins_apart}
use Rattle.sip_uri.proofs.ViaSteps.{blanks_end}

-- ---- the words of the protocol

abbrev two_zero : List ℕ
two_zero = 50 ∷ 46 ∷ 48 ∷ []

lower_digit : (x digit : ℕ) → digit < 65 → to_ascii_lowercase x ≡ digit → x ≡ digit
lower_digit x digit low e = grind (arith, nat_tests)

version_is : (text : List ℕ) → small_letters text ≡ two_zero → text ≡ two_zero
version_is [] e = absurd cc
version_is (x ∷ []) e = absurd (let tail : ◌≡◌ {A = List ℕ} [] (46 ∷ 48 ∷ []) = cc in cc)
version_is (x ∷ y ∷ []) e = absurd (let tail : ◌≡◌ {A = List ℕ} [] (48 ∷ []) = cc in cc)
version_is (x ∷ y ∷ z ∷ []) e =
    let first : to_ascii_lowercase x ≡ 50 = cc in
    let second : to_ascii_lowercase y ≡ 46 = cc in
    let third : to_ascii_lowercase z ≡ 48 = cc in
    rw (lower_digit x 50 (omega arith) first, lower_digit y 46 (omega arith) second, lower_digit z 48 (omega arith) third) refl
version_is (x ∷ y ∷ z ∷ w ∷ text) e = absurd (let tail : to_ascii_lowercase w ∷ small_letters text ≡ [] = cc in cc)

letter_token : (x letter : ℕ) → 97 ≤ letter → letter ≤ 122 → to_ascii_lowercase x ≡ letter → is_token_octet x ≡ true
letter_token x letter low high e = grind (arith, nat_tests)

sip_token : (text : List ℕ) → small_letters text ≡ 115 ∷ 105 ∷ 112 ∷ [] → IsToken text
sip_token [] e = absurd cc
sip_token (x ∷ []) e = absurd (let tail : ◌≡◌ {A = List ℕ} [] (105 ∷ 112 ∷ []) = cc in cc)
sip_token (x ∷ y ∷ []) e = absurd (let tail : ◌≡◌ {A = List ℕ} [] (112 ∷ []) = cc in cc)
sip_token (x ∷ y ∷ z ∷ []) e =
    let first : to_ascii_lowercase x ≡ 115 = cc in
    let second : to_ascii_lowercase y ≡ 105 = cc in
    let third : to_ascii_lowercase z ≡ 112 = cc in
    record {
      some = omega arith;
      octets = rw (
        letter_token x 115 (omega arith) (omega arith) first,
        letter_token y 105 (omega arith) (omega arith) second,
        letter_token z 112 (omega arith) (omega arith) third,
      ) refl;
    }
sip_token (x ∷ y ∷ z ∷ w ∷ text) e = absurd (let tail : to_ascii_lowercase w ∷ small_letters text ≡ [] = cc in cc)

-- ---- the protocol

record TokenRead (text token rest : List ℕ) : Type 0 where
  same : small_letters (row is_token_octet text) ≡ small_letters token
  mark : MarkRead 47 (behind_row is_token_octet text) rest

token_read : (text token rest : List ℕ) → behind_token text token ≡ Some rest → TokenRead text token rest
unfolding behind_token
token_read text token rest e =
    elim (cases_Bool (str_eq_ignore_ascii_case (row is_token_octet text) token)) [
      | inl is ↦ record {
        same = same_names (row is_token_octet text) token is;
        mark =
            mark_read 47 (behind_row is_token_octet text) rest (rw is at e);
      }
      | inr no' ↦ (let no : None ≡ Some rest = rw no' at e in absurd cc)
    ]

token_apart : (x : ℕ) → is_blank x ≡ true → is_token_octet x ≡ false
token_apart x e = grind (arith, nat_tests, e)

token_again : (name token front back rest : List ℕ) → IsToken name → small_letters name ≡ small_letters token → IsBlanks front
    → IsBlanks back → Ends is_blank rest
    → behind_token (name ++ (front ++ 47 ∷ (back ++ rest))) token ≡ Some rest
unfolding behind_token
token_again name token front back rest is same front_blank back_blank ends =
    let k = row_again is_token_octet name (front ++ 47 ∷ (back ++ rest)) is.octets
    (blanks_end is_token_octet refl token_apart front (47 ∷ (back ++ rest)) front_blank refl) in
    rw (k.0, k.1) (rw (names_same name token same) (mark_again 47 refl front back rest front_blank back_blank ends))

blanks_read : (found blanks rest transport after : List ℕ) → with_blanks found blanks rest ≡ Some (transport, after) → (0 < length found)
    × (0 < length blanks) × (found ≡ transport) × (rest ≡ after)
blanks_read [] blanks rest transport after e = absurd cc
blanks_read (x ∷ found) [] rest transport after e = absurd cc
blanks_read (x ∷ found) (y ∷ blanks) rest transport after e =
    let same = same_Some (x ∷ found, rest) (transport, after) e in
    (omega arith, omega arith, ap (λ (p : List ℕ × List ℕ). p.0) same, ap (λ (p : List ℕ × List ℕ). p.1) same)

blanks_again : (transport blanks rest : List ℕ) → 0 < length transport → 0 < length blanks
    → with_blanks transport blanks rest ≡ Some (transport, rest)
blanks_again [] blanks rest some some' = absurd (omega arith)
blanks_again (x ∷ transport) [] rest some some' = absurd (omega arith)
blanks_again (x ∷ transport) (y ∷ blanks) rest some some' = refl

pub record ProtocolRead (text transport rest : List ℕ) : Type 0 where
  pub protocol : List ℕ
  pub is : ProtocolText protocol transport
  pub text_is : text ≡ protocol ++ rest
  pub ends : Ends is_blank rest

-- all pieces of a protocol and what follows
abbrev all_pieces : List ℕ → List ℕ → List ℕ → List ℕ → List ℕ → List ℕ → List ℕ → List ℕ → List ℕ
all_pieces first sip second third fourth fifth transport end =
    first ++ (sip ++ (second ++ 47 ∷ (third ++ (two_zero ++ (fourth ++ 47 ∷ (fifth ++ (transport ++ end)))))))

pieces_end : (first sip second third fourth fifth transport last rest : List ℕ)
    → all_pieces first sip second third fourth fifth transport last ++ rest
    ≡ all_pieces first sip second third fourth fifth transport (last ++ rest)
pieces_end first sip second third fourth fifth transport last rest = simp append_assoc

token_at : (a b : List ℕ) → a ≡ b → IsToken a → IsToken b
token_at a b e is = rw e at is

ends_at : (a b : List ℕ) → a ≡ b → Ends is_blank a → Ends is_blank b
ends_at a b e ends = rw e at ends

blank_apart : (x : ℕ) → is_token_octet x ≡ true → is_blank x ≡ false
blank_apart x e = grind (arith, nat_tests, e)

pub protocol_read : (text transport rest : List ℕ) → behind_protocol text ≡ Some (transport, rest) → ProtocolRead text transport rest
unfolding behind_protocol
protocol_read text transport rest e =
    let start : List ℕ = behind_row is_blank text in
    let one = steps_of
    (λ (r : List ℕ). option_and_then transport_in (behind_token r two_zero)) (behind_token start (83 ∷ 73 ∷ 80 ∷ []))
    (transport, rest) e in
    let two = steps_of transport_in (behind_token one.0 two_zero) (transport, rest) one.2 in
    let sip = token_read start (83 ∷ 73 ∷ 80 ∷ []) one.0 one.1 in
    let version = token_read one.0 two_zero two.0 two.1 in
    let r : List ℕ = two.0 in
    let behind_r : List ℕ = behind_row is_token_octet r in
    let b = blanks_read (row is_token_octet r) (row is_blank behind_r) (behind_row is_blank behind_r) transport rest two.2 in
    let version' : row is_token_octet one.0 ≡ two_zero = version_is (row is_token_octet one.0) version.same in
    let cut : text ≡ row is_blank text ++ start = sym (row_and is_blank text) in
    let cut1 : start ≡ row is_token_octet start ++ (sip.mark.front ++ 47 ∷ (sip.mark.behind ++ one.0)) =
    sym (row_and is_token_octet start) ∙ ap (λ (t : List ℕ). row is_token_octet start ++ t) sip.mark.joined in
    let cut2 : one.0 ≡ two_zero ++ (version.mark.front ++ 47 ∷ (version.mark.behind ++ r)) =
    sym (row_and is_token_octet one.0) ∙ ap (λ (t : List ℕ). row is_token_octet one.0 ++ t) version.mark.joined ∙ ap
    (λ (t : List ℕ). t ++ (version.mark.front ++ 47 ∷ (version.mark.behind ++ r))) version' in
    let cut3 : r ≡ transport ++ (row is_blank behind_r ++ rest) =
    sym (row_and is_token_octet r) ∙ ap (λ (t : List ℕ). t ++ behind_r) b.2 ∙ ap
    (λ (t : List ℕ). transport ++ t) (sym (row_and is_blank behind_r) ∙ ap (λ (t : List ℕ). row is_blank behind_r ++ t) b.3) in
    let protocol : List ℕ =
    all_pieces (row is_blank text)
    (row is_token_octet start) sip.mark.front sip.mark.behind version.mark.front version.mark.behind transport
    (row is_blank behind_r) in
    record {
      protocol = protocol;
      is = record {
        first = row is_blank text;
        sip = row is_token_octet start;
        second = sip.mark.front;
        third = sip.mark.behind;
        fourth = version.mark.front;
        fifth = version.mark.behind;
        last = row is_blank behind_r;
        joined = refl;
        is_sip = sip.same;
        is_transport = token_at (row is_token_octet r) transport b.2 (record { some = b.0; octets = row_all is_token_octet r });
        first_blank = row_all is_blank text;
        second_blank = sip.mark.front_blank;
        third_blank = sip.mark.behind_blank;
        fourth_blank = version.mark.front_blank;
        fifth_blank = version.mark.behind_blank;
        last_blank = row_all is_blank behind_r;
        apart = b.1;
      };
      text_is = cut ∙ ap
          (λ (t : List ℕ). row is_blank text ++ t)
          (cut1 ∙ ap (λ (t : List ℕ). row is_token_octet start ++ (sip.mark.front ++ 47 ∷ (sip.mark.behind ++ t)))
          (cut2 ∙ ap (λ (t : List ℕ). two_zero ++ (version.mark.front ++ 47 ∷ (version.mark.behind ++ t))) cut3))
          ∙ sym (pieces_end (row is_blank text)
          (row is_token_octet start) sip.mark.front sip.mark.behind version.mark.front version.mark.behind transport
          (row is_blank behind_r) rest);
      ends = ends_at (behind_row is_blank behind_r) rest b.3 (behind_ends is_blank behind_r);
    }

pub protocol_again : (text transport rest : List ℕ) → ProtocolText text transport → Ends is_blank rest
    → behind_protocol (text ++ rest) ≡ Some (transport, rest)
unfolding behind_protocol
protocol_again text transport rest is ends =
    let end : List ℕ = transport ++ (is.last ++ rest) in
    let versioned : List ℕ = two_zero ++ (is.fourth ++ 47 ∷ (is.fifth ++ end)) in
    let named : List ℕ = is.sip ++ (is.second ++ 47 ∷ (is.third ++ versioned)) in
    let whole : text ++ rest ≡ is.first ++ named =
    ap (λ (t : List ℕ). t
    ++ rest) is.joined ∙ pieces_end is.first is.sip is.second is.third is.fourth is.fifth transport is.last rest in
    let sip = sip_token is.sip is.is_sip in
    let sip_starts =
    begins_apart is_token_octet is_blank blank_apart is.sip (is.second ++ 47 ∷ (is.third ++ versioned)) sip.some sip.octets in
    let start = (row_again is_blank is.first named is.first_blank sip_starts).1 in
    let one = token_again is.sip (83 ∷ 73 ∷ 80 ∷ []) is.second is.third versioned sip is.is_sip is.second_blank is.third_blank refl in
    let end_starts =
    begins_apart is_token_octet is_blank blank_apart transport (is.last ++ rest) is.is_transport.some is.is_transport.octets in
    let two = token_again two_zero two_zero is.fourth is.fifth end
    (record { some = omega arith; octets = refl }) refl is.fourth_blank is.fifth_blank end_starts in
    let k = row_again is_token_octet transport (is.last ++ rest) is.is_transport.octets
    (begins_apart is_blank is_token_octet token_apart is.last rest is.apart is.last_blank) in
    let l = row_again is_blank is.last rest is.last_blank ends in
    let three : transport_in end ≡ Some (transport, rest) =
    rw (k.0, k.1) (rw (l.0, l.1) (blanks_again transport is.last rest is.is_transport.some is.apart)) in
    rw whole (rw start (rw one (rw two three)))

-- a protocol in front of any text is read up to the blanks behind it
pub protocol_found : (text transport rest : List ℕ) → ProtocolText text transport
    → behind_protocol (text ++ rest) ≡ Some (transport, behind_row is_blank rest)
protocol_found text transport rest is =
    let blanks : List ℕ = row is_blank rest in
    let more : ProtocolText (text ++ blanks) transport = record {
      first = is.first;
      sip = is.sip;
      second = is.second;
      third = is.third;
      fourth = is.fourth;
      fifth = is.fifth;
      last = is.last ++ blanks;
      joined = ap (λ (t : List ℕ). t
          ++ blanks) is.joined ∙ pieces_end is.first is.sip is.second is.third is.fourth is.fifth transport is.last blanks;
      is_sip = is.is_sip;
      is_transport = is.is_transport;
      first_blank = is.first_blank;
      second_blank = is.second_blank;
      third_blank = is.third_blank;
      fourth_blank = is.fourth_blank;
      fifth_blank = is.fifth_blank;
      last_blank = all-append is_blank is.last blanks is.last_blank (row_all is_blank rest);
      apart = omega (arith, is.apart, length-append is.last blanks);
    } in
    let whole : text ++ rest ≡ (text ++ blanks) ++ behind_row is_blank rest =
    ap (λ (t : List ℕ). text ++ t) (sym (row_and is_blank rest)) ∙ sym (append_assoc text blanks (behind_row is_blank rest)) in
    ap behind_protocol whole ∙ protocol_again (text ++ blanks) transport (behind_row is_blank rest) more (behind_ends is_blank rest)
