-- What is shown of a text is printable.
use Rattle.std.proofs.Common.{ℕ, suc, ◌<◌, ◌/◌, ◌%◌, List, [], ◌∷◌, All, get_or, inl, inr, arith}
use Rattle.std.proofs.lemmas.Bool.{cases_Bool}
use Rattle.std.proofs.lemmas.Bool.Decides.{nat_tests}
use Rattle.std.proofs.lemmas.List.Elements.{All-nil, All-cons, All-append}
use Rattle.sip_report.specs.Escapes.{IsPrintable, hexadecimal_character, is_plain, shown, shown_octet}

digit_printable : (digit : ℕ) → digit < 16 → IsPrintable (hexadecimal_character digit)
digit_printable digit few = record { least = grind (arith, nat_tests); most = grind (arith, nat_tests) }

octet_printable : (octet : ℕ) → octet < 256 → All IsPrintable (shown_octet octet)
octet_printable octet small =
    elim (cases_Bool (is_plain octet)) [
      | inl is ↦ (let itself : IsPrintable octet = record { least = grind (arith, nat_tests); most = grind (arith, nat_tests) } in
          rw is (All-cons IsPrintable octet [] itself (All-nil IsPrintable)))
      | inr not' ↦ (let first = hexadecimal_character (octet / 16) in
          let last = hexadecimal_character (octet % 16) in
          let digits : List ℕ = first ∷ last ∷ [] in
          rw not'
          (All-cons IsPrintable 92 (120 ∷ digits) (record { least = omega arith; most = omega arith })
          (All-cons IsPrintable 120 digits (record { least = omega arith; most = omega arith })
          (All-cons IsPrintable first (last ∷ []) (digit_printable (octet / 16) (omega arith))
          (All-cons IsPrintable last [] (digit_printable (octet % 16) (omega arith)) (All-nil IsPrintable))))))
    ]

pub text_printable : (text : List ℕ) → ((i : ℕ) → get_or text i 0 < 256) → All IsPrintable (shown text)
text_printable [] small = All-nil IsPrintable
text_printable (octet ∷ text) small =
    All-append IsPrintable (shown_octet octet) (shown text) (octet_printable octet (small 0))
    (text_printable text (λ i. small (suc i)))
