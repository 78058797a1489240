-- The table of the octets of labels has each octet.
use Rattle.std.proofs.Common.{◌≡◌, ℕ, ◌<◌, Bool, false, List, map, get_or, refl, sym, ap, ◌∙◌, arith}
use Rattle.std.specs.List.{range_with_len}
use Rattle.std.proofs.lemmas.List.FromFn.{get_or-map-range_with_len}
use Rattle.dns_name.specs.Texts.{is_text_octet}
use Rattle.dns_name.specs.declared.text.TheConstants.{TEXT_OCTETS}

all_octets : map is_text_octet (range_with_len 0 256) ≡ TEXT_OCTETS
all_octets = refl

pub octet_stands : (octet : ℕ) → octet < 256 → get_or TEXT_OCTETS octet false ≡ is_text_octet octet
octet_stands octet within =
    ap (λ (all : List Bool). get_or all octet false) (sym all_octets)
    ∙ get_or-map-range_with_len is_text_octet 0 256 octet octet false within (omega arith)
