-- What the reader of hostnames gives, as functions on lists.
use Rattle.std.specs.Prelude.{ℕ, ◌-◌, nat_lt, nat_le, slice_index, Bool, false, ◌&&◌, List, [], ◌∷◌, length}
use Rattle.std.specs.List.{list_all}
use Rattle.std.specs.Char.{is_ascii_alphanumeric, is_ascii_alphabetic}
use Rattle.dns_name.specs.Texts.{without_closing_dot}
use Rattle.ip_text.specs.Parts.{parted}
use Rattle.sip_uri.specs.Hosts.{is_label_octet}

abbrev pub is_label : List ℕ → Bool
is_label label =
    nat_lt 0 (length label) && nat_le (length label) 63 && list_all is_label_octet label
    && is_ascii_alphanumeric (slice_index label 0)
    && is_ascii_alphanumeric (slice_index label (length label - 1))

abbrev pub are_labels : List (List ℕ) → Bool
are_labels [] = false
are_labels (label ∷ []) = is_label label && is_ascii_alphabetic (slice_index label 0)
are_labels (label ∷ next ∷ labels) = is_label label && are_labels (next ∷ labels)

abbrev pub is_hostname : List ℕ → Bool
is_hostname text =
    nat_le (length (without_closing_dot text)) 253
    && are_labels (parted 46 (without_closing_dot text))
