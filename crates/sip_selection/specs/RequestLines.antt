-- Requests in lines of text.
use Rattle.std.specs.Prelude.{◌≡◌, List, ℕ, ◌∷◌, ◌++◌, codes}
use Rattle.dns_name.specs.Labels.{small_letters}
use Rattle.sip_uri.specs.Uris.{UriText}
use Rattle.sip_uri.specs.Vias.{ViaText}
use Rattle.sip_selection.specs.declared.request.Request.{Request}
use Rattle.sip_selection.specs.declared.request.Request.TheVariants.{Uri, Via}

-- a line is `Via:`, in letters of any case, and this rest
pub record BeginsVia (line rest : List ℕ) : Type 0 where
  pub word : List ℕ
  pub joined : line ≡ word ++ 58 ∷ rest
  pub is : small_letters word ≡ codes "via"

-- a line is a URI, or a Via after `Via:` (RFC 3261 25.1)
abbrev pub RequestText : List ℕ → Request → Type 0
RequestText line (Uri uri) = UriText line uri
RequestText line (Via via) = (rest : List ℕ) × BeginsVia line rest × ViaText rest via
