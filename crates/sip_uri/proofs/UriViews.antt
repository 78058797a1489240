-- Views of texts are their URIs, and their hosts are views of hosts.
use Rattle.std.proofs.Common.{◌≡◌, ℕ, ◌<◌, ◌≤◌, List, length, Option, Some, None, Result, Ok, Err, IfOk, IfSome, IsOkAnd, arith, sym, ap, ◌∙◌, ◌↔◌}
use Rattle.sip_uri.specs.Readers.Hosts.{IsHostPart}
use Rattle.sip_uri.specs.Readers.Uris.{uri_parts, seen}
use Rattle.sip_uri.specs.Uris.{UriText, HasScheme}
use Rattle.sip_uri.specs.Views.{IsHostView, IsUriView}
use Rattle.sip_uri.specs.declared.host_part.HostPart.{HostPart}
use Rattle.sip_uri.specs.declared.host_part.HostPart.TheVariants as part
use Rattle.sip_uri.specs.declared.refusal.UriRefusal.{UriRefusal}
use Rattle.sip_uri.specs.declared.refusal.UriRefusal.TheVariants.{TooLong, BadScheme, Memory}
use Rattle.sip_uri.specs.declared.uri.SipUri.{SipUri}
use Rattle.sip_uri.specs.declared.uri_parts.UriParts.{UriParts}
use Rattle.ip_text.proofs.Lists.{same_Ok}
use Rattle.sip_uri.proofs.DomainTexts.{hostname_read}
use Rattle.sip_uri.proofs.UriTexts.{uri_again, uri_read, uri_octets, bad_scheme, bad_scheme_again}

-- ---- hosts

pub host_seen : (host : HostPart) → IsHostPart host → IsHostView host
host_seen (part.V4 address) is = tt
host_seen (part.V6 address) is = tt
host_seen (part.Domain text) is = hostname_read text.now is

pub maddr_seen : (maddr : Option HostPart) → IfSome maddr IsHostPart → IfSome maddr IsHostView
maddr_seen None is = tt
maddr_seen (Some host) is = host_seen host is

pub hosts_seen : (r : Result UriParts UriRefusal) → IfOk r (λ parts. IsHostPart parts.host)
    → IfOk r (λ parts. IfSome parts.maddr IsHostPart) → IfOk r IsUriView
hosts_seen (Ok parts) host maddr = record { host = host_seen parts.host host; maddr = maddr_seen parts.maddr maddr }
hosts_seen (Err refusal) host maddr = tt

-- ---- URIs

-- an answer seen as a fault is that fault
seen_fault : {V : Type 0} (of : V → SipUri) (r : Result V UriRefusal) (fault : UriRefusal) → seen of r ≡ Err fault → r ≡ Err fault
seen_fault of (Ok view) fault e = absurd cc
seen_fault of (Err refusal) fault e = cc

fault_seen : {V : Type 0} (of : V → SipUri) (r : Result V UriRefusal) (fault : UriRefusal) → r ≡ Err fault → seen of r ≡ Err fault
fault_seen of r fault e = ap (seen of) e

module _ {V : Type 0} (of : V → SipUri) (text : List ℕ) where
  pub uri_found : (r : Result V UriRefusal) → seen of r ≡ uri_parts text → length text ≤ 1024 → IfOk r (λ view. UriText text (of view))
  uri_found (Ok view) is short = uri_read text (of view) short (sym is)
  uri_found (Err refusal) is short = tt

  pub uri_seen : (r : Result V UriRefusal) → seen of r ≡ uri_parts text → (uri : SipUri) → UriText text uri
      → IsOkAnd r (λ view. of view ≡ uri)
  uri_seen (Ok view) is uri spells = same_Ok (of view) uri (is ∙ uri_again text uri spells)
  uri_seen (Err refusal) is uri spells =
      let no : ◌≡◌ {A = Result SipUri UriRefusal} (Err refusal) (Ok uri) = is ∙ uri_again text uri spells in
      absurd cc

  module _ (r : Result V UriRefusal) (is : seen of r ≡ uri_parts text) where
    pub no_memory : r ≡ Err Memory → ⊥
    no_memory e = uri_octets text Memory (sym is ∙ fault_seen of r Memory e)

    pub long_iff : length text ≤ 1024 → (r ≡ Err TooLong) ↔ (1024 < length text)
    long_iff short = (
      λ e. absurd (uri_octets text TooLong (sym is ∙ fault_seen of r TooLong e)),
      λ long. absurd (omega arith),
    )

    pub scheme_iff : length text ≤ 1024 → (r ≡ Err BadScheme) ↔ ((length text ≤ 1024) × (HasScheme text → ⊥))
    scheme_iff short = (
      λ e. (short, bad_scheme text (sym is ∙ fault_seen of r BadScheme e)),
      λ none. seen_fault of r BadScheme (is ∙ bad_scheme_again text none.1),
    )
