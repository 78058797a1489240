-- What the readers of hosts give, as functions on lists.
use Rattle.std.specs.Prelude.{◌≡◌, ℕ, ◌==◌, true, List, [], ◌∷◌, slice_index, drop, Option, Some, None, if◌then◌else◌, ⊤}
use Rattle.std.specs.Option.{option_map, option_or}
use Rattle.ip_text.specs.Parts.{before, behind}
use Rattle.ip_text.specs.Readers.{◌>>=◌, ipv4, ipv6}
use Rattle.sip_uri.specs.Readers.Hostnames.{is_hostname}
use Rattle.sip_uri.specs.Views.{name_of}
use Rattle.sip_uri.specs.declared.host.Host.{Host}
use Rattle.sip_uri.specs.declared.host.Host.TheVariants.{V4, V6, Domain}
use Rattle.sip_uri.specs.declared.host_part.HostPart.{HostPart}
use Rattle.sip_uri.specs.declared.host_part.HostPart.TheVariants as part

abbrev pub IsHostPart : HostPart → Type 0
IsHostPart (part.V4 address) = ⊤
IsHostPart (part.V6 address) = ⊤
IsHostPart (part.Domain text) = is_hostname text.now ≡ true

abbrev pub plain_host : List ℕ → Option Host
plain_host text =
    option_or (option_map (λ (octets : List ℕ). V4 octets) (ipv4 text))
    (if is_hostname text then Some (Domain (name_of text)) else None)

abbrev pub port_part : List ℕ → Option (Option (List ℕ))
port_part [] = Some None
port_part (x ∷ text) = if x == 58 then Some (Some text) else None

abbrev pub host_in_brackets : List ℕ → Option (Host × Option (List ℕ))
host_in_brackets text = do
  after ← behind 93 text
  port ← port_part after
  octets ← ipv6 (before 93 text)
  Some (V6 octets, port)

abbrev pub host_in_front : List ℕ → Option (Host × Option (List ℕ))
host_in_front text =
    if slice_index text 0 == 91 then host_in_brackets (drop 1 text)
    else plain_host (before 58 text) >>= λ (host : Host). Some (host, behind 58 text)

abbrev pub without_port : Host × Option (List ℕ) → Option Host
without_port place = elim place.1 [ None ↦ Some place.0 | Some port ↦ None ]

abbrev pub host : List ℕ → Option Host
host text = host_in_front text >>= without_port
