-- What the readers of the front of a Via give, as functions on lists.
use Rattle.std.specs.Prelude.{ℕ, ◌==◌, List, [], ◌∷◌, slice_index, drop, Option, Some, None, Result, Ok, if◌then◌else◌}
use Rattle.std.specs.Option.{option_map, option_and_then, ok_or}
use Rattle.std.specs.Str.{str_eq_ignore_ascii_case}
use Rattle.ip_text.specs.Parts.{before, behind}
use Rattle.ip_text.specs.Readers.{ipv6}
use Rattle.sip_uri.specs.Readers.Hosts.{plain_host}
use Rattle.sip_uri.specs.Transports.{spoken_of}
use Rattle.sip_uri.specs.Readers.Uris.{port_number, ◌>>=◌}
use Rattle.sip_uri.specs.ViaClasses.{is_blank, is_token_octet, is_in_host, is_in_port, row, behind_row}
use Rattle.sip_uri.specs.Readers.Vias.{behind_mark}
use Rattle.sip_uri.specs.declared.host.Host.{Host}
use Rattle.sip_uri.specs.declared.host.Host.TheVariants.{V6}
use Rattle.sip_uri.specs.declared.via.Via.{Via}
use Rattle.sip_uri.specs.declared.refusal.UriRefusal.{UriRefusal}
use Rattle.sip_uri.specs.declared.refusal.UriRefusal.TheVariants.{BadVia, BadHost, BadPort}

unfoldable pub behind_token : List ℕ → List ℕ → Option (List ℕ)
behind_token text token =
    if str_eq_ignore_ascii_case (row is_token_octet text) token
    then behind_mark 47 (behind_row is_token_octet text) else None

-- a transport and the blanks after it
abbrev pub with_blanks : List ℕ → List ℕ → List ℕ → Option (List ℕ × List ℕ)
with_blanks [] blanks rest = None
with_blanks (x ∷ transport) [] rest = None
with_blanks (x ∷ transport) (y ∷ blanks) rest = Some (x ∷ transport, rest)

abbrev pub transport_in : List ℕ → Option (List ℕ × List ℕ)
transport_in text =
    with_blanks (row is_token_octet text) (row is_blank (behind_row is_token_octet text))
    (behind_row is_blank (behind_row is_token_octet text))

unfoldable pub behind_protocol : List ℕ → Option (List ℕ × List ℕ)
behind_protocol text =
    option_and_then
    (λ (rest : List ℕ). option_and_then transport_in (behind_token rest (50 ∷ 46 ∷ 48 ∷ [])))
    (behind_token (behind_row is_blank text) (83 ∷ 73 ∷ 80 ∷ []))

-- nothing of a host may stand after the bracket
abbrev pub closed_host : List ℕ → List ℕ → Option (List ℕ) → Option (Host × List ℕ)
closed_host after [] octets = option_map (λ (o : List ℕ). (V6 o, after)) octets
closed_host after (x ∷ more) octets = None

unfoldable pub host_in_brackets : List ℕ → Option (Host × List ℕ)
host_in_brackets text =
    option_and_then
    (λ (after : List ℕ). closed_host after (row is_in_host after) (ipv6 (before 93 text)))
    (behind 93 text)

unfoldable pub via_host : List ℕ → Option (Host × List ℕ)
via_host text =
    if slice_index text 0 == 91 then host_in_brackets (drop 1 text)
    else option_map
    (λ (host : Host). (host, behind_row is_in_host text)) (plain_host (row is_in_host text))

abbrev pub port_in : List ℕ → Option (List ℕ) → Result (Option ℕ × List ℕ) UriRefusal
port_in text None = Ok (None, text)
port_in text (Some digits) =
    ok_or (option_map
    (λ (port : ℕ). (Some port, behind_row is_in_port digits))
    (port_number (row is_in_port digits))) BadPort

unfoldable pub via_port : List ℕ → Result (Option ℕ × List ℕ) UriRefusal
via_port text = port_in text (behind_mark 58 text)

unfoldable pub via_parts : List ℕ → Result (Via × List ℕ) UriRefusal
via_parts text = do
  protocol ← ok_or (behind_protocol text) BadVia
  host ← ok_or (via_host protocol.1) BadHost
  port ← via_port host.1
  Ok (record { transport = spoken_of protocol.0; host = host.0; port = port.0 }, port.1)
