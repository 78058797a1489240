-- What the readers of the parts of a URI give, as functions on lists.
use Rattle.std.specs.Prelude.{ℕ, zero, suc, Bool, true, false, ◌&&◌, List, [], ◌∷◌, Option, Some, None, Result, Ok, Err, if◌then◌else◌}
use Rattle.std.specs.List.{list_all}
use Rattle.std.specs.Option.{option_map, option_and_then, ok_or}
use Rattle.std.specs.Str.{str_eq_ignore_ascii_case}
use Rattle.ip_text.specs.Parts.{before, behind, parted}
use Rattle.sip_uri.specs.Classes.{is_user_octet, is_password_octet, is_header_octet}
use Rattle.sip_uri.specs.Readers.Runs.{is_run, is_some_run}
use Rattle.ip_text.specs.Numbers.{decimal_within}
use Rattle.sip_uri.specs.Readers.Hosts.{host, host_in_front}
use Rattle.sip_uri.specs.Readers.Params.{transport_name, maddr_name, params_fault, value_of}
use Rattle.sip_uri.specs.Transports.{spoken_of}
use Rattle.sip_uri.specs.declared.host.Host.{Host}
use Rattle.sip_uri.specs.declared.transport.Spoken.{Spoken}
use Rattle.sip_uri.specs.declared.uri.SipUri.{SipUri}
use Rattle.sip_uri.specs.declared.refusal.UriRefusal.{UriRefusal}
use Rattle.sip_uri.specs.declared.refusal.UriRefusal.TheVariants.{BadScheme, BadUser, BadHost, BadPort, BadHeader}

infixl 10 ◌>>=◌
abbrev pub ◌>>=◌ : {A B : Type 0} → Result A UriRefusal → (A → Result B UriRefusal)
    → Result B UriRefusal
(Ok x) >>= f = f x
(Err e) >>= f = Err e

-- an answer, seen without where it lies in memory
abbrev pub seen : {A B : Type 0} → (A → B) → Result A UriRefusal → Result B UriRefusal
seen view (Ok x) = Ok (view x)
seen view (Err e) = Err e

abbrev pub is_password : Option (List ℕ) → Bool
is_password None = true
is_password (Some password) = is_run is_password_octet password

abbrev pub is_userinfo : List ℕ → Bool
is_userinfo text = is_some_run is_user_octet (before 58 text) && is_password (behind 58 text)

abbrev pub is_header_value : Option (List ℕ) → Bool
is_header_value None = false
is_header_value (Some value) = is_run is_header_octet value

abbrev pub is_header : List ℕ → Bool
is_header text = is_some_run is_header_octet (before 61 text) && is_header_value (behind 61 text)

abbrev pub is_secure : List ℕ → Option Bool
is_secure scheme =
    if str_eq_ignore_ascii_case scheme (115 ∷ 105 ∷ 112 ∷ []) then Some false else
    (if str_eq_ignore_ascii_case scheme (115 ∷ 105 ∷ 112 ∷ 115 ∷ []) then Some true else None)

abbrev pub both : {A B : Type 0} → Option A → Option B → Option (A × B)
both (Some a) (Some b) = Some (a, b)
both (Some a) None = None
both None b = None

unfoldable pub behind_scheme : List ℕ → Result (Bool × List ℕ) UriRefusal
behind_scheme text = ok_or (both (is_secure (before 58 text)) (behind 58 text)) BadScheme

abbrev pub without_user : List ℕ → List ℕ → Option (List ℕ) → Result (List ℕ) UriRefusal
without_user text user None = Ok text
without_user text user (Some rest) = if is_userinfo user then Ok rest else Err BadUser

unfoldable pub behind_user : List ℕ → Result (List ℕ) UriRefusal
behind_user text = without_user text (before 64 text) (behind 64 text)

abbrev pub from_one : ℕ → Option ℕ
from_one zero = None
from_one (suc port) = Some (suc port)

unfoldable pub port_number : List ℕ → Option ℕ
port_number text = option_and_then from_one (decimal_within 65535 text)

unfoldable pub port_of : Option (List ℕ) → Result (Option ℕ) UriRefusal
port_of None = Ok None
port_of (Some text) = ok_or (option_map (λ (port : ℕ). Some port) (port_number text)) BadPort

unfoldable pub place_of : List ℕ → Result (Host × Option ℕ) UriRefusal
place_of text = do
  found ← ok_or (host_in_front text) BadHost
  port ← port_of found.1
  Ok (found.0, port)

abbrev pub said : List (List ℕ) → Option Spoken × Option Host
said params = (
  option_map spoken_of (value_of transport_name params),
  option_and_then host (value_of maddr_name params),
)

abbrev pub said_unless : List (List ℕ) → Option UriRefusal
    → Result (Option Spoken × Option Host) UriRefusal
said_unless params None = Ok (said params)
said_unless params (Some fault) = Err fault

unfoldable pub said_by : Option (List ℕ) → Result (Option Spoken × Option Host) UriRefusal
said_by None = Ok (None, None)
said_by (Some text) = said_unless (parted 59 text) (params_fault (parted 59 text))

unfoldable pub check_headers : Option (List ℕ) → Result (Unit {0}) UriRefusal
check_headers None = Ok tt
check_headers (Some text) = if list_all is_header (parted 38 text) then Ok tt else Err BadHeader

-- the URI of a text, or its first fault from the left
unfoldable pub uri_parts : List ℕ → Result SipUri UriRefusal
uri_parts text = do
  front ← behind_scheme text
  rest ← behind_user front.1
  place ← place_of (before 59 (before 63 rest))
  by ← said_by (behind 59 (before 63 rest))
  none ← check_headers (behind 63 rest)
  Ok (record { secure = front.0; host = place.0; port = place.1; transport = by.0; maddr = by.1 })
