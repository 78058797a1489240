-- The octets of an OPTIONS request (RFC 3261 7.1, 8.1.1, 11.1, 20, 25.1).
use Rattle.std.specs.Prelude.{ℕ, ◌/◌, ◌%◌, List, [], ◌∷◌, ◌++◌, take, codes, if◌then◌else◌}
use Rattle.std.specs.Char.{digit_char}
use Rattle.std.specs.Fmt.{decimal}
use Rattle.std.specs.Int.{w64, to_be_bytes}
use Rattle.std.specs.List.{flat_map}
use Rattle.std.specs.Str.{str_eq_ignore_ascii_case}
use Rattle.ip_text.specs.Shown.{address_text}
use Rattle.ip_text.specs.declared.address.Address.{Address}
use Rattle.ip_text.specs.declared.address.Address.TheVariants.{V4, V6}
use Rattle.sip_options.specs.declared.request.OptionsRequest.{OptionsRequest}
use Rattle.sip_options.specs.declared.transport.Transport.{Transport}
use Rattle.sip_options.specs.declared.transport.Transport.TheVariants.{Udp, Tcp}

-- the end of a line
abbrev pub crlf : List ℕ
crlf = 13 ∷ 10 ∷ []

-- an octet as two hexadecimal digits, in small letters
abbrev pub two_digits : ℕ → List ℕ
two_digits octet = digit_char (octet / 16) ∷ digit_char (octet % 16) ∷ []

-- a number of 64 bits as sixteen hexadecimal digits
unfoldable pub token : ℕ → List ℕ
token number = flat_map two_digits (to_be_bytes w64 number)

-- the branch of a number, behind the magic cookie (RFC 3261 8.1.1.7)
abbrev pub branch_text : ℕ → List ℕ
branch_text number = codes "z9hG4bK" ++ token number

-- an address as a host: one of IPv6 stands in brackets
abbrev pub host_text : Address → List ℕ
host_text (V4 octets) = address_text (V4 octets)
host_text (V6 octets) = codes "[" ++ (address_text (V6 octets) ++ codes "]")

-- the transport as a Via names it
abbrev pub via_transport : Transport → List ℕ
via_transport Udp = codes "UDP"
via_transport Tcp = codes "TCP"

-- the parameter that a Contact has for the transport
abbrev pub contact_transport : Transport → List ℕ
contact_transport Udp = []
contact_transport Tcp = codes ";transport=tcp"

-- the scheme of the Contact: SIPS where the Request-URI is one of SIPS (RFC 3261 8.1.1.8)
abbrev pub contact_scheme : List ℕ → List ℕ
contact_scheme uri =
    if str_eq_ignore_ascii_case (take 5 uri) (codes "sips:") then codes "sips:" else codes "sip:"

-- the host and port where the sender waits for the reply
abbrev pub sent_by : OptionsRequest → List ℕ
sent_by request = host_text request.address ++ (codes ":" ++ decimal request.port)

-- the request line
abbrev pub request_line : List ℕ → List ℕ
request_line uri = codes "OPTIONS " ++ (uri ++ (codes " SIP/2.0" ++ crlf))

-- the Via, with the branch and the wish for the source port (RFC 3581 3)
abbrev pub via_line : OptionsRequest → List ℕ
via_line request =
    codes "Via: SIP/2.0/"
    ++ (via_transport request.transport
    ++ (codes " "
    ++ (sent_by request
    ++ (codes ";branch=" ++ (branch_text request.branch ++ (codes ";rport" ++ crlf))))))

-- how often the request may be sent on
abbrev pub max_forwards_line : ℕ → List ℕ
max_forwards_line count = codes "Max-Forwards: " ++ (decimal count ++ crlf)

-- who asks, with the tag
abbrev pub from_line : OptionsRequest → List ℕ
from_line request =
    codes "From: <sip:"
    ++ (host_text request.address ++ (codes ">;tag=" ++ (token request.from_tag ++ crlf)))

-- who is asked
abbrev pub to_line : List ℕ → List ℕ
to_line uri = codes "To: <" ++ (uri ++ (codes ">" ++ crlf))

-- what all requests of a call share; here it is this one alone
abbrev pub call_id_line : ℕ → List ℕ
call_id_line number = codes "Call-ID: " ++ (token number ++ crlf)

-- where the sender can be reached
abbrev pub contact_line : OptionsRequest → List ℕ
contact_line request =
    codes "Contact: <"
    ++ (contact_scheme request.uri.now
    ++ (sent_by request ++ (contact_transport request.transport ++ (codes ">" ++ crlf))))

-- the request
abbrev pub request_text : OptionsRequest → List ℕ
request_text request =
    request_line request.uri.now
    ++ (via_line request
    ++ (max_forwards_line request.max_forwards
    ++ (from_line request
    ++ (to_line request.uri.now
    ++ (call_id_line request.call_id
    ++ (codes "CSeq: 1 OPTIONS"
    ++ (crlf
    ++ (contact_line request
    ++ (codes "Accept: application/sdp"
    ++ (crlf ++ (codes "Content-Length: 0" ++ (crlf ++ crlf))))))))))))
