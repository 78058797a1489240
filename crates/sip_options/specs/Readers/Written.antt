-- What is written of the parts of a request.
use Rattle.std.specs.Prelude.{ℕ, List, ◌++◌, codes}
use Rattle.sip_options.specs.Requests.{crlf}
use Rattle.sip_options.specs.declared.request.Parts.{Parts}

-- the request of these texts
abbrev pub text_of : (uri transport host port branch max_forwards from_tag call_id contact_scheme
    contact_transport : List ℕ) → List ℕ
text_of uri transport host port branch max_forwards from_tag call_id contact_scheme
    contact_transport =
    codes "OPTIONS "
    ++ (uri
    ++ (codes " SIP/2.0" ++ (crlf
    ++ (codes "Via: SIP/2.0/"
    ++ (transport
    ++ (codes " "
    ++ (host
    ++ (codes ":"
    ++ (port
    ++ (codes ";branch="
    ++ (branch
    ++ (codes ";rport" ++ (crlf
    ++ (codes "Max-Forwards: "
    ++ (max_forwards ++ (crlf
    ++ (codes "From: <sip:"
    ++ (host
    ++ (codes ">;tag="
    ++ (from_tag ++ (crlf
    ++ (codes "To: <"
    ++ (uri
    ++ (codes ">" ++ (crlf
    ++ (codes "Call-ID: "
    ++ (call_id ++ (crlf
    ++ (codes "CSeq: 1 OPTIONS" ++ (crlf
    ++ (codes "Contact: <"
    ++ (contact_scheme
    ++ (host
    ++ (codes ":"
    ++ (port
    ++ (contact_transport
    ++ (codes ">" ++ (crlf
    ++ (codes "Accept: application/sdp"
    ++ (crlf
    ++ (codes "Content-Length: 0" ++ (crlf ++ crlf))))))))))))))))))))))))))))))))))))))))))

-- the request that has these parts
abbrev pub written : Parts → List ℕ
written parts =
    text_of parts.uri.now parts.transport.now parts.host.now parts.port.now parts.branch.now
    parts.max_forwards.now parts.from_tag.now parts.call_id.now parts.contact_scheme.now
    parts.contact_transport.now
