-- The lines of what went over the wire. Each begins with `;`.
use Rattle.std.specs.Prelude.{ℕ, ◌-◌, ◌/◌, ◌==◌, Bool, true, false, List, [], ◌∷◌, ◌++◌, codes, Option, Some, None, if◌then◌else◌}
use Rattle.std.specs.Duration.{as_nanos}
use Rattle.std.specs.Fmt.{decimal}
use Rattle.std.specs.Net.Text.{socket_text}
use Rattle.std.specs.declared.time.Duration.{Duration}
use Rattle.dns_name.specs.Texts.{text_of}
use Rattle.dns_message.specs.declared.message.Message.{Message}
use Rattle.dns_message.specs.declared.question.Asked.{Asked}
use Rattle.dns_transport.specs.declared.wire_try.TryRoute.{TryRoute}
use Rattle.dns_transport.specs.declared.wire_try.WireReply.{WireReply}
use Rattle.dns_transport.specs.declared.wire_try.WireTry.{WireTry}
use Rattle.sip_report.specs.RecordLines.{message_lines}
use Rattle.sip_report.specs.Rules.{rule_of}
use Rattle.sip_report.specs.declared.address.AddressForm.{AddressForm}

-- the name of a type of records (RFC 1035 3.2.2, 3596 2.1, 2782, 3403 4.1); for others RFC 3597 5
abbrev pub type_word : ℕ → List ℕ
type_word type_number =
    if type_number == 1 then codes "A" else
    (if type_number == 28 then codes "AAAA" else
    (if type_number == 33 then codes "SRV" else
    (if type_number == 35 then codes "NAPTR" else codes "TYPE" ++ decimal type_number)))

-- the words of what a query asks: the type, the name, and the rule that asks for it
abbrev pub asked_words : Bool → Asked → List ℕ
asked_words via asked =
    type_word asked.type_number ++ (32 ∷ text_of asked.name) ++ codes " (" ++ rule_of via asked
    ++ codes ")"

-- the first of two texts where a condition holds, else the second
abbrev pub words_if : Bool → List ℕ → List ℕ → List ℕ
words_if true words others = words
words_if false words others = others

-- the words of the way of a query: the server, over what, and whether with EDNS (RFC 6891)
abbrev pub route_words : TryRoute → List ℕ
route_words route =
    socket_text route.server ++ words_if route.over_tcp (codes " tcp") (codes " udp")
    ++ words_if route.has_edns (codes " edns") []

-- milliseconds from a time to a later one
abbrev pub milliseconds : Duration → Duration → ℕ
milliseconds from until = (as_nanos until - as_nanos from) / 1_000_000

-- the words of a reply: RCODE, octets and time
abbrev pub came_words : Duration → WireReply → List ℕ
came_words sent_at reply =
    (codes "rcode " ++ decimal reply.rcode ++ codes ", ")
    ++ (decimal reply.octets ++ codes " octets, ")
    ++ decimal (milliseconds sent_at reply.came_at) ++ codes " ms"

-- what is printed of a reply, or that there is none
abbrev pub reply_words : Duration → Option WireReply → List ℕ
reply_words sent_at None = codes "no reply"
reply_words sent_at (Some reply) = came_words sent_at reply

-- what is printed of the question of a query, or that there is none
abbrev pub question_words : Bool → Option Asked → List ℕ
question_words via (Some asked) = asked_words via asked
question_words via None = codes "nothing"

-- the words of a query that went out: what it asks, its way and its id
abbrev pub sent_words : Bool → WireTry → List ℕ
sent_words via one =
    question_words via one.asked ++ codes " to " ++ route_words one.route ++ codes " id "
    ++ decimal one.id

-- the line of a query that went out: what it asks, its way, its id and its reply
abbrev pub trace_line : Bool → WireTry → List ℕ
trace_line via one =
    codes "; " ++ sent_words via one ++ codes ": " ++ reply_words one.sent_at one.reply ++ 10 ∷ []

-- the lines of the message that came back
abbrev pub lines_in : AddressForm → Option Asked → Option Message → List ℕ
lines_in form (Some asked) (Some message) = message_lines form asked message
lines_in form (Some asked) None = []
lines_in form None message = []

-- the lines of the message that came back, if one did
abbrev pub reply_lines : AddressForm → Option Asked → Option WireReply → List ℕ
reply_lines form asked (Some reply) = lines_in form asked reply.message
reply_lines form asked None = []

-- the lines of a query, and of what came back
abbrev pub try_lines : AddressForm → Bool → WireTry → List ℕ
try_lines form via one = trace_line via one ++ reply_lines form one.asked one.reply
