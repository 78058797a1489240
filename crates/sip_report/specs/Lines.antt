-- The lines that the program prints.
use Rattle.std.specs.Prelude.{ℕ, ◌==◌, nat_lt, List, [], ◌∷◌, ◌++◌, codes, if◌then◌else◌}
use Rattle.std.specs.List.{flat_map}
use Rattle.std.specs.Fmt.{decimal}
use Rattle.dns_name.specs.Texts.{text_of}
use Rattle.dns_answers.specs.declared.refusal.ReplyRefusal.{ReplyRefusal}
use Rattle.dns_answers.specs.declared.refusal.ReplyRefusal.TheVariants as refusal
use Rattle.dns_message.specs.declared.kind.Kind.{Kind}
use Rattle.dns_message.specs.declared.kind.Kind.TheVariants.{A, Aaaa, Srv, Naptr}
use Rattle.dns_message.specs.declared.question.Question.{Question}
use Rattle.sip_uri.specs.declared.transport.Transport.{Transport}
use Rattle.sip_uri.specs.declared.transport.Transport.TheVariants.{Udp, Tcp, Sctp, Tls}
use Rattle.sip_uri.specs.declared.refusal.UriRefusal.{UriRefusal}
use Rattle.sip_uri.specs.declared.refusal.UriRefusal.TheVariants as uri
use Rattle.sip_selection.specs.declared.reason.Reason.{Reason}
use Rattle.sip_selection.specs.declared.reason.Reason.TheVariants.{TransportUnsupported, TransportNotSecure, NotOffered, NoAddress}
use Rattle.sip_selection.specs.declared.target.Target.{Target}
use Rattle.sip_ping.specs.declared.answer.Answer.TheVariants.{Replied, Silent, Refused, Unreadable}
use Rattle.sip_tries.specs.Turns.{succeeded}
use Rattle.sip_tries.specs.declared.found.Found.{Found}
use Rattle.sip_tries.specs.declared.found.Found.TheVariants.{Asked, Untried}
use Rattle.sip_tries.specs.declared.found.TargetTry.{TargetTry}
use Rattle.sip_tries.specs.declared.tries.Tries.{Tries}
use Rattle.sip_resolver.specs.declared.outcome.Outcome.{Outcome}
use Rattle.sip_resolver.specs.declared.outcome.Outcome.TheVariants as outcome
use Rattle.sip_report.specs.Addresses.{address_words}
use Rattle.sip_report.specs.declared.address.AddressForm.{AddressForm}
use Rattle.sip_report.specs.declared.line_outcome.LineOutcome.{LineOutcome}
use Rattle.sip_report.specs.declared.line_outcome.RequestFault.{RequestFault}
use Rattle.sip_report.specs.declared.line_outcome.LineOutcome.TheVariants as line_outcome

-- ---- words

-- the word that is printed for a transport
abbrev pub transport_word : Transport → List ℕ
transport_word Udp = codes "udp"
transport_word Tcp = codes "tcp"
transport_word Sctp = codes "sctp"
transport_word Tls = codes "tls"

-- the word that is printed for the reason why a request goes nowhere
abbrev pub reason_word : Reason → List ℕ
reason_word TransportUnsupported = codes "TransportUnsupported"
reason_word TransportNotSecure = codes "TransportNotSecure"
reason_word NotOffered = codes "NotOffered"
reason_word NoAddress = codes "NoAddress"

-- the name of the type of records that a question asks for
abbrev pub kind_word : Kind → List ℕ
kind_word A = codes "A"
kind_word Aaaa = codes "AAAA"
kind_word Srv = codes "SRV"
kind_word Naptr = codes "NAPTR"

-- the word that is printed for why a text is no request
abbrev pub request_word : UriRefusal → List ℕ
request_word uri.TooLong = codes "TooLong"
request_word uri.BadScheme = codes "BadScheme"
request_word uri.BadUser = codes "BadUser"
request_word uri.BadHost = codes "BadHost"
request_word uri.BadPort = codes "BadPort"
request_word uri.BadParam = codes "BadParam"
request_word uri.RepeatedParam = codes "RepeatedParam"
request_word uri.BadHeader = codes "BadHeader"
request_word uri.BadVia = codes "BadVia"
request_word uri.Memory = codes "Memory"

-- why a text is no request, and how many of its octets stand in front of its leftmost fault
abbrev pub fault_words : RequestFault → List ℕ
fault_words fault = request_word fault.refusal ++ codes " at " ++ decimal fault.at

-- why a reply has no answer: it was cut, or its code (RFC 1035 4.1.1)
abbrev pub why_word : ReplyRefusal → List ℕ
why_word refusal.NotReply = codes "NotReply"
why_word refusal.OtherQuestion = codes "OtherQuestion"
why_word refusal.Truncated = codes "Truncated"
why_word (refusal.ServerFault rcode) = codes "rcode " ++ decimal rcode
why_word refusal.Memory = codes "Memory"

-- ---- lines, each after the front

-- a target in words: its transport, address and port
abbrev pub target_words : AddressForm → Target → List ℕ
target_words form target =
    transport_word target.transport ++ (32 ∷ address_words form target.address)
    ++ (32 ∷ decimal target.port)

-- the line of a target
abbrev pub target_line : AddressForm → List ℕ → Target → List ℕ
target_line form front target = front ++ target_words form target ++ 10 ∷ []

-- what was found at a target: the status of the final reply, and the milliseconds until it was
-- there; or why there is none
abbrev pub found_words : Found → List ℕ
found_words (Asked (Replied reply)) =
    decimal reply.status ++ (32 ∷ decimal reply.after) ++ codes " ms"
found_words (Asked Silent) = codes "silent"
found_words (Asked Refused) = codes "refused"
found_words (Asked Unreadable) = codes "unreadable"
found_words Untried = codes "untried"

-- the line of a target that was tried
abbrev pub try_line : AddressForm → List ℕ → TargetTry → List ℕ
try_line form front it =
    front ++ target_words form it.target ++ (32 ∷ found_words it.found) ++ 10 ∷ []

-- the words of a question: its kind and its name
abbrev pub question_words : Question → List ℕ
question_words question = kind_word question.kind ++ 32 ∷ text_of question.name

-- the line of a question without an answer, and why it has none
abbrev pub gaveup_line : List ℕ → Question → List ℕ → List ℕ
gaveup_line front question why =
    front ++ codes "gaveup " ++ question_words question ++ (32 ∷ why) ++ 10 ∷ []

-- a line of two words
abbrev pub words_line : List ℕ → List ℕ → List ℕ → List ℕ
words_line front word other = front ++ word ++ other ++ 10 ∷ []

-- the lines of what became of a request
abbrev pub outcome_lines : AddressForm → List ℕ → Outcome → List ℕ
outcome_lines form front (outcome.Targets list) =
    flat_map (target_line form front) list.targets
outcome_lines form front (outcome.Refused reason) =
    words_line front (codes "refused ") (reason_word reason)
outcome_lines form front (outcome.NoAnswer question) = gaveup_line front question (codes "timeout")
outcome_lines form front (outcome.NoServer question) = gaveup_line front question (codes "closed")
outcome_lines form front (outcome.BadReply question refusal) =
    gaveup_line front question (why_word refusal)
outcome_lines form front outcome.Memory = words_line front (codes "fault ") (codes "memory")

-- the lines of what became of a text
abbrev pub lines_of : AddressForm → List ℕ → LineOutcome → List ℕ
lines_of form front (line_outcome.Became outcome) = outcome_lines form front outcome
lines_of form front (line_outcome.Tried tries) =
    flat_map (try_line form front) tries.tries.items
lines_of form front (line_outcome.NoSuchName name) =
    words_line front (codes "refused ") (codes "NoAddress")
lines_of form front line_outcome.TimeOver = words_line front (codes "gaveup ") (codes "total")
lines_of form front (line_outcome.Bad fault) = words_line front (codes "bad ") (fault_words fault)
lines_of form front line_outcome.NotText = words_line front (codes "bad ") (codes "NotText")
lines_of form front line_outcome.Memory = words_line front (codes "fault ") (codes "memory")

-- the same, with the name that does not exist, and the RCODE that says so (RFC 1035 4.1.1)
abbrev pub verbose_lines : AddressForm → List ℕ → LineOutcome → List ℕ
verbose_lines form front (line_outcome.Became outcome) = outcome_lines form front outcome
verbose_lines form front (line_outcome.Tried tries) =
    lines_of form front (line_outcome.Tried tries)
verbose_lines form front (line_outcome.NoSuchName name) =
    words_line front (codes "refused NoAddress rcode 3 ") (text_of name)
verbose_lines form front line_outcome.TimeOver = lines_of form front line_outcome.TimeOver
verbose_lines form front (line_outcome.Bad fault) = lines_of form front (line_outcome.Bad fault)
verbose_lines form front line_outcome.NotText = lines_of form front line_outcome.NotText
verbose_lines form front line_outcome.Memory = lines_of form front line_outcome.Memory

-- ---- the status

-- how grave a status is: that a question has no answer is graver than that a request goes nowhere
abbrev pub gravity : ℕ → ℕ
gravity status = if status == 1 then 2 else (if status == 2 then 1 else status)

-- the graver one of two statuses: a fault, wrong usage, no request, a question without an answer, a
-- request that goes nowhere, targets
abbrev pub graver_of : ℕ → ℕ → ℕ
graver_of status other = if nat_lt (gravity status) (gravity other) then other else status

-- the status of a text whose targets were tried: 1 where they are not as they should be
abbrev pub status_of_tries : Tries → ℕ
status_of_tries tries = if succeeded tries.extent tries.tries.items then 0 else 1

-- the exit status of a text: 0 with targets, 1 without an answer, 2 where the request goes nowhere,
-- 3 where it is no request, 5 where memory was refused
abbrev pub status_of : LineOutcome → ℕ
status_of (line_outcome.Became (outcome.Targets list)) = 0
status_of (line_outcome.Became (outcome.Refused reason)) = 2
status_of (line_outcome.Became (outcome.NoAnswer question)) = 1
status_of (line_outcome.Became (outcome.NoServer question)) = 1
status_of (line_outcome.Became (outcome.BadReply question refusal)) = 1
status_of (line_outcome.Became outcome.Memory) = 5
status_of (line_outcome.Tried tries) = status_of_tries tries
status_of (line_outcome.NoSuchName name) = 2
status_of line_outcome.TimeOver = 1
status_of (line_outcome.Bad fault) = 3
status_of line_outcome.NotText = 3
status_of line_outcome.Memory = 5
