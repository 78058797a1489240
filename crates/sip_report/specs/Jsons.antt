-- What became of a text as an object of JSON (RFC 8259). The members of an object stand in the
-- order of their keys.
use Rattle.std.specs.Prelude.{ℕ, List, [], ◌∷◌, ◌++◌, map, codes, Option, Some, None}
use Rattle.std.specs.Net.Text.{socket_text}
use Rattle.std.specs.declared.net.SocketAddr.{SocketAddr}
use Rattle.dns_name.specs.Texts.{text_of}
use Rattle.dns_answers.specs.declared.refusal.ReplyRefusal.{ReplyRefusal}
use Rattle.dns_answers.specs.declared.refusal.ReplyRefusal.TheVariants as refusal
use Rattle.dns_message.specs.declared.question.Question.{Question}
use Rattle.serde_json.specs.Data.{Data, Members, null, boolean, array, member, no_members, number, object, put, string, unsigned}
use Rattle.serde_json.specs.View.{items_of}
use Rattle.serde_json.specs.Written.{compact_text}
use Rattle.sip_ping.specs.declared.answer.Answer.TheVariants.{Replied, Silent, Refused, Unreadable}
use Rattle.sip_tries.specs.declared.found.Found.{Found}
use Rattle.sip_tries.specs.declared.found.Found.TheVariants.{Asked, Untried}
use Rattle.sip_tries.specs.declared.found.TargetTry.{TargetTry}
use Rattle.sip_resolver.specs.declared.outcome.Outcome.{Outcome}
use Rattle.sip_resolver.specs.declared.outcome.Outcome.TheVariants as outcome
use Rattle.sip_selection.specs.declared.target.Target.{Target}
use Rattle.sip_uri.specs.declared.transport.Transport.{Transport}
use Rattle.sip_uri.specs.declared.transport.Transport.TheVariants.{Udp, Tcp, Sctp, Tls}
use Rattle.sip_report.specs.Addresses.{address_words}
use Rattle.sip_report.specs.Explanations.{least_life, targets_in}
use Rattle.sip_report.specs.Hosts.{host_words}
use Rattle.sip_report.specs.Lines.{found_words, kind_word, reason_word, request_word, status_of_tries, transport_word}
use Rattle.sip_report.specs.declared.account.Account.{Account}
use Rattle.sip_report.specs.declared.address.AddressForm.{AddressForm}
use Rattle.sip_report.specs.declared.line_outcome.LineOutcome.{LineOutcome}
use Rattle.sip_report.specs.declared.line_outcome.RequestFault.{RequestFault}
use Rattle.sip_report.specs.declared.line_outcome.LineOutcome.TheVariants as line_outcome

-- ---- the parts

-- a number
abbrev pub number_data : ℕ → Data
number_data value = number (unsigned value)

-- an object with one member more, under this key
abbrev pub with_member : List ℕ → Data → Data → Data
with_member key it (object members) = object (put key it members)
with_member key it (array items) = array items
with_member key it (string other) = string other
with_member key it (number value) = number value
with_member key it (boolean value) = boolean value
with_member key it null = null

-- the object of a target has one member more where it is reached over TLS: what the certificate of
-- its server has to be of (RFC 3263 4.1, RFC 3261 26.3.1)
abbrev pub verified : List ℕ → Transport → Data → Data
verified verify Tls target = with_member (codes "verify") (string verify) target
verified verify Udp target = target
verified verify Tcp target = target
verified verify Sctp target = target

-- where a target is, as an object: address, port and transport
abbrev pub place_data : AddressForm → Target → Data
place_data form target =
    object (member (codes "address") (string (address_words form target.address))
    (member (codes "port") (number (unsigned target.port))
    (member (codes "transport") (string (transport_word target.transport)) no_members)))

-- a target as an object, with what a certificate has to be of
abbrev pub target_data : AddressForm → List ℕ → Target → Data
target_data form verify target = verified verify target.transport (place_data form target)

-- targets as an array of objects
abbrev pub targets_data : AddressForm → List ℕ → List Target → Data
targets_data form verify targets = array (items_of (map (target_data form verify) targets))

-- a target that replied: the status of the final reply, and the milliseconds until it was there
abbrev pub replied_data : AddressForm → Target → ℕ → ℕ → Data
replied_data form target status after =
    object (member (codes "address") (string (address_words form target.address))
    (member (codes "port") (number (unsigned target.port))
    (member (codes "rtt") (number (unsigned after))
    (member (codes "status") (number (unsigned status))
    (member (codes "transport") (string (transport_word target.transport)) no_members)))))

-- a target without a final reply: with the word for why
abbrev pub unreplied_data : AddressForm → Target → List ℕ → Data
unreplied_data form target why =
    object (member (codes "address") (string (address_words form target.address))
    (member (codes "port") (number (unsigned target.port))
    (member (codes "transport") (string (transport_word target.transport))
    (member (codes "why") (string why) no_members))))

-- what was found at a target
abbrev pub found_data : AddressForm → Target → Found → Data
found_data form target (Asked (Replied reply)) = replied_data form target reply.status reply.after
found_data form target (Asked Silent) = unreplied_data form target (found_words (Asked Silent))
found_data form target (Asked Refused) = unreplied_data form target (found_words (Asked Refused))
found_data form target (Asked Unreadable) =
    unreplied_data form target (found_words (Asked Unreadable))
found_data form target Untried = unreplied_data form target (found_words Untried)

-- a target that was tried
abbrev pub try_data : AddressForm → List ℕ → TargetTry → Data
try_data form verify it = verified verify it.target.transport (found_data form it.target it.found)

-- targets that were tried, as an array of objects
abbrev pub tries_data : AddressForm → List ℕ → List TargetTry → Data
tries_data form verify tries = array (items_of (map (try_data form verify) tries))

-- a question: its type and its name
abbrev pub question_data : Question → Data
question_data question =
    object (member (codes "kind") (string (kind_word question.kind))
    (member (codes "name") (string (text_of question.name)) no_members))

-- a question, and the RCODE of the reply to it (RFC 1035 4.1.1)
abbrev pub rcode_data : Question → ℕ → Data
rcode_data question rcode =
    object (member (codes "kind") (string (kind_word question.kind))
    (member (codes "name") (string (text_of question.name))
    (member (codes "rcode") (number (unsigned rcode)) no_members)))

-- a question, and why it has no answer
abbrev pub why_data : Question → List ℕ → Data
why_data question why =
    object (member (codes "kind") (string (kind_word question.kind))
    (member (codes "name") (string (text_of question.name))
    (member (codes "why") (string why) no_members)))

-- a question, and why the reply to it gives no answer
abbrev pub reply_data : Question → ReplyRefusal → Data
reply_data question refusal.NotReply = why_data question (codes "NotReply")
reply_data question refusal.OtherQuestion = why_data question (codes "OtherQuestion")
reply_data question refusal.Truncated = why_data question (codes "Truncated")
reply_data question (refusal.ServerFault rcode) = rcode_data question rcode
reply_data question refusal.Memory = why_data question (codes "Memory")

-- ---- the object: what became of the text, and the text

-- the members that stand last in each object: the text, the milliseconds that it took, and the
-- number of this format
abbrev pub last_members : List ℕ → ℕ → Members
last_members text took =
    member (codes "text") (string text)
    (member (codes "time") (number (unsigned took))
    (member (codes "v") (number (unsigned 1)) no_members))

-- what the object of each text has: its status, and the members that stand last
abbrev pub line_data : List ℕ → ℕ → ℕ → Data
line_data text took status =
    object (member (codes "status") (number (unsigned status)) (last_members text took))

-- the object of a text with targets
abbrev pub with_targets : List ℕ → ℕ → Data → Data
with_targets text took targets =
    object (member (codes "status") (number (unsigned 0))
    (member (codes "targets") targets (last_members text took)))

-- the object of a text whose targets were tried
abbrev pub with_tries : List ℕ → ℕ → ℕ → Data → Data → Data
with_tries text took status targets tries =
    object (member (codes "status") (number (unsigned status))
    (member (codes "targets") targets
    (member (codes "text") (string text)
    (member (codes "time") (number (unsigned took))
    (member (codes "tries") tries
    (member (codes "v") (number (unsigned 1)) no_members))))))

-- the object of a text whose request gave up
abbrev pub with_gaveup : List ℕ → ℕ → Data → Data
with_gaveup text took gaveup =
    object (member (codes "gaveup") gaveup
    (member (codes "status") (number (unsigned 1)) (last_members text took)))

-- why a question has no answer whose time was over
abbrev pub total_data : Data
total_data = object (member (codes "why") (string (codes "total")) no_members)

-- the object of a text whose request goes nowhere, with the reason
abbrev pub with_refused : List ℕ → ℕ → List ℕ → Data
with_refused text took word =
    object (member (codes "refused") (string word)
    (member (codes "status") (number (unsigned 2)) (last_members text took)))

-- the object of a text whose request goes nowhere, since a name does not exist
abbrev pub with_no_name : List ℕ → ℕ → List (List ℕ) → Data
with_no_name text took name =
    object (member (codes "name") (string (text_of name))
    (member (codes "rcode") (number (unsigned 3))
    (member (codes "refused") (string (codes "NoAddress"))
    (member (codes "status") (number (unsigned 2)) (last_members text took)))))

-- the object of a text that is no request, with the word for why
abbrev pub with_bad : List ℕ → ℕ → List ℕ → Data
with_bad text took word =
    object (member (codes "bad") (string word)
    (member (codes "status") (number (unsigned 3)) (last_members text took)))

-- the same, with how many octets of the text stand in front of its leftmost fault
abbrev pub with_bad_at : List ℕ → ℕ → RequestFault → Data
with_bad_at text took fault =
    object (member (codes "at") (number (unsigned fault.at))
    (member (codes "bad") (string (request_word fault.refusal))
    (member (codes "status") (number (unsigned 3)) (last_members text took))))

-- the object of a text for which memory was refused
abbrev pub with_fault : List ℕ → ℕ → Data
with_fault text took =
    object (member (codes "fault") (string (codes "memory"))
    (member (codes "status") (number (unsigned 5)) (last_members text took)))

-- the object of a text, by the outcome of its request
abbrev pub outcome_data : AddressForm → List ℕ → ℕ → Outcome → Data
outcome_data form text took (outcome.Targets list) =
    with_targets text took
    (targets_data form (host_words form list.certificate_host) list.targets)
outcome_data form text took (outcome.Refused reason) = with_refused text took (reason_word reason)
outcome_data form text took (outcome.NoAnswer question) =
    with_gaveup text took (why_data question (codes "timeout"))
outcome_data form text took (outcome.NoServer question) =
    with_gaveup text took (why_data question (codes "closed"))
outcome_data form text took (outcome.BadReply question refusal) =
    with_gaveup text took (reply_data question refusal)
outcome_data form text took outcome.Memory = with_fault text took

-- the object of a text, by what became of it after so many milliseconds
abbrev pub line_outcome_data : AddressForm → List ℕ → ℕ → LineOutcome → Data
line_outcome_data form text took (line_outcome.Became outcome) =
    outcome_data form text took outcome
line_outcome_data form text took (line_outcome.Tried tries) =
    with_tries text took (status_of_tries tries)
    (targets_data form (host_words form tries.certificate_host) tries.targets.items)
    (tries_data form (host_words form tries.certificate_host) tries.tries.items)
line_outcome_data form text took (line_outcome.NoSuchName name) = with_no_name text took name
line_outcome_data form text took line_outcome.TimeOver = with_gaveup text took total_data
line_outcome_data form text took (line_outcome.Bad fault) =
    with_bad_at text took fault
line_outcome_data form text took line_outcome.NotText = with_bad text took (codes "NotText")
line_outcome_data form text took line_outcome.Memory = with_fault text took

-- an object with the seconds for which the answers may be kept by which its targets came, if any
-- did
abbrev pub with_ttl : Option ℕ → Data → Data
with_ttl None it = it
with_ttl (Some life) it = with_member (codes "ttl") (number_data life) it

-- an object with the DNS server whose reply came last, if one came
abbrev pub with_server : Option SocketAddr → Data → Data
with_server None it = it
with_server (Some server) it = with_member (codes "server") (string (socket_text server)) it

-- the line with the object of what became of a text (RFC 8259), and with the account of it
abbrev pub json_line : AddressForm → List ℕ → ℕ → Account → LineOutcome → List ℕ
json_line form text took account line_outcome =
    compact_text (with_server account.server
    (with_ttl (least_life account.paths.items (targets_in line_outcome))
    (line_outcome_data form text took line_outcome))) ++ 10 ∷ []
