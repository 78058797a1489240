-- What the program asks for, and what replies build up.
use Rattle.std.specs.Prelude.{ℕ, false, List, [], ◌∷◌, ◌++◌, is_none, Option, Some, None, option_and_then, replicate, if◌then◌else◌}
use Rattle.dns_answers.specs.Answers.{answer}
use Rattle.dns_answers.specs.Replies.{reply_refusal}
use Rattle.dns_message.specs.declared.message.Message.{Message}
use Rattle.sip_selection.specs.Callers.{CapsValue}
use Rattle.sip_selection.specs.Choice.{Resolution, targets, refused, need, locate}
use Rattle.sip_selection.specs.Known.{Given}
use Rattle.sip_selection.specs.Selections.{SelectionValue}
use Rattle.sip_selection.specs.declared.caps.Families.{Families}
use Rattle.sip_selection.specs.declared.request.Request.{Request}
use Rattle.sip_uri.specs.declared.transport.Transport.TheVariants.{Udp, Tcp, Tls, Sctp}
use Rattle.sip_resolver.specs.Draws.{drawn}

-- the transports of the program, in order of preference
abbrev pub own_caps : Families → CapsValue
own_caps families = record {
  transports = Udp ∷ Tcp ∷ Tls ∷ Sctp ∷ [];
  families = families;
  is_large = false;
  is_fixed = false;
}

-- the random words of the program: those of a key of zeros, by the number 1
abbrev pub own_words : List ℕ
own_words = drawn (replicate 32 0) 1

-- where a request goes, with these answers
abbrev pub goes : Families → Request → List Given → Resolution
goes families request given = locate request (own_caps families) own_words given

-- the choice of a request that was given these answers
abbrev pub selected : Families → Request → List Given → SelectionValue
selected families request given =
    record { request = request; caps = own_caps families; words = own_words; given = given }

-- the question that is needed and the answer that a message has for it; none where nothing is
-- needed or the message is no reply to it
abbrev pub told : Resolution → Message → Option Given
told (need question) message =
    if is_none (reply_refusal question message)
    then Some (record { question = question; answer = answer question message })
    else None
told (targets list) message = None
told (refused reason) message = None

-- what is known after messages, each of which answers the question that is needed then
abbrev pub talk_from : Families → Request → List Given → List Message → Option (List Given)
talk_from families request given [] = Some given
talk_from families request given (message ∷ messages) =
    option_and_then (λ (more : Given). talk_from families request (given ++ more ∷ []) messages)
    (told (goes families request given) message)

-- the questions with their answers (`answer` of `dns_answers`) after messages, each of which is a
-- reply to the question that is needed then
abbrev pub talk : Families → Request → List Message → Option (List Given)
talk families request messages = talk_from families request [] messages
