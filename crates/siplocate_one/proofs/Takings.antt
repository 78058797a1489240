-- What is taken from a line, from what is taken of its octets.
use Rattle.std.proofs.Common.{◌≡◌, ◌⊎◌, ℕ, List, Option, Some, None, Result, Ok, Err, OnOk, IfErr, MatchResult, refl, sym, ap, ◌∙◌, inl, inr}
use Rattle.dns_answers.specs.Answers.{answer}
use Rattle.dns_answers.specs.Replies.{reply_refusal}
use Rattle.dns_answers.specs.Values.{AnswerValue}
use Rattle.dns_answers.specs.declared.refusal.ReplyRefusal.{ReplyRefusal}
use Rattle.dns_message.specs.Messages.{Begins}
use Rattle.dns_message.specs.declared.message.Message.{Message}
use Rattle.dns_message.specs.declared.question.Question.{Question}
use Rattle.dns_message.specs.declared.refusal.MessageRefusal.TheVariants as message
use Rattle.hex.specs.Hex.{decode_of}
use Rattle.sip_locator.specs.Replies.{Answers, Refuses}
use Rattle.sip_locator.specs.declared.refusal.LocatorRefusal.{LocatorRefusal}
use Rattle.sip_locator.specs.declared.refusal.LocatorRefusal.TheVariants as locator
use Rattle.sip_selection.specs.Choice.{Resolution, targets, refused, need}
use Rattle.sip_selection.specs.Known.{Given}
use Rattle.sip_selection.specs.Selections.{SelectionValue, given_too, now_of}
use Rattle.siplocate_one.specs.Replies.{Digits, digits, IsFault, ReplyLine, of_locator}
use Rattle.siplocate_one.specs.Takings.{IsGiven, IsRefusedAs, IsTaken}
use Rattle.siplocate_one.specs.Talks.{told}
use Rattle.siplocate_one.specs.declared.reply.BadReply.{BadReply}
use Rattle.siplocate_one.specs.declared.reply.BadReply.TheVariants.{Memory}

abbrev given_of : Question → AnswerValue → Given
given_of question found = record { question = question; answer = found }

same-octets : (line a b : List ℕ) → decode_of (digits line) ≡ Ok a → decode_of (digits line) ≡ Ok b → a ≡ b
same-octets line a b e e' = cc

told-is : (resolution : Resolution) (question : Question) (it : Message) → resolution ≡ need question → reply_refusal question it ≡ None
    → told resolution it ≡ Some (record { question = question; answer = answer question it })
told-is resolution question it asked none = rw (asked, none) refl

told-by : (question : Question) (it : Message) (more : Given) (fault : Option ReplyRefusal) → reply_refusal question it ≡ fault
    → told (need question) it ≡ Some more → reply_refusal question it ≡ None
told-by question it more None r e = r
told-by question it more (Some fault) r e = let e' : None ≡ Some more = rw r at e in absurd cc

-- what is told of a message is told of a question that is needed
told-asks : (resolution : Resolution) (it : Message) (more : Given) → told resolution it ≡ Some more
    → (question : Question) × (resolution ≡ need question) × (reply_refusal question it ≡ None)
told-asks (need question) it more e = (question, refl, told-by question it more (reply_refusal question it) refl e)
told-asks (targets list) it more e = absurd cc
told-asks (refused reason) it more e = absurd cc

module _ (old new : SelectionValue) (line octets : List ℕ) (decoded : Digits line octets) where
  begins : (it : Message) → ReplyLine line it → Begins octets it
  begins it reply =
      let same = same-octets line reply.octets octets reply.decoded decoded in
      rw same at reply.begins

  module _ (decides : (question : Question) (octets : List ℕ) (it : Message) (found : AnswerValue) → Begins octets it
      → Answers question octets found → (reply_refusal question it ≡ None) × (found ≡ answer question it)) where
    taken-each : (given : IsGiven old new octets) (it : Message) → ReplyLine line it
        → told (now_of old) it ≡ Some (record { question = given.question; answer = given.found })
    taken-each given it reply =
        let is = decides given.question octets it given.found (begins it reply) given.answers in
        told-is (now_of old) given.question it given.asked is.0 ∙ ap (λ (value : AnswerValue). Some (given_of given.question value))
        (sym is.1)

    taken-is : IsGiven old new octets → IsTaken old new line
    taken-is given =
        let reply : ReplyLine line given.answers.it = record { octets = octets; decoded = decoded; begins = given.answers.begins } in
        record {
          message = given.answers.it;
          more = record { question = given.question; answer = given.found };
          reply = reply;
          told_is = taken-each given given.answers.it reply;
          each = taken-each given;
          is = given.is;
        }

    pub taken-of : (result : Result (Unit {0}) BadReply) → OnOk result (IsGiven old new octets) → OnOk result (IsTaken old new line)
    taken-of (Ok u) given = taken-is given
    taken-of (Err reply) given = given

    module _ (refuses : (resolution : Resolution) (question : Question) (octets : List ℕ) (it : Message) (refusal : LocatorRefusal)
        → resolution ≡ need question → Begins octets it → Refuses resolution octets refusal
        → (refusal ≡ locator.Memory) ⊎ ((fault : ReplyRefusal) × (refusal ≡ locator.Reply fault)
        × (reply_refusal question it ≡ Some fault))) where
      memory-by : (refusal : LocatorRefusal) (question : Question) (it : Message) → reply_refusal question it ≡ None
          → (refusal ≡ locator.Memory) ⊎ ((fault : ReplyRefusal) × (refusal ≡ locator.Reply fault)
          × (reply_refusal question it ≡ Some fault))
          → of_locator refusal ≡ Memory
      memory-by refusal question it none (inl is) = rw is refl
      memory-by refusal question it none (inr said) =
          let both : None ≡ Some said.0 = sym none ∙ said.2 in absurd cc

      pub read-of : (result : Result (Unit {0}) BadReply) → OnOk result (IsGiven old new octets) → IfErr result (IsRefusedAs old octets)
          → (it : Message) (more : Given) → ReplyLine line it → told (now_of old) it ≡ Some more
          → MatchResult result (λ _. new ≡ given_too old more.question more.answer) (λ reply. reply ≡ Memory)
      read-of (Ok u) given refusal it more reply e =
          let same : given_of given.question given.found ≡ more = let both = sym (taken-each given it reply) ∙ e in cc in
          given.is ∙ ap (λ (value : Given). given_too old value.question value.answer) same
      read-of (Err bad) given refusal it more reply e =
          let asks = told-asks (now_of old) it more e in
          refusal.is ∙ memory-by refusal.refusal asks.0 it asks.2 (refuses (now_of old) asks.0 octets it refusal.refusal asks.1
          (begins it reply) refusal.refuses)

  bad-by : (refusal : LocatorRefusal) → Refuses (now_of old) octets refusal → IsFault (of_locator refusal) (now_of old) line
  bad-by locator.NothingAsked refuses = (octets, decoded, refuses)
  bad-by (locator.Message message.TooLong) refuses = (octets, decoded, refuses.0, refuses.1)
  bad-by (locator.Message (message.Malformed part)) refuses =
      (octets, decoded, refuses.0, refuses.1.0, refuses.1.2)
  bad-by (locator.Message message.Memory) refuses = tt
  bad-by (locator.Reply fault) refuses = (
    refuses.0,
    refuses.2.it,
    refuses.1,
    record { octets = octets; decoded = decoded; begins = refuses.2.begins },
    refuses.2.fault,
  )
  bad-by locator.Memory refuses = tt

  pub bad-of : (result : Result (Unit {0}) BadReply) → IfErr result (IsRefusedAs old octets)
      → IfErr result (λ reply. IsFault reply (now_of old) line)
  bad-of (Ok u) none = none
  bad-of (Err bad) refusal = rw refusal.is (bad-by refusal.refusal refusal.refuses)
