-- Why octets have no answer to a question.
use Rattle.std.specs.Prelude.{◌==◌, ◌&&◌, ◌||◌, not, if◌then◌else◌}
use Rattle.std.proofs.Common.{◌≡◌, ◌≢◌, ◌⊎◌, ℕ, ◌<◌, ◌≤◌, Bool, true, false, List, length, take, Option, Some, None, refl, sym, ap, ◌∙◌, arith, inl, inr}
use Rattle.std.proofs.lemmas.Bool.{cases_lt}
use Rattle.dns_answers.specs.Replies.{asks_this_alone, reply_refusal}
use Rattle.dns_answers.specs.declared.refusal.ReplyRefusal.{ReplyRefusal}
use Rattle.dns_answers.specs.declared.refusal.ReplyRefusal.TheVariants as reply
use Rattle.dns_message.specs.Messages.{Begins, RefusedWhere, Spells}
use Rattle.dns_message.specs.declared.message.Message.{Message}
use Rattle.dns_message.specs.declared.question.Question.{Question}
use Rattle.dns_message.specs.declared.refusal.MessageRefusal.{MessageRefusal}
use Rattle.dns_message.specs.declared.refusal.MessageRefusal.TheVariants as message
use Rattle.dns_message.specs.declared.refusal.Part.{Part}
use Rattle.sip_locator.specs.Readings.{NoAnswer}
use Rattle.sip_locator.specs.Refusals.{of_message, of_reply}
use Rattle.dns_answers.specs.Answers.{answer}
use Rattle.dns_answers.specs.Values.{AnswerValue}
use Rattle.sip_selection.specs.Choice.{Resolution, need}
use Rattle.sip_locator.specs.Replies.{Answers, Refuses}
use Rattle.sip_locator.specs.declared.refusal.LocatorRefusal.{LocatorRefusal}
use Rattle.sip_locator.specs.declared.refusal.LocatorRefusal.TheVariants as locator

within : (octets : List ℕ) (refusal : MessageRefusal) → refusal ≢ message.TooLong → (65535 < length octets → refusal ≡ message.TooLong)
    → length octets ≤ 65535
within octets refusal other long =
    elim (cases_lt 65535 (length octets)) [
      | inl over ↦ absurd (other (long over))
      | inr short ↦ short
    ]

pub begins-with : (octets : List ℕ) (it : Message) → ((end : ℕ) × (end ≤ length octets) × Spells (take end octets) it)
    → (65535 < length octets → ⊥) → Begins octets it
begins-with octets it found long = record {
  short = elim (cases_lt 65535 (length octets)) [
    | inl over ↦ absurd (long over)
    | inr short ↦ short
  ];
  end = found.0;
  spelled = found.2;
}

pub no-message : (question : Question) (octets : List ℕ) (refusal : MessageRefusal) → RefusedWhere refusal octets
    → ((part : Part) → refusal ≡ message.Malformed part → (it : Message) → Begins octets it → ⊥)
    → (65535 < length octets → refusal ≡ message.TooLong) → NoAnswer question octets (of_message refusal)
no-message question octets message.TooLong stands none long = stands
no-message question octets (message.Malformed part) stands none long =
    (within octets (message.Malformed part) (λ e. absurd cc) long, stands, none part refl)
no-message question octets message.Memory stands none long = (within octets message.Memory (λ e. absurd cc) long, inl stands)

-- want of memory is no fault of a message
no-verdict : (other-kind other-question cut fine : Bool) (code : ℕ)
    → (if other-kind then Some reply.NotReply else
    (if other-question then Some reply.OtherQuestion else
    (if cut then Some reply.Truncated else
    (if fine then None else Some (reply.ServerFault code))))) ≡ Some reply.Memory → ⊥
no-verdict true other-question cut fine code e = cc
no-verdict false true cut fine code e = cc
no-verdict false false true fine code e = cc
no-verdict false false false true code e = cc
no-verdict false false false false code e = cc

never-memory : (question : Question) (it : Message) → reply_refusal question it ≡ Some reply.Memory → ⊥
never-memory question it e =
    no-verdict (not (it.header.reply && it.header.opcode == 0)) (not (asks_this_alone question it.questions)) it.header.truncated
    (it.header.rcode == 0 || it.header.rcode == 3) it.header.rcode e

-- so where each fault would be want of memory, there is none
none-by : (question : Question) (it : Message) (fault : Option ReplyRefusal) → reply_refusal question it ≡ fault
    → ((other : ReplyRefusal) → reply_refusal question it ≡ Some other → other ≡ reply.Memory) → reply_refusal question it ≡ None
none-by question it None is only = is
none-by question it (Some other) is only = absurd (never-memory question it (is ∙ ap Some (only other is)))

pub no-reply : (question : Question) (octets : List ℕ) (it : Message) → Begins octets it → (refusal : ReplyRefusal)
    → ((other : ReplyRefusal) → reply_refusal question it ≡ Some other → other ≡ refusal)
    → (refusal ≡ reply.Memory) ⊎ (reply_refusal question it ≡ Some refusal) → NoAnswer question octets (of_reply refusal)
no-reply question octets it begins reply.Memory only said =
    (begins.short, inr (it, begins, none-by question it (reply_refusal question it) refl only))
no-reply question octets it begins reply.NotReply only (inr is) = record { it = it; begins = begins; fault = is; named = λ e. absurd cc }
no-reply question octets it begins reply.OtherQuestion only (inr is) =
    record { it = it; begins = begins; fault = is; named = λ e. absurd cc }
no-reply question octets it begins reply.Truncated only (inr is) = record { it = it; begins = begins; fault = is; named = λ e. absurd cc }
no-reply question octets it begins (reply.ServerFault code) only (inr is) =
    record { it = it; begins = begins; fault = is; named = λ e. absurd cc }
no-reply question octets it begins reply.NotReply only (inl e) = absurd cc
no-reply question octets it begins reply.OtherQuestion only (inl e) = absurd cc
no-reply question octets it begins reply.Truncated only (inl e) = absurd cc
no-reply question octets it begins (reply.ServerFault code) only (inl e) = absurd cc

-- ---- the message decides

module _ (one : (bytes : List ℕ) (end end' : ℕ) (message message' : Message) → Spells (take end bytes) message
    → Spells (take end' bytes) message' → message ≡ message') (question : Question) (octets : List ℕ) (it : Message)
    (begins : Begins octets it) where
  same : (other : Message) → Begins octets other → other ≡ it
  same other there = one octets there.end begins.end other it there.spelled begins.spelled

  pub taken-is : (found : AnswerValue) → Answers question octets found → (reply_refusal question it ≡ None) × (found ≡ answer question it)
  taken-is found answers =
      let is = same answers.it answers.begins in
      (rw is at answers.taken, rw is at answers.is)

  pub refused-is : (resolution : Resolution) (refusal : LocatorRefusal) → resolution ≡ need question → Refuses resolution octets refusal
      → (refusal ≡ locator.Memory) ⊎ ((fault : ReplyRefusal) × (refusal ≡ locator.Reply fault) × (reply_refusal question it ≡ Some fault))
  refused-is resolution locator.NothingAsked asked refuses = absurd (refuses question asked)
  refused-is resolution (locator.Message message.TooLong) asked refuses =
      let long = refuses.1 in let short = begins.short in absurd (omega arith)
  refused-is resolution (locator.Message (message.Malformed part)) asked refuses = absurd (refuses.1.2 it begins)
  refused-is resolution (locator.Message message.Memory) asked refuses = absurd refuses.1
  refused-is resolution (locator.Reply fault) asked refuses =
      let is = same refuses.2.it refuses.2.begins in
      let same-question : refuses.0 ≡ question = let both = sym refuses.1 ∙ asked in cc in
      inr (fault, refl, rw (is, same-question) at refuses.2.fault)
  refused-is resolution locator.Memory asked refuses = inl refl
