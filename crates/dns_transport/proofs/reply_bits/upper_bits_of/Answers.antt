use Rattle.std.proofs.Common.{◌≡◌, refl, sym, ap, ◌∙◌}
use Rattle.dns_message.specs.Messages.{Begins}
use Rattle.dns_message.specs.declared.message.Message.{Message}
use Rattle.dns_transport.specs.ReplyBits.{upper_bits}
use Rattle.dns_transport.proofs.reply_bits.upper_bits_of.Goals as goal

pub returns-in-Some : goal.returns-in-Some
returns-in-Some c =
    let octets = c.args.message.now in
    let found = c.in-Some.message in
    let begins : Begins octets found = rw c.in-Some.is at c.in_ok-message.ensures.read in
    let told : c.upper_bits.result ≡ upper_bits found.additional =
    c.upper_bits.ensures ∙ ap upper_bits c.as_slice.ensures in record {
      is = λ it it-begins.
          let same : it ≡ found =
          c.law_one_message_in_front.ensures octets it-begins.end begins.end it found it-begins.spelled begins.spelled in
          told ∙ ap (λ (message : Message). upper_bits message.additional) (sym same);
      none = λ none. absurd (none found begins);
    }

pub returns-in-None : goal.returns-in-None
returns-in-None c =
    let none : (found : Message) → Begins c.args.message.now found → ⊥ = rw c.in-None.is at c.in_ok-message.ensures.read in record {
      is = λ it begins. absurd (none it begins);
      none = λ _. refl;
    }
