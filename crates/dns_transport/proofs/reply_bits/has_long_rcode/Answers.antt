use Rattle.std.proofs.Common.{◌≡◌, sym, ap, ◌∙◌}
use Rattle.std.specs.List.{list_any}
use Rattle.dns_message.specs.Messages.{Begins}
use Rattle.dns_message.specs.declared.message.Message.{Message}
use Rattle.dns_transport.specs.ReplyBits.{has_upper_bits}
use Rattle.dns_transport.proofs.reply_bits.has_long_rcode.Goals as goal

pub returns-in-Some : goal.returns-in-Some
returns-in-Some c =
    let octets = c.args.message.now in
    let found = c.in-Some.message in
    let begins : Begins octets found = rw c.in-Some.is at c.in_ok-message.ensures.read in
    let told : c.have_upper_bits.result ≡ list_any has_upper_bits found.additional =
    c.have_upper_bits.ensures ∙ ap (list_any has_upper_bits) c.as_slice.ensures in (
      λ is. record { message = found; begins = begins; upper = sym told ∙ is },
      λ it.
          let same : it.message ≡ found =
          c.law_one_message_in_front.ensures octets it.begins.end begins.end it.message found it.begins.spelled begins.spelled in
          told ∙ ap (λ (message : Message). list_any has_upper_bits message.additional) (sym same) ∙ it.upper,
    )

pub returns-in-None : goal.returns-in-None
returns-in-None c = (
  λ is. absurd cc,
  λ it.
      let none : (found : Message) → Begins c.args.message.now found → ⊥ = rw c.in-None.is at c.in_ok-message.ensures.read in
      absurd (none it.message it.begins),
)
