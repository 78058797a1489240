use Rattle.std.proofs.Common.{◌∙◌, append_assoc}
use Rattle.std.proofs.lemmas.Result.{on_ok_weaker}
use Rattle.dns_message.specs.Written.{soa_octets}
use Rattle.dns_message.proofs.message_writer.push_soa.Goals as goal

pub returns : goal.returns
unfolding soa_octets
returns c =
    on_ok_weaker c.push_u32-5.result
    (λ e. e ∙ rw (
      c.in_ok-push_u32-4.ensures,
      c.in_ok-push_u32-3.ensures,
      c.in_ok-push_u32-2.ensures,
      c.in_ok-push_u32.ensures,
      c.in_ok-push_name-2.ensures,
      c.in_ok-push_name.ensures,
    ) (simp append_assoc)) c.push_u32-5.ensures
