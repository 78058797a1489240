use Rattle.std.proofs.Common.{◌∙◌, append_assoc}
use Rattle.std.proofs.lemmas.Result.{on_ok_weaker}
use Rattle.dns_message.specs.Written.{soa_octets}
use Rattle.dns_message.proofs.soa.push_soa.Goals as goal

pub returns-clause-ok : goal.returns-clause-ok
unfolding soa_octets
returns-clause-ok c =
    on_ok_weaker c.push_u32-5.result
    (λ e. e ∙ rw (
      c.in_ok-push_u32-4.ensures.ok,
      c.in_ok-push_u32-3.ensures.ok,
      c.in_ok-push_u32-2.ensures.ok,
      c.in_ok-push_u32.ensures.ok,
      c.in_ok-push_name-2.ensures.ok,
      c.in_ok-push_name.ensures.ok,
    ) (simp append_assoc)) c.push_u32-5.ensures.ok

pub returns-clause-fits : goal.returns-clause-fits
returns-clause-fits c = on_ok_weaker c.push_u32-5.result (λ e. record {
  mname = c.in_ok-push_name.ensures.fits;
  rname = c.in_ok-push_name-2.ensures.fits;
  serial = c.in_ok-push_u32.ensures.fits;
  refresh = c.in_ok-push_u32-2.ensures.fits;
  retry = c.in_ok-push_u32-3.ensures.fits;
  expire = c.in_ok-push_u32-4.ensures.fits;
  minimum = c.push_u32-5.ensures.fits;
}) c.push_u32-5.ensures.ok
