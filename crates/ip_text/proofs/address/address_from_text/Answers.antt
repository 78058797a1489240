use Rattle.std.proofs.Common.{sym}
use Rattle.ip_text.proofs.V4Texts.{ipv4_read}
use Rattle.ip_text.proofs.V6Texts.{ipv6_read}
use Rattle.ip_text.proofs.AddressTexts.{of_ipv4, of_ipv6, of_nothing}
use Rattle.ip_text.proofs.address.address_from_text.Goals as goal

pub returns-in_err-ipv6-in-None-clause-read : goal.returns-in_err-ipv6-in-None-clause-read
returns-in_err-ipv6-in-None-clause-read c = λ address is.
    absurd (of_nothing c.args.text.now (rw c.as_bytes-text.ensures.value at (sym c.in-None.ensures))
    (rw c.as_bytes-text.ensures.value at (sym c.in_err-ipv6-in-None.ensures)) address is)

pub returns-in-Some-clause-found : goal.returns-in-Some-clause-found
returns-in-Some-clause-found c = ipv4_read c.args.text.now c.in-Some.octets (rw c.as_bytes-text.ensures.value at (sym c.in-Some.ensures))

pub returns-in-Some-clause-read : goal.returns-in-Some-clause-read
returns-in-Some-clause-read c =
    λ address is. of_ipv4 c.args.text.now c.in-Some.octets (rw c.as_bytes-text.ensures.value at (sym c.in-Some.ensures)) address is

pub returns-in_ok-ipv6-in-None-clause-found : goal.returns-in_ok-ipv6-in-None-clause-found
returns-in_ok-ipv6-in-None-clause-found c =
    ipv6_read c.args.text.now c.in_ok-ipv6-in-None.field-0 (rw c.as_bytes-text.ensures.value at (sym c.in_ok-ipv6-in-None.ensures))

pub returns-in_ok-ipv6-in-None-clause-read : goal.returns-in_ok-ipv6-in-None-clause-read
returns-in_ok-ipv6-in-None-clause-read c = λ address is.
    of_ipv6 c.args.text.now c.in_ok-ipv6-in-None.field-0 (rw c.as_bytes-text.ensures.value at (sym c.in-None.ensures))
    (rw c.as_bytes-text.ensures.value at (sym c.in_ok-ipv6-in-None.ensures)) address is
