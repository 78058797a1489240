use Rattle.std.proofs.Common.{ℕ, List, arith}
use Rattle.ip_text.specs.Addresses.{AddressText}
use Rattle.ip_text.specs.declared.address.Address.TheVariants.{V4}
use Rattle.dns_zone.proofs.Texts.{one_is, one_text}
use Rattle.dns_zone.proofs.rdata.ipv4.Goals as goal

pub returns-in-Some-V4-clause-found : goal.returns-in-Some-V4-clause-found
returns-in-Some-V4-clause-found c =
    (_, one_text c.args.fields.now (omega arith), rw c.in-Some-V4.field-0-is at c.in-Some-V4.ensures.found)

pub returns-in-Some-V4-clause-read : goal.returns-in-Some-V4-clause-read
returns-in-Some-V4-clause-read c = λ octets is.
    let read = c.in-Some-V4.ensures.read (V4 octets) (one_is (λ (text : List ℕ). AddressText text (V4 octets)) c.args.fields.now is) in
    cc

pub returns-in-Some-V6-clause-read : goal.returns-in-Some-V6-clause-read
returns-in-Some-V6-clause-read c = λ octets is.
    let read = c.in-Some-V6.ensures.read (V4 octets) (one_is (λ (text : List ℕ). AddressText text (V4 octets)) c.args.fields.now is) in
    absurd cc

pub returns-in-None-clause-read : goal.returns-in-None-clause-read
returns-in-None-clause-read c = λ octets is.
    let read = c.in-None.ensures.read (V4 octets) (one_is (λ (text : List ℕ). AddressText text (V4 octets)) c.args.fields.now is) in
    absurd cc
