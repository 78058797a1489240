use Rattle.std.proofs.Common.{ℕ, List}
use Rattle.ip_text.specs.Addresses.{AddressText}
use Rattle.ip_text.specs.declared.address.Address.TheVariants.{V6}
use Rattle.dns_zone.proofs.Texts.{one_is}
use Rattle.dns_zone.proofs.rdata.ipv6.Goals as goal

pub returns-in-Some-V6-clause-read : goal.returns-in-Some-V6-clause-read
returns-in-Some-V6-clause-read c = λ octets is.
    let read = c.in-Some-V6.ensures.read (V6 octets) (one_is (λ (text : List ℕ). AddressText text (V6 octets)) c.args.fields.now is) in
    cc

pub returns-in-Some-V4-clause-read : goal.returns-in-Some-V4-clause-read
returns-in-Some-V4-clause-read c = λ octets is.
    let read = c.in-Some-V4.ensures.read (V6 octets) (one_is (λ (text : List ℕ). AddressText text (V6 octets)) c.args.fields.now is) in
    absurd cc

pub returns-in-None-clause-read : goal.returns-in-None-clause-read
returns-in-None-clause-read c = λ octets is.
    let read = c.in-None.ensures.read (V6 octets) (one_is (λ (text : List ℕ). AddressText text (V6 octets)) c.args.fields.now is) in
    absurd cc
