-- Addresses in words.
use Rattle.std.specs.Prelude.{ℕ, List}
use Rattle.std.specs.Net.Addr.{segments_of}
use Rattle.std.specs.Net.Text.{ipv6_text}
use Rattle.ip_text.specs.Shown.{address_text}
use Rattle.ip_text.specs.declared.address.Address.{Address}
use Rattle.ip_text.specs.declared.address.Address.TheVariants.{V4, V6}
use Rattle.sip_report.specs.declared.address.AddressForm.{AddressForm}
use Rattle.sip_report.specs.declared.address.AddressForm.TheVariants.{Full, Short}

-- the longest run of groups that are 0 is `::`, of two such runs the first, and one group alone is
-- none; an IPv4-mapped address ends in its IPv4 address (RFC 5952 4 and 5)
abbrev pub short_ipv6 : List ℕ → List ℕ
short_ipv6 octets = ipv6_text (segments_of octets)

-- the text of an address in a form: of IPv6 eight groups, or the short text (RFC 5952 4, 5)
abbrev pub address_words : AddressForm → Address → List ℕ
address_words form (V4 octets) = address_text (V4 octets)
address_words Full (V6 octets) = address_text (V6 octets)
address_words Short (V6 octets) = short_ipv6 octets
