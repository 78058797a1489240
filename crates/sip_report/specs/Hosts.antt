-- Hosts in words, as a certificate names them.
use Rattle.std.specs.Prelude.{ℕ, List}
use Rattle.dns_name.specs.Texts.{text_of, without_closing_dot}
use Rattle.ip_text.specs.declared.address.Address.TheVariants as address
use Rattle.sip_uri.specs.declared.host.Host.{Host}
use Rattle.sip_uri.specs.declared.host.Host.TheVariants.{V4, V6, Domain}
use Rattle.sip_report.specs.Addresses.{address_words}
use Rattle.sip_report.specs.declared.address.AddressForm.{AddressForm}

-- the text of a name, without the dot at its end
abbrev pub name_words : List (List ℕ) → List ℕ
name_words name = without_closing_dot (text_of name)

-- the text of a host, as a certificate is compared with it (RFC 3261 26.3.1): a name without the
-- dot at its end, or an address in a form
abbrev pub host_words : AddressForm → Host → List ℕ
host_words form (V4 octets) = address_words form (address.V4 octets)
host_words form (V6 octets) = address_words form (address.V6 octets)
host_words form (Domain name) = name_words name
