-- The octets of the classes that the readers know.
use Rattle.std.specs.Prelude.{ℕ, ◌==◌, Bool}
use Rattle.std.specs.Char.{is_ascii_digit}
use Rattle.sip_options.specs.Heads.{is_token_octet}
use Rattle.sip_options.specs.Texts.{is_white, is_in_line}
use Rattle.sip_options.specs.declared.class.Class.{Class}
use Rattle.sip_options.specs.declared.class.Class.TheVariants.{White, InLine, Token, Zero, Digit}

-- the octets of a class
abbrev pub octets_of : Class → ℕ → Bool
octets_of White octet = is_white octet
octets_of InLine octet = is_in_line octet
octets_of Token octet = is_token_octet octet
octets_of Zero octet = octet == 48
octets_of Digit octet = is_ascii_digit octet
