-- How targets are pinged, as the words of the command line say.
use Rattle.std.specs.Prelude.{◌≡◌, ◌⊎◌, ℕ, Bool, true, false, List, Option, Some, None, codes}
use Rattle.clap.specs.Matches.{found_of, one_text}
use Rattle.clap.specs.declared.parser.matches.ArgMatches.{ArgMatches}
use Rattle.sip_tries.specs.declared.tries.Extent.{Extent}
use Rattle.sip_tries.specs.declared.tries.Extent.TheVariants.{UntilThere, All as EachOne}
use Rattle.sipwhere_options.specs.Flags.{IsFlag, NumberText, SpellsNothing}
use Rattle.sipwhere_options.specs.declared.pinging.Pinging.{Pinging}

-- how far targets are tried, by whether all are
abbrev pub extent_for : Bool → Extent
extent_for true = EachOne
extent_for false = UntilThere

-- how often a request may be sent on: not at all where the server itself is to answer (RFC 3261 11)
abbrev pub max_forwards_for : Bool → ℕ
max_forwards_for true = 0
max_forwards_for false = 70

-- the milliseconds that a final reply is waited for: 4,000 where the words say nothing
abbrev pub IsWait : Option (List ℕ) → ℕ → Type 0
IsWait None wait = wait ≡ 4000
IsWait (Some word) wait =
    NumberText 32 word wait ⊎ (SpellsNothing (NumberText 32) word × (wait ≡ 4000))

-- targets are pinged as the options beside `--ping` say
pub record ArePings (matches : ArgMatches) (pinging : Pinging) : Type 0 where
  pub all : Bool
  pub all_given : IsFlag matches (codes "all") all
  pub extent : pinging.extent ≡ extent_for all
  pub hop : Bool
  pub hop_given : IsFlag matches (codes "hop") hop
  pub forwards : pinging.form.max_forwards ≡ max_forwards_for hop
  pub wait : IsWait (one_text (found_of matches) (codes "wait")) pinging.form.wait

-- targets are pinged exactly where `--ping` is given
abbrev pub IsPinging : ArgMatches → Option Pinging → Type 0
IsPinging matches None = IsFlag matches (codes "ping") false
IsPinging matches (Some pinging) = IsFlag matches (codes "ping") true × ArePings matches pinging
