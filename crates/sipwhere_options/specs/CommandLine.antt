-- What the words of the command line say: the options of a run.
use Rattle.std.specs.Prelude.{◌≡◌, ◌≢◌, ◌⊎◌, ◌≤◌, ◌++◌, ℕ, Bool, true, false, not}
use Rattle.std.specs.Prelude.{List, [], ◌∷◌, length, drop, map, replicate, codes, if◌then◌else◌, ⊤}
use Rattle.std.specs.Prelude.{Option, Some, None, option_map, Ok}
use Rattle.std.specs.List.{AllZip, Any}
use Rattle.std.specs.Option.{option_map_or}
use Rattle.std.specs.Str.{bytes_eq}
use Rattle.std.specs.Net.Grammar.{IsIpText}
use Rattle.clap.specs.Matches.{found_of, first_value, matched_of, one_text, raw_values}
use Rattle.clap.specs.declared.parser.matches.ArgMatches.{ArgMatches}
use Rattle.hex.specs.Hex.{decode_sized}
use Rattle.sip_uri.specs.declared.transport.Transport.{Transport}
use Rattle.sip_uri.specs.declared.transport.Transport.TheVariants.{Udp, Tcp, Tls, Sctp}
use Rattle.sip_selection.specs.Callers.{AreOffered, CapsValue, IsTooLarge, without_udp}
use Rattle.sip_selection.specs.declared.caps.Families.{Families}
use Rattle.sip_selection.specs.declared.caps.Families.TheVariants.{V4, V6, V4ThenV6, V6ThenV4}
use Rattle.sipwhere_options.specs.Flags.{IsFlag, NumberText, SpellsNothing}
use Rattle.sipwhere_options.specs.Pings.{IsPinging}
use Rattle.sipwhere_options.specs.Servers.{ServerText}
use Rattle.sipwhere_options.specs.Terminals.{form_for, shows_progress}
use Rattle.sipwhere_options.specs.declared.options.OptionFault.{OptionFault}
use Rattle.sipwhere_options.specs.declared.options.OptionFault.TheVariants as fault
use Rattle.sip_report.specs.declared.check_limits.CheckLimits.{CheckLimits}
use Rattle.sipwhere_options.specs.declared.options.Detail.{Detail}
use Rattle.sipwhere_options.specs.declared.options.Options.{Options}
use Rattle.sipwhere_options.specs.declared.options.Timing.{Timing}
use Rattle.sip_report.specs.declared.report.Report.{Report}
use Rattle.sip_report.specs.declared.report.Report.TheVariants.{Lines, Json, Check, Metrics}
use Rattle.sip_report.specs.declared.report.Style.{Style}
use Rattle.sipwhere_options.specs.declared.terminals.Terminals.{Terminals}

-- ---- the words of an option

-- the words of an option, in the order in which they were given
abbrev pub words_of : ArgMatches → List ℕ → List (List ℕ)
words_of matches name = option_map_or raw_values (matched_of (found_of matches) name) []

-- the first word of an option
abbrev pub word_of : ArgMatches → List ℕ → Option (List ℕ)
word_of matches name = first_value (found_of matches) name

-- ---- what a word says

-- the transport of a word
abbrev pub transport_of : List ℕ → Option Transport
transport_of word =
    if bytes_eq word (codes "udp") then Some Udp else
    (if bytes_eq word (codes "tcp") then Some Tcp else
    (if bytes_eq word (codes "tls") then Some Tls else
    (if bytes_eq word (codes "sctp") then Some Sctp else None)))

-- the families of addresses of a word, in their order
abbrev pub families_of : List ℕ → Option Families
families_of word =
    if bytes_eq word (codes "4") then Some V4 else
    (if bytes_eq word (codes "6") then Some V6 else
    (if bytes_eq word (codes "46") then Some V4ThenV6 else
    (if bytes_eq word (codes "64") then Some V6ThenV4 else None)))

-- the same of an option that may be absent: addresses of both families then
abbrev pub families_or_both : Option (List ℕ) → Option Families
families_or_both None = Some V4ThenV6
families_or_both (Some word) = families_of word

-- 64 digits of which these are the first ones, and the others are 0
abbrev pub in_front_of_zeros : List ℕ → List ℕ
in_front_of_zeros digits = digits ++ drop (length digits) (replicate 64 48)

-- 1 to 64 hexadecimal digits are the first ones of a key of 32 octets, and its others are 0
pub record SeedText (text key : List ℕ) : Type 0 where
  pub least : 1 ≤ length text
  pub most : length text ≤ 64
  pub digits : decode_sized (in_front_of_zeros text) 32 ≡ Ok key

-- an option that may be absent, by what its word has to spell
abbrev pub Says : {T : Type 0} → (List ℕ → T → Type 0) → Option (List ℕ) → Option T → Type 0
Says Spells None None = ⊤
Says Spells None (Some it) = ⊥
Says Spells (Some word) (Some it) = Spells word it
Says Spells (Some word) None = ⊥

-- the same, where a word that spells nothing counts as none
abbrev pub MaySay : {T : Type 0} → (List ℕ → T → Type 0) → Option (List ℕ) → Option T → Type 0
MaySay {T} Spells None it = it ≡ None
MaySay {T} Spells (Some word) (Some it) = Spells word it
MaySay {T} Spells (Some word) None = (it : T) → Spells word it → ⊥

-- the word of an option spells nothing
abbrev pub SaysNothing : {T : Type 0} → (List ℕ → T → Type 0) → Option (List ℕ) → Type 0
SaysNothing Spells None = ⊥
SaysNothing Spells (Some word) = SpellsNothing Spells word

-- the milliseconds that one text may take: 10,000 where the words say nothing
abbrev pub IsTotal : Option (List ℕ) → ℕ → Type 0
IsTotal None total = total ≡ 10000
IsTotal (Some word) total =
    NumberText 32 word total ⊎ (SpellsNothing (NumberText 32) word × (total ≡ 10000))

-- a word is a transport
abbrev pub IsTransport : List ℕ → Transport → Type 0
IsTransport word transport = transport_of word ≡ Some transport

-- a word is no transport
abbrev pub IsNoTransport : List ℕ → Type 0
IsNoTransport word = transport_of word ≡ None

-- words are transports that a sender can have: one to four, none twice
pub record AreTransports (words : List (List ℕ)) (transports : List Transport) : Type 0 where
  pub spelled : AllZip IsTransport words transports
  pub offered : AreOffered transports

-- words are transports, but not ones that a sender can have
pub record AreNotOffered (words : List (List ℕ)) : Type 0 where
  pub transports : List Transport
  pub spelled : AllZip IsTransport words transports
  pub refused : AreOffered transports → ⊥

-- what can be sent of any request, by the words of transports and families, and whether records
-- that tie come in one fixed order (RFC 3263 4.4)
pub record AreNamed (matches : ArgMatches) (caps : CapsValue) : Type 0 where
  pub transports : AreTransports (words_of matches (codes "transports")) caps.transports
  pub families : families_or_both (word_of matches (codes "families")) ≡ Some caps.families
  pub any : caps.is_large ≡ false
  pub fixed : IsFlag matches (codes "fixed-order") caps.is_fixed

-- What can be sent of requests of a length, where it is given: without UDP where they are too large
-- for it (RFC 3261 18.1.1), and else the same. The path's MTU is not known.
abbrev pub IsSized : Option ℕ → CapsValue → CapsValue → Type 0
IsSized None caps sized = sized ≡ caps
IsSized (Some octets) caps sized =
    ((IsTooLarge octets None → ⊥) → sized ≡ caps)
    × (IsTooLarge octets None → sized
    ≡ record caps { transports = without_udp caps.transports; is_large = true })

-- requests of a length are too large for UDP, and there is no other transport
abbrev pub HasNoTransport : Option ℕ → CapsValue → Type 0
HasNoTransport None caps = ⊥
HasNoTransport (Some octets) caps =
    IsTooLarge octets None × (AreOffered (without_udp caps.transports) → ⊥)

-- the length of requests, as a number of 32 bits, where words say it
abbrev pub IsLength : ArgMatches → Option ℕ → Type 0
IsLength matches octets =
    MaySay (NumberText 32) (one_text (found_of matches) (codes "length")) octets

-- what can be sent; whether records that tie come in one fixed order is as the word says, whatever
-- the length
pub record AreCaps (matches : ArgMatches) (caps : CapsValue) : Type 0 where
  pub named : CapsValue
  pub are_named : AreNamed matches named
  pub octets : Option ℕ
  pub given : IsLength matches octets
  pub sized : IsSized octets named caps
  pub fixed : IsFlag matches (codes "fixed-order") caps.is_fixed

-- nothing can be sent, since requests are too large
pub record AreTooLarge (matches : ArgMatches) : Type 0 where
  pub named : CapsValue
  pub are_named : AreNamed matches named
  pub octets : Option ℕ
  pub given : IsLength matches octets
  pub none : HasNoTransport octets named

-- ---- the options of a run

-- what is printed of a text: one line for a monitoring system, metrics, an object of JSON, or lines
abbrev pub IsReport : ArgMatches → Report → Type 0
IsReport matches Check = IsFlag matches (codes "check") true
IsReport matches Metrics =
    IsFlag matches (codes "check") false × IsFlag matches (codes "metrics") true
IsReport matches Json = IsFlag matches (codes "check") false
    × IsFlag matches (codes "metrics") false × IsFlag matches (codes "json") true
IsReport matches Lines = IsFlag matches (codes "check") false
    × IsFlag matches (codes "metrics") false × IsFlag matches (codes "json") false

-- what a check holds targets to: bounds as numbers of 32 bits, and a target that is expected
pub record AreLimits (matches : ArgMatches) (limits : CheckLimits) : Type 0 where
  pub warning_time : MaySay (NumberText 32) (one_text (found_of matches) (codes "warning"))
      limits.warning.time
  pub warning_targets : MaySay (NumberText 32)
      (one_text (found_of matches) (codes "warning-targets")) limits.warning.targets
  pub critical_time : MaySay (NumberText 32) (one_text (found_of matches) (codes "critical"))
      limits.critical.time
  pub critical_targets : MaySay (NumberText 32)
      (one_text (found_of matches) (codes "critical-targets")) limits.critical.targets
  pub expected : option_map (λ word. word.now) limits.expected ≡ word_of matches (codes "expect")

-- how long each query is waited for, and how often each question is sent, where words say so: as
-- numbers of 32 bits
pub record AreTimings (matches : ArgMatches) (timing : Timing) : Type 0 where
  pub timeout : MaySay (NumberText 32) (one_text (found_of matches) (codes "timeout"))
      timing.timeout
  pub tries : MaySay (NumberText 32) (one_text (found_of matches) (codes "tries")) timing.tries

-- what is printed beside what became of a text: queries, names, how targets came, and how often
-- each came first in so many draws, a number of 32 bits
pub record IsDetail (matches : ArgMatches) (detail : Detail) : Type 0 where
  pub traced : IsFlag matches (codes "trace") detail.traced
  pub verbose : IsFlag matches (codes "verbose") detail.verbose
  pub explains : IsFlag matches (codes "explain") detail.explains
  pub draws : MaySay (NumberText 32) (one_text (found_of matches) (codes "repeat")) detail.draws

-- one text, and not the lines of the input
abbrev pub IsOneText : List (List ℕ) → Type 0
IsOneText [] = ⊥
IsOneText (text ∷ []) = text ≢ codes "-"
IsOneText (text ∷ other ∷ others) = ⊥

-- texts can be reported so: a check is of one text, and so are metrics
abbrev pub CanReport : Report → List (List ℕ) → Type 0
CanReport Check texts = IsOneText texts
CanReport Metrics texts = IsOneText texts
CanReport Lines texts = ⊤
CanReport Json texts = ⊤

-- the options are those that the words of the command line say
pub record AreOptions (matches : ArgMatches) (terminals : Terminals) (options : Options) : Type 0
  where
    pub servers : AllZip ServerText (words_of matches (codes "server")) options.servers.items
    pub resolver_file : option_map (λ file. file.now) options.resolver_file
        ≡ word_of matches (codes "resolver-file")
    pub over_tcp : IsFlag matches (codes "tcp") options.over_tcp
    pub local : Says IsIpText (word_of matches (codes "bind")) options.local
    pub recursion : IsFlag matches (codes "norecurse") (not options.query_form.recursion)
    pub edns : MaySay (NumberText 16) (one_text (found_of matches) (codes "edns"))
        options.query_form.edns
    pub caps : AreCaps matches options.caps
    pub by_sent_by : IsFlag matches (codes "sent-by") options.by_sent_by
    pub timing : AreTimings matches options.timing
    pub total : IsTotal (one_text (found_of matches) (codes "total")) options.total
    pub seed : Says SeedText (word_of matches (codes "seed")) options.seed
    pub report : IsReport matches options.report
    pub can_report : CanReport options.report (words_of matches (codes "uri"))
    pub limits : AreLimits matches options.limits
    pub short : Bool
    pub short_given : IsFlag matches (codes "short") short
    pub form : options.form ≡ form_for short options.report terminals
    pub detail : IsDetail matches options.detail
    pub stats : IsFlag matches (codes "stats") options.stats
    pub pinging : IsPinging matches options.pinging
    pub progress : options.shows_progress ≡ shows_progress terminals
    pub texts : map (λ text. text.now) options.texts.items ≡ words_of matches (codes "uri")

-- the style in which what became of texts is printed is that of the options
pub record IsStyle (options : Options) (several : Bool) (style : Style) : Type 0 where
  pub report : style.report ≡ options.report
  pub limits : style.limits ≡ options.limits
  pub form : style.form ≡ options.form
  pub front : style.several ≡ several
  pub traced : style.traced ≡ options.detail.traced
  pub verbose : style.verbose ≡ options.detail.verbose
  pub explains : style.explains ≡ options.detail.explains

-- why the words say no options
abbrev pub IsFault : ArgMatches → OptionFault → Type 0
IsFault matches fault.Server = Any (SpellsNothing ServerText) (words_of matches (codes "server"))
IsFault matches fault.Local = SaysNothing IsIpText (word_of matches (codes "bind"))
IsFault matches fault.Families = families_or_both (word_of matches (codes "families")) ≡ None
IsFault matches fault.Transports =
    Any IsNoTransport (words_of matches (codes "transports"))
    ⊎ AreNotOffered (words_of matches (codes "transports"))
IsFault matches fault.Length = AreTooLarge matches
IsFault matches fault.Seed = SaysNothing SeedText (word_of matches (codes "seed"))
IsFault matches fault.OneText = (IsReport matches Check ⊎ IsReport matches Metrics)
    × (IsOneText (words_of matches (codes "uri")) → ⊥)
IsFault matches fault.Memory = ⊤
