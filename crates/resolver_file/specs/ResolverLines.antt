-- The lines of the system's resolver file, and what they say (resolv.conf(5)).
use Rattle.std.specs.Prelude.{◌≡◌, ℕ, ◌==◌, min, max, Bool, true, false, ◌||◌, not, List, [], ◌∷◌, length, take, drop, codes, Option, Some, None, if◌then◌else◌}
use Rattle.std.specs.Char.{is_ascii_digit}
use Rattle.std.specs.List.{filter, filter_map, list_all, list_any, slice_split}
use Rattle.std.specs.Str.{IsUtf8, bytes_eq}
use Rattle.ip_text.specs.Addresses.{AddressText}
use Rattle.ip_text.specs.Numbers.{decimal}
use Rattle.ip_text.specs.declared.address.Address.{Address}
use Rattle.resolver_file.specs.declared.resolver_fact.Fact.{Fact}
use Rattle.resolver_file.specs.declared.resolver_fact.Fact.TheVariants.{Server, Timeout, Attempts, OverTcp, Rotate, Fault}
use Rattle.resolver_file.specs.declared.warning.LineFault.{LineFault}
use Rattle.resolver_file.specs.declared.warning.LineFault.TheVariants.{NoKeyword, Indented, NoAddress, BadAddress, ScopedAddress, BadNumber}

-- ---- lines and words

-- the lines of a text, which line feeds part
abbrev pub lines_of : List ℕ → List (List ℕ)
lines_of text = slice_split (λ octet. octet == 10) text

-- an octet is a space, a tab or a carriage return
abbrev pub is_blank : ℕ → Bool
is_blank octet = octet == 32 || octet == 9 || octet == 13

-- a text is a word: it is not empty
abbrev pub is_word : List ℕ → Bool
is_word [] = false
is_word (first ∷ others) = true

-- the words of a line: its runs of octets between blanks
abbrev pub words_of : List ℕ → List (List ℕ)
words_of line = filter is_word (slice_split is_blank line)

-- a line is a comment: `#` or `;` is in the first column
abbrev pub is_comment : List ℕ → Bool
is_comment [] = false
is_comment (first ∷ others) = first == 35 || first == 59

-- a line is indented: a blank is in the first column
abbrev pub is_indented : List ℕ → Bool
is_indented [] = false
is_indented (first ∷ others) = is_blank first

-- ---- what a line is

-- what a line is: one that says nothing, a server, options, or one that can't be read
pub data LineForm : Type 0 where
  -- it says nothing
  nothing : LineForm
  -- a name server, by a word
  server : List ℕ → LineForm
  -- these options
  options : List (List ℕ) → LineForm
  -- it can't be read
  faulty : LineFault → LineForm

-- a keyword of lines that say nothing where names are absolute
abbrev pub is_unused : List ℕ → Bool
is_unused keyword =
    bytes_eq keyword (codes "domain") || bytes_eq keyword (codes "search")
    || bytes_eq keyword (codes "sortlist")

-- what a line of `nameserver` is, by the word after it; further words count for nothing
abbrev pub server_form : List (List ℕ) → LineForm
server_form [] = faulty NoAddress
server_form (word ∷ others) = server word

-- what a line is, by its keyword and its other words
abbrev pub keyword_form : List ℕ → List (List ℕ) → LineForm
keyword_form keyword words =
    if bytes_eq keyword (codes "nameserver") then server_form words else
    (if bytes_eq keyword (codes "options") then options words else
    (if is_unused keyword then nothing else faulty NoKeyword))

-- what a line is, by whether it is indented and by its words
abbrev pub words_form : Bool → List (List ℕ) → LineForm
words_form indented [] = nothing
words_form true (keyword ∷ words) = faulty Indented
words_form false (keyword ∷ words) = keyword_form keyword words

-- what a line is; a comment says nothing
abbrev pub line_form : List ℕ → LineForm
line_form line = if is_comment line then nothing else words_form (is_indented line) (words_of line)

-- ---- what words say

-- a word is no text of an address
abbrev pub IsNoAddress : List ℕ → Type 0
IsNoAddress word = (address : Address) → IsUtf8 word → AddressText word address → ⊥

-- the address of a word, or that it is none
abbrev pub ReadsAddress : List ℕ → Option Address → Type 0
ReadsAddress word (Some address) = IsUtf8 word × AddressText word address
    × ((other : Address) → AddressText word other → other ≡ address)
ReadsAddress word None = IsNoAddress word

-- a word has a `%`, as an IPv6 address with a zone has (RFC 4007 11)
abbrev pub has_percent : List ℕ → Bool
has_percent word = list_any (λ octet. octet == 37) word

-- what a line of `nameserver` says: the address that its word spells, or a fault, which is that of
-- an address with a scope where the word has a `%`
abbrev pub ServerSays : List ℕ → Fact → Type 0
ServerSays word (Server address) = IsUtf8 word × AddressText word address
ServerSays word (Fault ScopedAddress) = IsNoAddress word × (has_percent word ≡ true)
ServerSays word (Fault BadAddress) = IsNoAddress word × (has_percent word ≡ false)
ServerSays word _ = ⊥

-- what follows other octets in a word that begins with them
abbrev pub behind : List ℕ → List ℕ → Option (List ℕ)
behind front word =
    if bytes_eq (take (length front) word) front then Some (drop (length front) word) else None

-- the number that one or more decimal digits spell, capped at the limit, and at least 1
abbrev pub capped : ℕ → List ℕ → Option ℕ
capped limit text =
    if length text == 0 || not (list_all is_ascii_digit text)
    then None else Some (max (min (decimal text) limit) 1)

-- what a number says, where there is one
abbrev pub number_fact : (ℕ → Fact) → Option ℕ → Fact
number_fact fact None = Fault BadNumber
number_fact fact (Some number) = fact number

-- what the option `rotate` says: that each query begins with the next server
abbrev pub rotate_fact : List ℕ → Option Fact
rotate_fact word = if bytes_eq word (codes "rotate") then Some Rotate else None

-- what an option says: `use-vc` that queries go over TCP; else what `rotate_fact` says
abbrev pub use_vc_fact : List ℕ → Option Fact
use_vc_fact word = if bytes_eq word (codes "use-vc") then Some OverTcp else rotate_fact word

-- what an option says: after `attempts:` how often each server is asked, from 1 to 5; else what
-- `use_vc_fact` says
abbrev pub attempts_fact : Option (List ℕ) → List ℕ → Option Fact
attempts_fact (Some text) word = Some (number_fact Attempts (capped 5 text))
attempts_fact None word = use_vc_fact word

-- what an option says: after `timeout:` for how many seconds a reply is waited for, from 1 to 30;
-- else what `attempts_fact` says
abbrev pub timeout_fact : Option (List ℕ) → List ℕ → Option Fact
timeout_fact (Some text) word = Some (number_fact Timeout (capped 30 text))
timeout_fact None word = attempts_fact (behind (codes "attempts:") word) word

-- what an option says: `timeout:` or `attempts:` with a number, `use-vc` or `rotate`; others say
-- nothing
abbrev pub option_fact : List ℕ → Option Fact
option_fact word = timeout_fact (behind (codes "timeout:") word) word

-- ---- what lines say

-- what a line of a form says
abbrev pub FormSays : LineForm → List Fact → Type 0
FormSays nothing facts = facts ≡ []
FormSays (server word) facts = (fact : Fact) × (facts ≡ fact ∷ []) × ServerSays word fact
FormSays (options words) facts = facts ≡ filter_map option_fact words
FormSays (faulty fault) facts = facts ≡ Fault fault ∷ []

-- what a line says, as a list of facts
abbrev pub LineSays : List ℕ → List Fact → Type 0
LineSays line facts = FormSays (line_form line) facts
