-- What is said by line, and in all.
use Rattle.std.proofs.Common.{◌≡◌, ◌==◌, ℕ, suc, ◌+◌, ◌<◌, nat_lt, Bool, true, false, ◌||◌, List, [], ◌∷◌, ◌++◌, length, map, take, get_or, Option, Some, None, refl, sym, ap, ◌∙◌, append_assoc, if◌then◌else◌, arith}
use borrow.Author.Tests.{eqb-true}
use Rattle.std.specs.List.{enumerate_from, filter_map, list_any}
use Rattle.std.proofs.lemmas.List.{append-nil, length-take-le, take_all, take_more}
use Rattle.std.proofs.lemmas.List.Elements.{filter_map-append}
use Rattle.std.proofs.lemmas.List.Folds.{list_any-append}
use Rattle.std.proofs.lemmas.List.FromFn.{get_or-enumerate_from, length-enumerate_from}
use Rattle.ip_text.specs.declared.address.Address.{Address}
use Rattle.ip_text.specs.declared.address.Address.TheVariants.{V4}
use Rattle.resolver_file.specs.ResolverFiles.{FileSays, FileValue, LinesSay, Said, at_line, attempts_in, is_over_tcp, is_rotate, last_of, or_local, server_in, timeout_in, value_of, warning_in, with_local}
use Rattle.resolver_file.specs.ResolverLines.{LineSays, lines_of}
use Rattle.resolver_file.specs.Views.{with_fact, with_facts}
use Rattle.resolver_file.specs.declared.resolver_fact.Fact.{Fact}
use Rattle.resolver_file.specs.declared.resolver_fact.Fact.TheVariants.{Server, Timeout, Attempts, OverTcp, Rotate, Fault}

-- ---- one fact more

module _ {Y : Type 0} (h : Said → Option Y) (said : List Said) (it : Said) where
  none_more : h it ≡ None → filter_map h (said ++ it ∷ []) ≡ filter_map h said
  none_more none = filter_map-append h said (it ∷ []) ∙ (rw none (append-nil (filter_map h said)))

  one_more : (y : Y) → h it ≡ Some y → filter_map h (said ++ it ∷ []) ≡ filter_map h said ++ y ∷ []
  one_more y one = filter_map-append h said (it ∷ []) ∙ (rw one refl)

or_false : (is : Bool) → (is || false) ≡ is
or_false true = refl
or_false false = refl

or_true : (is : Bool) → (is || true) ≡ true
or_true true = refl
or_true false = refl

module _ (is_said : Said → Bool) (said : List Said) (it : Said) where
  not_said : is_said it ≡ false → list_any is_said (said ++ it ∷ []) ≡ list_any is_said said
  not_said is = list_any-append is_said said (it ∷ []) ∙ (rw is (or_false (list_any is_said said)))

  now_said : is_said it ≡ true → list_any is_said (said ++ it ∷ []) ≡ true
  now_said is = list_any-append is_said said (it ∷ []) ∙ (rw is (or_true (list_any is_said said)))

last_of-push : (numbers : List ℕ) (last : ℕ) → last_of (numbers ++ last ∷ []) ≡ Some last
last_of-push [] last = refl
last_of-push (number ∷ []) last = refl
last_of-push (number ∷ other ∷ numbers) last = last_of-push (other ∷ numbers) last

first_three : (servers : List Address) (server : Address)
    → (if nat_lt (length (take 3 servers)) 3 then take 3 servers ++ server ∷ [] else take 3 servers) ≡ take 3 (servers ++ server ∷ [])
first_three [] server = refl
first_three (a ∷ []) server = refl
first_three (a ∷ b ∷ []) server = refl
first_three (a ∷ b ∷ c ∷ others) server = refl

chosen : (is : Bool) (file : FileValue) (servers : List Address)
    → (if is then record file { servers = servers } else file) ≡ record file { servers = if is then servers else file.servers }
chosen true file servers = refl
chosen false file servers = refl

with_fact-value : (number : ℕ) (fact : Fact) (said : List Said)
    → with_fact number fact (value_of said) ≡ value_of (said ++ at_line number fact ∷ [])
with_fact-value number (Server server) said =
    let it : Said = at_line number (Server server) in
    chosen (nat_lt (length (take 3 (filter_map server_in said))) 3) (value_of said) (take 3 (filter_map server_in said) ++ server ∷ [])
    ∙ (rw (
      one_more server_in said it server refl,
      none_more timeout_in said it refl,
      none_more attempts_in said it refl,
      not_said is_over_tcp said it refl,
      not_said is_rotate said it refl,
      none_more warning_in said it refl,
      first_three (filter_map server_in said) server,
    ) refl)
with_fact-value number (Timeout seconds) said =
    let it : Said = at_line number (Timeout seconds) in
    rw (
      none_more server_in said it refl,
      one_more timeout_in said it seconds refl,
      last_of-push (filter_map timeout_in said) seconds,
      none_more attempts_in said it refl,
      not_said is_over_tcp said it refl,
      not_said is_rotate said it refl,
      none_more warning_in said it refl,
    ) refl
with_fact-value number (Attempts count) said =
    let it : Said = at_line number (Attempts count) in
    rw (
      none_more server_in said it refl,
      none_more timeout_in said it refl,
      one_more attempts_in said it count refl,
      last_of-push (filter_map attempts_in said) count,
      not_said is_over_tcp said it refl,
      not_said is_rotate said it refl,
      none_more warning_in said it refl,
    ) refl
with_fact-value number OverTcp said =
    let it : Said = at_line number OverTcp in
    rw (
      none_more server_in said it refl,
      none_more timeout_in said it refl,
      none_more attempts_in said it refl,
      now_said is_over_tcp said it refl,
      not_said is_rotate said it refl,
      none_more warning_in said it refl,
    ) refl
with_fact-value number Rotate said =
    let it : Said = at_line number Rotate in
    rw (
      none_more server_in said it refl,
      none_more timeout_in said it refl,
      none_more attempts_in said it refl,
      not_said is_over_tcp said it refl,
      now_said is_rotate said it refl,
      none_more warning_in said it refl,
    ) refl
with_fact-value number (Fault fault) said =
    let it : Said = at_line number (Fault fault) in
    rw (
      none_more server_in said it refl,
      none_more timeout_in said it refl,
      none_more attempts_in said it refl,
      not_said is_over_tcp said it refl,
      not_said is_rotate said it refl,
      one_more warning_in said it (record { line = number; fault = fault }) refl,
    ) refl

-- a line more
with_facts-value : (number : ℕ) (facts : List Fact) (said : List Said)
    → with_facts number facts (value_of said) ≡ value_of (said ++ map (at_line number) facts)
with_facts-value number [] said = ap value_of (sym (append-nil said))
with_facts-value number (fact ∷ facts) said =
    ap (with_facts number facts) (with_fact-value number fact said)
    ∙ with_facts-value number facts (said ++ at_line number fact ∷ [])
    ∙ ap value_of (append_assoc said (at_line number fact ∷ []) (map (at_line number) facts))

-- ---- lines

more_lines : (number last : ℕ) (lines : List (List ℕ)) (line : List ℕ) (said : List Said) (facts : List Fact)
    → last ≡ number + length lines → LinesSay number lines said → LineSays line facts
    → LinesSay number (lines ++ line ∷ []) (said ++ map (at_line last) facts)
more_lines number last [] line said facts is it says =
    let same : last ≡ number = omega (arith, is) in
    (facts, [], rw (it, same) (sym (append-nil (map (at_line number) facts))), says, refl)
more_lines number last (first ∷ lines) line said facts is it says =
    let rest = more_lines (number + 1) last lines line it.1 facts (omega (arith, is)) it.4 says in
    let behind = map (at_line last) facts in (
      it.0,
      it.1 ++ behind,
      ap (λ (all : List Said). all ++ behind) it.2 ∙ append_assoc (map (at_line number) it.0) it.1 behind,
      it.3,
      rest,
    )

-- what lines say is what those before the last one say, and that one
pub record Parted (number last : ℕ) (lines : List (List ℕ)) (line : List ℕ) (all : List Said) : Type 0 where
  pub said : List Said
  pub facts : List Fact
  pub before : LinesSay number lines said
  pub here : LineSays line facts
  pub whole : all ≡ said ++ map (at_line last) facts

parted : (number last : ℕ) (lines : List (List ℕ)) (line : List ℕ) (all : List Said) → last ≡ number + length lines
    → LinesSay number (lines ++ line ∷ []) all → Parted number last lines line all
parted number last [] line all is it =
    let same : last ≡ number = omega (arith, is) in
    record {
      said = [];
      facts = it.0;
      before = refl;
      here = it.3;
      whole = it.2 ∙ (rw (it.4, same) (append-nil (map (at_line number) it.0)));
    }
parted number last (first ∷ lines) line all is it =
    let rest = parted (number + 1) last lines line it.1 (omega (arith, is)) it.4 in
    record {
      said = map (at_line number) it.0 ++ rest.said;
      facts = rest.facts;
      before = (it.0, rest.said, refl, it.3, rest.before);
      here = rest.here;
      whole = it.2 ∙ ap (λ (others : List Said). map (at_line number) it.0 ++ others) rest.whole
          ∙ sym (append_assoc (map (at_line number) it.0) rest.said (map (at_line last) rest.facts));
    }

-- so many lines say something, and the file is what they say
pub record Taken (lines : List (List ℕ)) (count : ℕ) (file : FileValue) : Type 0 where
  pub some : (said : List Said) × LinesSay 1 (take count lines) said
  pub only : (said : List Said) → LinesSay 1 (take count lines) said → file ≡ value_of said

pub taken_none : (lines : List (List ℕ)) (file : FileValue) → file ≡ value_of [] → Taken lines 0 file
taken_none lines file is = record { some = ([], refl); only = λ said none. is ∙ ap value_of (sym none) }

module _ (lines : List (List ℕ)) (count : ℕ) (line : List ℕ) (within : count < length lines) (this : line ≡ get_or lines count line) where
  more : take (count + 1) lines ≡ take count lines ++ line ∷ []
  more = take_more lines count line within ∙ ap (λ (it : List ℕ). take count lines ++ it ∷ []) (sym this)

  last_is : count + 1 ≡ 1 + length (take count lines)
  last_is = let long = length-take-le count lines (omega (arith, within)) in omega (arith, long)

  pub taken_more : (file new : FileValue) → Taken lines count file → ((facts : List Fact) × LineSays line facts)
      → ((facts : List Fact) → LineSays line facts → new ≡ with_facts (count + 1) facts file) → Taken lines (count + 1) new
  taken_more file new it says is = record {
    some = (
      it.some.0 ++ map (at_line (count + 1)) says.0,
      rw more (more_lines 1 (count + 1) (take count lines) line it.some.0 says.0 last_is it.some.1 says.1),
    );
    only = λ all say.
        let parts = parted 1 (count + 1) (take count lines) line all last_is (rw more at say) in
        is parts.facts parts.here ∙ ap (with_facts (count + 1) parts.facts) (it.only parts.said parts.before)
        ∙ with_facts-value (count + 1) parts.facts parts.said ∙ ap value_of (sym parts.whole);
  }

-- a line with its place
pub numbered : (all : List (List ℕ)) (count at : ℕ) (line : List ℕ) → count < length (enumerate_from 0 all)
    → ◌≡◌ {A = ℕ × List ℕ} (at, line) (get_or (enumerate_from 0 all) count (at, line))
    → (at ≡ count) × (count < length all) × (line ≡ get_or all count line)
numbered all count at line within is =
    let within' : count < length all = omega (arith, within, length-enumerate_from 0 all) in
    let there : ◌≡◌ {A = ℕ × List ℕ} (at, line) (0 + count, get_or all count line) =
    is ∙ get_or-enumerate_from 0 all count (at, line) within' in
    (omega (arith, ap (λ (p : ℕ × List ℕ). p.0) there), within', ap (λ (p : ℕ × List ℕ). p.1) there)

-- ---- the file

module _ (text : List ℕ) (count : ℕ) (all : count ≡ length (lines_of text)) (file new : FileValue) (it : Taken (lines_of text) count file)
    (is : new ≡ with_local file) where
  whole : take count (lines_of text) ≡ lines_of text
  whole = take_all count (lines_of text) (omega (arith, all))

  pub says : FileSays text new
  says = (it.some.0, rw whole at it.some.1, is ∙ ap with_local (it.only it.some.0 it.some.1))

  pub says_only : (said : FileValue) → FileSays text said → new ≡ said
  says_only said says = is ∙ ap with_local (it.only says.0 (rw whole says.1)) ∙ sym says.2

pub local_put : (file : FileValue) → file.servers ≡ []
    → record file { servers = file.servers ++ V4 (127 ∷ 0 ∷ 0 ∷ 1 ∷ []) ∷ [] } ≡ with_local file
local_put file none = rw none refl

not_local_by : (servers : List Address) → (servers ≡ [] → ⊥) → servers ≡ or_local servers
not_local_by [] some = absurd (some refl)
not_local_by (first ∷ others) some = refl

pub not_local : (file : FileValue) → (file.servers ≡ [] → ⊥) → file ≡ with_local file
not_local file some = ap (λ (servers : List Address). record file { servers = servers }) (not_local_by file.servers some)

pub no_more : (servers : List Address) → (length servers == 0) ≡ true → servers ≡ []
no_more [] none = refl
no_more (first ∷ others) none = let long : suc (length others) ≡ 0 = eqb-true (suc (length others)) 0 none in absurd (omega (arith, long))

pub some_more : (servers : List Address) → (length servers == 0) ≡ false → (same : List Address) → servers ≡ same → same ≡ [] → ⊥
some_more servers some same is none =
    let empty : servers ≡ [] = is ∙ none in
    let some' = rw empty at some in
    let both : true ≡ false = some' in
    absurd cc
