-- For how long it may be kept that there is no record.
use Rattle.std.proofs.Common.{◌≡◌, ℕ, ◌≤◌, List, [], ◌∷◌, ◌++◌, map, Option, Some, None, refl, sym, ap, ◌∙◌, arith}
use Rattle.std.specs.Prelude.{min}
use Rattle.std.specs.List.{All, fold}
use Rattle.std.proofs.lemmas.List.Elements.{All-cons, All-head, All-nil, All-tail}
use Rattle.dns_message.specs.declared.message.Message.{Message}
use Rattle.dns_message.specs.declared.rdata.Rdata.{Rdata}
use Rattle.dns_message.specs.declared.rdata.Rdata.TheVariants.{Addr4, Addr6, Srv, Naptr, Cname, Soa, Other}
use Rattle.dns_message.specs.declared.resource.Record.{Record}
use Rattle.dns_message.specs.declared.soa.SoaRecord.{SoaRecord}
use Rattle.dns_answers.specs.Chains.{Chain}
use Rattle.dns_answers.specs.Lives.{effective_ttl, least_from, ttls, negative_ttl, negative_ttl_of, absent_life, IsNoSoa, IsFirstSoa, IsLeast}
use Rattle.dns_answers.proofs.LeastLives.{effective_ttl-le, least-le, least_of, least_more}

-- ---- the first SOA record of a section

no_soa : (entry : Record) → IsNoSoa entry → (rdata : Rdata) → entry.rdata ≡ rdata → negative_ttl entry ≡ None
no_soa entry never (Addr4 octets) is = rw is refl
no_soa entry never (Addr6 octets) is = rw is refl
no_soa entry never (Srv server) is = rw is refl
no_soa entry never (Naptr rule) is = rw is refl
no_soa entry never (Cname target) is = rw is refl
no_soa entry never (Soa authority) is = absurd (never authority is)
no_soa entry never (Other other) is = rw is refl

pub without_soa : (section : List Record) → All IsNoSoa section → negative_ttl_of section ≡ 0
without_soa [] none = refl
without_soa (entry ∷ others) none =
    rw (no_soa entry (All-head IsNoSoa entry others none) entry.rdata refl)
    (without_soa others (All-tail IsNoSoa entry others none))

first_behind : (front back : List Record) (entry : Record) (authority : SoaRecord) → entry.rdata ≡ Soa authority → All IsNoSoa front
    → negative_ttl_of (front ++ entry ∷ back) ≡ min authority.minimum (effective_ttl entry.ttl)
first_behind [] back entry authority is none = rw is refl
first_behind (other ∷ front) back entry authority is none =
    rw (no_soa other (All-head IsNoSoa other front none) other.rdata refl)
    (first_behind front back entry authority is (All-tail IsNoSoa other front none))

pub with_soa : (section : List Record) (entry : Record) (authority : SoaRecord) → IsFirstSoa section entry authority
    → negative_ttl_of section ≡ min authority.minimum (effective_ttl entry.ttl)
with_soa section entry authority is = rw is.stands (first_behind is.front is.back entry authority is.is is.first)

-- ---- it is short

short_by : (entry : Record) (others : List Record) (rdata : Rdata) → entry.rdata ≡ rdata → negative_ttl_of others ≤ 2147483647
    → negative_ttl_of (entry ∷ others) ≤ 2147483647
short_by entry others (Addr4 octets) is short = rw is short
short_by entry others (Addr6 octets) is short = rw is short
short_by entry others (Srv server) is short = rw is short
short_by entry others (Naptr rule) is short = rw is short
short_by entry others (Cname target) is short = rw is short
short_by entry others (Soa authority) is short = rw is (omega (arith, effective_ttl-le entry.ttl))
short_by entry others (Other other) is short = rw is short

pub negative-le : (section : List Record) → negative_ttl_of section ≤ 2147483647
negative-le [] = omega arith
negative-le (entry ∷ others) = short_by entry others entry.rdata refl (negative-le others)

pub absent-le : (message : Message) (found : Option Chain) → absent_life message found ≤ 2147483647
absent-le message None = omega arith
absent-le message (Some found) =
    omega (arith, least-le (negative_ttl_of message.authority) (ttls found.links), negative-le message.authority)

-- ---- together with the records of a chain

fold-min : (limit number : ℕ) (numbers : List ℕ) → fold min (min limit number) numbers ≡ min (fold min limit numbers) number
fold-min limit number [] = refl
fold-min limit number (first ∷ others) =
    let same : min (min limit number) first ≡ min (min limit first) number = omega arith in
    rw same (fold-min (min limit first) number others)

pub absent_along : (message : Message) (links : List Record) (last : List (List ℕ))
    → min (least_from 2147483647 (ttls links)) (negative_ttl_of message.authority)
    ≡ absent_life message (Some (record { links = links; last = last }))
absent_along message links last =
    let limit = negative_ttl_of message.authority in
    let same : min 2147483647 limit ≡ limit = omega (arith, negative-le message.authority) in
    sym (fold-min 2147483647 limit (map effective_ttl (ttls links)))
    ∙ ap (λ (n : ℕ). fold min n (map effective_ttl (ttls links))) same

pub absent_is_least : (message : Message) (found : Chain) (entry : Record) (authority : SoaRecord)
    → IsFirstSoa message.authority entry authority
    → IsLeast (absent_life message (Some found)) (authority.minimum ∷ effective_ttl entry.ttl ∷ map effective_ttl (ttls found.links))
absent_is_least message found entry authority is =
    let numbers = map effective_ttl (ttls found.links) in
    let limit = min authority.minimum (effective_ttl entry.ttl) in
    rw (with_soa message.authority entry authority is)
    (least_more (fold min limit numbers) authority.minimum (effective_ttl entry.ttl) numbers (least_of limit numbers))

pub absent_without : (message : Message) (found : Option Chain) → All IsNoSoa message.authority → absent_life message found ≡ 0
absent_without message None none = refl
absent_without message (Some found) none =
    let limit = without_soa message.authority none in
    let short = least-le (negative_ttl_of message.authority) (ttls found.links) in
    omega (arith, limit, short)

pub absent-ttl : (message : Message) (found : Option Chain) (entry : Record) (authority : SoaRecord)
    → IsFirstSoa message.authority entry authority → absent_life message found ≤ effective_ttl entry.ttl
absent-ttl message None entry authority is = omega arith
absent-ttl message (Some found) entry authority is =
    let limit = with_soa message.authority entry authority is in
    omega (arith, limit, least-le (negative_ttl_of message.authority) (ttls found.links))

pub absent-minimum : (message : Message) (found : Option Chain) (entry : Record) (authority : SoaRecord)
    → IsFirstSoa message.authority entry authority → absent_life message found ≤ authority.minimum
absent-minimum message None entry authority is = omega arith
absent-minimum message (Some found) entry authority is =
    let limit = with_soa message.authority entry authority is in
    omega (arith, limit, least-le (negative_ttl_of message.authority) (ttls found.links))

least-each : (limit : ℕ) (numbers : List ℕ) → All (λ (ttl : ℕ). least_from limit numbers ≤ effective_ttl ttl) numbers
least-each limit [] = All-nil (λ (ttl : ℕ). least_from limit [] ≤ effective_ttl ttl)
least-each limit (first ∷ others) =
    All-cons (λ (ttl : ℕ). least_from limit (first ∷ others) ≤ effective_ttl ttl) first others
    (omega (arith, least-le (min limit (effective_ttl first)) others)) (least-each (min limit (effective_ttl first)) others)

pub absent-links : (message : Message) (found : Chain)
    → All (λ (ttl : ℕ). absent_life message (Some found) ≤ effective_ttl ttl) (ttls found.links)
absent-links message found = least-each (negative_ttl_of message.authority) (ttls found.links)
