use Rattle.std.proofs.Common.{◌≡◌, ℕ, List, length, slice_range, sym, ap, ◌∙◌}
use Rattle.std.proofs.lemmas.Result.{MatchResult-weaker}
use Rattle.dns_message.specs.Data.{data_format}
use Rattle.dns_message.specs.declared.rdata.Rdata.TheVariants.{Addr4, Addr6, Other}
use Rattle.dns_message.proofs.Layouts.{format_goes_on, format_within}
use Rattle.dns_message.proofs.rdata.read_rdata.Goals as goal
use Rattle.dns_message.proofs.rdata.read_rdata.Goals.{In_ok-octets}

-- the octets between the two offsets
between : (c : In_ok-octets) → c.in_ok-octets.octets.now ≡ slice_range c.args.bytes.now c.args.offset c.args.end
between c = let part = rw c.in_ok-octets.ensures.ok_part at c.get.ensures.lookup in part.0.2

pub returns-in-A-clause-read : goal.returns-in-A-clause-read
returns-in-A-clause-read c = λ data' x.
    let there = rw (sym c.data_format.ensures ∙ c.in-A.is) at x in
    let octets = between (goal.at.returns-in-A-clause-read c).In_ok-octets ∙ there.2.stands.are in
    MatchResult-weaker c.read_addr4.result c.read_addr4.ensures (λ _ is. is.0 ∙ ap Addr4 octets ∙ sym there.1)
    (λ _ other. absurd (other (ap length octets ∙ there.2.size_is)))

pub returns-in-Aaaa-clause-read : goal.returns-in-Aaaa-clause-read
returns-in-Aaaa-clause-read c = λ data' x.
    let there = rw (sym c.data_format.ensures ∙ c.in-Aaaa.is) at x in
    let octets = between (goal.at.returns-in-Aaaa-clause-read c).In_ok-octets ∙ there.2.stands.are in
    MatchResult-weaker c.read_addr6.result c.read_addr6.ensures (λ _ is. is.0 ∙ ap Addr6 octets ∙ sym there.1)
    (λ _ other. absurd (other (ap length octets ∙ there.2.size_is)))

pub returns-in-Srv-clause-read : goal.returns-in-Srv-clause-read
returns-in-Srv-clause-read c = λ data' x.
    let there = rw (sym c.data_format.ensures ∙ c.in-Srv.is) at x in
    MatchResult-weaker c.read_server.result (c.read_server.ensures.read there.0 there.2) (λ _ is. is ∙ sym there.1) (λ _ is. is)

pub returns-in-Naptr-clause-read : goal.returns-in-Naptr-clause-read
returns-in-Naptr-clause-read c = λ data' x.
    let there = rw (sym c.data_format.ensures ∙ c.in-Naptr.is) at x in
    MatchResult-weaker c.read_rule.result (c.read_rule.ensures.read there.0 there.2) (λ _ is. is ∙ sym there.1) (λ _ is. is)

pub returns-in-Cname-clause-read : goal.returns-in-Cname-clause-read
returns-in-Cname-clause-read c = λ data' x.
    let there = rw (sym c.data_format.ensures ∙ c.in-Cname.is) at x in
    MatchResult-weaker c.read_alias.result (c.read_alias.ensures.read there.0 there.2) (λ _ is. is ∙ sym there.1) (λ _ is. is)

pub returns-in-Soa-clause-read : goal.returns-in-Soa-clause-read
returns-in-Soa-clause-read c = λ data' x.
    let there = rw (sym c.data_format.ensures ∙ c.in-Soa.is) at x in
    MatchResult-weaker c.read_authority.result (c.read_authority.ensures.read there.0 there.2) (λ _ is. is ∙ sym there.1) (λ _ is. is)

pub returns-in-Other-clause-read : goal.returns-in-Other-clause-read
returns-in-Other-clause-read c = λ data' x.
    let format = sym c.data_format.ensures ∙ c.in-Other.is in
    let there = rw format at x in
    let octets = between (goal.at.returns-in-Other-clause-read c).In_ok-octets ∙ there.2.stands.are in
    let same = ap (λ (octets' : List ℕ).
    Other (record { type_number = c.args.type_number; class_number = c.args.class_number; octets = octets' })) octets in
    MatchResult-weaker c.read_other.result c.read_other.ensures (λ _ is. is.0 ∙ same ∙ sym there.1)
    (λ _ memory. memory (record { format = format; short = rw octets there.2.short }))

pub returns-in_err-octets-clause-read : goal.returns-in_err-octets-clause-read
returns-in_err-octets-clause-read c = λ data' x.
    let within = c.law_name_rests_before_its_end.ensures.within in
    let f = data_format c.args.type_number c.args.class_number in
    let goes_on = format_goes_on within f c.args.bytes.now c.args.offset c.args.type_number c.args.class_number c.args.end data' x in
    let ends = format_within within f c.args.bytes.now c.args.offset c.args.type_number c.args.class_number c.args.end data' x in
    let none = rw c.in_err-octets.ensures.ok_part at c.get.ensures.lookup in
    let some = none.1 (goes_on, ends) in
    absurd cc
