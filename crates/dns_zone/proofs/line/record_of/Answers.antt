use Rattle.std.proofs.Common.{◌≡◌, ℕ, List, [], drop, get_or, refl, sym, ap, ◌∙◌}
use Rattle.std.proofs.lemmas.Result.{err_from_is_err_and}
use Rattle.dns_message.specs.declared.resource.Record.{Record}
use Rattle.dns_zone.specs.Lines.{number_of}
use Rattle.dns_zone.proofs.Texts.{text_at, three_texts, same_some, no_number}
use Rattle.dns_zone.proofs.line.record_of.Goals as goal

same_record : (entry other : Record) → entry.owner ≡ other.owner → entry.ttl ≡ other.ttl → entry.rdata ≡ other.rdata → entry ≡ other
same_record entry other owner ttl rdata = λ j. record { owner = owner j; ttl = ttl j; rdata = rdata j }

pub returns-in_err-from_text-clause-read : goal.returns-in_err-from_text-clause-read
returns-in_err-from_text-clause-read c = λ entry is.
    let text = text_at c.args.fields.now 0 ∙ ap (λ (l : List (List ℕ)). get_or l 0 []) is.are in
    let memory = c.in_err-from_text.ensures.read entry.owner (rw text is.owner_is) in
    let r = err_from_is_err_and c.from_residual.result c.from_residual.ensures.1 in
    rw (r.1, r.2, memory) refl

pub returns-in_err-number_of_32_bits-clause-read : goal.returns-in_err-number_of_32_bits-clause-read
returns-in_err-number_of_32_bits-clause-read c = λ entry is.
    let text = text_at c.args.fields.now 1 ∙ ap (λ (l : List (List ℕ)). get_or l 1 []) is.are in
    absurd (no_number entry.ttl (sym c.in_err-number_of_32_bits.ensures.1 ∙ ap (number_of 4294967295) text ∙ is.ttl_is))

pub returns-in_err-rdata-clause-read : goal.returns-in_err-rdata-clause-read
returns-in_err-rdata-clause-read c = λ entry is.
    let fields = c.args.fields.now in
    let kind = text_at fields 2 ∙ ap (λ (l : List (List ℕ)). get_or l 2 []) is.are in
    let others = ap (λ (l : List (List ℕ)). drop 3 l) (sym (three_texts fields c.in-len3-up.len_at_least) ∙ is.are) in
    let memory = c.in_err-rdata.ensures.read entry.rdata (rw (kind, others) is.rdata_is) in
    let r = err_from_is_err_and c.from_residual-in_err-rdata.result c.from_residual-in_err-rdata.ensures.1 in
    rw (r.1, r.2) memory

pub returns-clause-found : goal.returns-clause-found
returns-clause-found c = record {
  owner = _;
  ttl = _;
  kind = _;
  others = _;
  are = three_texts c.args.fields.now c.in-len3-up.len_at_least;
  owner_is = c.in_ok-from_text.ensures.found;
  ttl_is = c.in_ok-number_of_32_bits.ensures;
  rdata_is = c.in_ok-rdata.ensures.found;
}

pub returns-clause-read : goal.returns-clause-read
returns-clause-read c = λ entry is.
    let fields = c.args.fields.now in
    let owner = text_at fields 0 ∙ ap (λ (l : List (List ℕ)). get_or l 0 []) is.are in
    let ttl = text_at fields 1 ∙ ap (λ (l : List (List ℕ)). get_or l 1 []) is.are in
    let kind = text_at fields 2 ∙ ap (λ (l : List (List ℕ)). get_or l 2 []) is.are in
    let others = ap (λ (l : List (List ℕ)). drop 3 l) (sym (three_texts fields c.in-len3-up.len_at_least) ∙ is.are) in
    same_record _ entry (c.in_ok-from_text.ensures.read entry.owner (rw owner is.owner_is))
    (same_some (sym c.in_ok-number_of_32_bits.ensures ∙ ap (number_of 4294967295) ttl ∙ is.ttl_is))
    (c.in_ok-rdata.ensures.read entry.rdata (rw (kind, others) is.rdata_is))
