use Rattle.std.proofs.Common.{◌≡◌, ℕ, List, [], get_or, refl, sym, ap, ◌∙◌, arith}
use Rattle.std.proofs.lemmas.Result.{err_from_is_err_and}
use Rattle.dns_message.specs.declared.soa.SoaRecord.{SoaRecord}
use Rattle.dns_zone.specs.Lines.{number_of}
use Rattle.dns_zone.proofs.Texts.{text_at, seven_texts, same_some, no_number}
use Rattle.dns_zone.proofs.rdata.soa.Goals as goal

same_authority : (authority other : SoaRecord) → authority.mname ≡ other.mname → authority.rname ≡ other.rname
    → authority.serial ≡ other.serial → authority.refresh ≡ other.refresh → authority.retry ≡ other.retry
    → authority.expire ≡ other.expire → authority.minimum ≡ other.minimum → authority ≡ other
same_authority authority other mname rname serial refresh retry expire minimum =
    λ j. record {
      mname = mname j;
      rname = rname j;
      serial = serial j;
      refresh = refresh j;
      retry = retry j;
      expire = expire j;
      minimum = minimum j;
    }

pub returns-in_err-number_of_32_bits-clause-read : goal.returns-in_err-number_of_32_bits-clause-read
returns-in_err-number_of_32_bits-clause-read c = λ authority is.
    let text = text_at c.args.fields.now 2 ∙ ap (λ (l : List (List ℕ)). get_or l 2 []) is.are in
    absurd (no_number authority.serial (sym c.in_err-number_of_32_bits.ensures.1 ∙ ap (number_of 4294967295) text ∙ is.serial_is))

pub returns-in_err-number_of_32_bits-2-clause-read : goal.returns-in_err-number_of_32_bits-2-clause-read
returns-in_err-number_of_32_bits-2-clause-read c = λ authority is.
    let text = text_at c.args.fields.now 3 ∙ ap (λ (l : List (List ℕ)). get_or l 3 []) is.are in
    absurd (no_number authority.refresh (sym c.in_err-number_of_32_bits-2.ensures.1 ∙ ap (number_of 4294967295) text ∙ is.refresh_is))

pub returns-in_err-number_of_32_bits-3-clause-read : goal.returns-in_err-number_of_32_bits-3-clause-read
returns-in_err-number_of_32_bits-3-clause-read c = λ authority is.
    let text = text_at c.args.fields.now 4 ∙ ap (λ (l : List (List ℕ)). get_or l 4 []) is.are in
    absurd (no_number authority.retry (sym c.in_err-number_of_32_bits-3.ensures.1 ∙ ap (number_of 4294967295) text ∙ is.retry_is))

pub returns-in_err-number_of_32_bits-4-clause-read : goal.returns-in_err-number_of_32_bits-4-clause-read
returns-in_err-number_of_32_bits-4-clause-read c = λ authority is.
    let text = text_at c.args.fields.now 5 ∙ ap (λ (l : List (List ℕ)). get_or l 5 []) is.are in
    absurd (no_number authority.expire (sym c.in_err-number_of_32_bits-4.ensures.1 ∙ ap (number_of 4294967295) text ∙ is.expire_is))

pub returns-in_err-number_of_32_bits-5-clause-read : goal.returns-in_err-number_of_32_bits-5-clause-read
returns-in_err-number_of_32_bits-5-clause-read c = λ authority is.
    let text = text_at c.args.fields.now 6 ∙ ap (λ (l : List (List ℕ)). get_or l 6 []) is.are in
    absurd (no_number authority.minimum (sym c.in_err-number_of_32_bits-5.ensures.1 ∙ ap (number_of 4294967295) text ∙ is.minimum_is))

pub returns-in_err-from_text-clause-read : goal.returns-in_err-from_text-clause-read
returns-in_err-from_text-clause-read c = λ authority is.
    let text = text_at c.args.fields.now 0 ∙ ap (λ (l : List (List ℕ)). get_or l 0 []) is.are in
    let memory = c.in_err-from_text.ensures.read authority.mname (rw text is.mname_is) in
    let r = err_from_is_err_and c.from_residual-in_err-from_text.result c.from_residual-in_err-from_text.ensures.1 in
    rw (r.1, r.2, memory) refl

pub returns-in_err-from_text-2-clause-read : goal.returns-in_err-from_text-2-clause-read
returns-in_err-from_text-2-clause-read c = λ authority is.
    let text = text_at c.args.fields.now 1 ∙ ap (λ (l : List (List ℕ)). get_or l 1 []) is.are in
    let memory = c.in_err-from_text-2.ensures.read authority.rname (rw text is.rname_is) in
    let r = err_from_is_err_and c.from_residual-in_err-from_text-2.result c.from_residual-in_err-from_text-2.ensures.1 in
    rw (r.1, r.2, memory) refl

pub returns-clause-found : goal.returns-clause-found
returns-clause-found c = record {
  mname = _;
  rname = _;
  serial = _;
  refresh = _;
  retry = _;
  expire = _;
  minimum = _;
  are = seven_texts c.args.fields.now (omega arith);
  mname_is = c.in_ok-from_text.ensures.found;
  rname_is = c.in_ok-from_text-2.ensures.found;
  serial_is = c.in_ok-number_of_32_bits.ensures;
  refresh_is = c.in_ok-number_of_32_bits-2.ensures;
  retry_is = c.in_ok-number_of_32_bits-3.ensures;
  expire_is = c.in_ok-number_of_32_bits-4.ensures;
  minimum_is = c.in_ok-number_of_32_bits-5.ensures;
}

pub returns-clause-read : goal.returns-clause-read
returns-clause-read c = λ authority is.
    let fields = c.args.fields.now in
    let mname_at = text_at fields 0 ∙ ap (λ (l : List (List ℕ)). get_or l 0 []) is.are in
    let rname_at = text_at fields 1 ∙ ap (λ (l : List (List ℕ)). get_or l 1 []) is.are in
    let serial_at = text_at fields 2 ∙ ap (λ (l : List (List ℕ)). get_or l 2 []) is.are in
    let refresh_at = text_at fields 3 ∙ ap (λ (l : List (List ℕ)). get_or l 3 []) is.are in
    let retry_at = text_at fields 4 ∙ ap (λ (l : List (List ℕ)). get_or l 4 []) is.are in
    let expire_at = text_at fields 5 ∙ ap (λ (l : List (List ℕ)). get_or l 5 []) is.are in
    let minimum_at = text_at fields 6 ∙ ap (λ (l : List (List ℕ)). get_or l 6 []) is.are in
    same_authority _ authority
    (c.in_ok-from_text.ensures.read authority.mname (rw mname_at is.mname_is))
    (c.in_ok-from_text-2.ensures.read authority.rname (rw rname_at is.rname_is))
    (same_some (sym c.in_ok-number_of_32_bits.ensures ∙ ap (number_of 4294967295) serial_at ∙ is.serial_is))
    (same_some (sym c.in_ok-number_of_32_bits-2.ensures ∙ ap (number_of 4294967295) refresh_at ∙ is.refresh_is))
    (same_some (sym c.in_ok-number_of_32_bits-3.ensures ∙ ap (number_of 4294967295) retry_at ∙ is.retry_is))
    (same_some (sym c.in_ok-number_of_32_bits-4.ensures ∙ ap (number_of 4294967295) expire_at ∙ is.expire_is))
    (same_some (sym c.in_ok-number_of_32_bits-5.ensures ∙ ap (number_of 4294967295) minimum_at ∙ is.minimum_is))
