use Rattle.std.proofs.Common.{◌≡◌, ℕ, List, [], get_or, refl, sym, ap, ◌∙◌, arith}
use Rattle.std.proofs.lemmas.Result.{err_from_is_err_and}
use Rattle.dns_message.specs.declared.naptr.NaptrRecord.{NaptrRecord}
use Rattle.dns_zone.specs.Lines.{number_of, string_of}
use Rattle.dns_zone.proofs.Texts.{text_at, six_texts, same_some, no_number}
use Rattle.dns_zone.proofs.rdata.naptr.Goals as goal

same_rule : (rule other : NaptrRecord) → rule.order ≡ other.order → rule.preference ≡ other.preference → rule.flags ≡ other.flags
    → rule.services ≡ other.services → rule.regexp ≡ other.regexp → rule.replacement ≡ other.replacement → rule ≡ other
same_rule rule other order preference flags services regexp replacement =
    λ j. record {
      order = order j;
      preference = preference j;
      flags = flags j;
      services = services j;
      regexp = regexp j;
      replacement =
          replacement j;
    }

pub returns-in_err-number_of_16_bits-clause-read : goal.returns-in_err-number_of_16_bits-clause-read
returns-in_err-number_of_16_bits-clause-read c = λ rule is.
    let text = text_at c.args.fields.now 0 ∙ ap (λ (l : List (List ℕ)). get_or l 0 []) is.are in
    absurd (no_number rule.order (sym c.in_err-number_of_16_bits.ensures.1 ∙ ap (number_of 65535) text ∙ is.order_is))

pub returns-in_err-number_of_16_bits-2-clause-read : goal.returns-in_err-number_of_16_bits-2-clause-read
returns-in_err-number_of_16_bits-2-clause-read c = λ rule is.
    let text = text_at c.args.fields.now 1 ∙ ap (λ (l : List (List ℕ)). get_or l 1 []) is.are in
    absurd (no_number rule.preference (sym c.in_err-number_of_16_bits-2.ensures.1 ∙ ap (number_of 65535) text ∙ is.preference_is))

pub returns-in_err-char_string-clause-read : goal.returns-in_err-char_string-clause-read
returns-in_err-char_string-clause-read c = λ rule is.
    let text = text_at c.args.fields.now 2 ∙ ap (λ (l : List (List ℕ)). get_or l 2 []) is.are in
    let memory = c.in_err-char_string.ensures.read rule.flags (rw text is.flags_are) in
    let r = err_from_is_err_and c.from_residual-in_err-char_string.result c.from_residual-in_err-char_string.ensures.1 in
    rw (r.1, r.2) memory

pub returns-in_err-char_string-2-clause-read : goal.returns-in_err-char_string-2-clause-read
returns-in_err-char_string-2-clause-read c = λ rule is.
    let text = text_at c.args.fields.now 3 ∙ ap (λ (l : List (List ℕ)). get_or l 3 []) is.are in
    let memory = c.in_err-char_string-2.ensures.read rule.services (rw text is.services_are) in
    let r = err_from_is_err_and c.from_residual-in_err-char_string-2.result c.from_residual-in_err-char_string-2.ensures.1 in
    rw (r.1, r.2) memory

pub returns-in_err-char_string-3-clause-read : goal.returns-in_err-char_string-3-clause-read
returns-in_err-char_string-3-clause-read c = λ rule is.
    let text = text_at c.args.fields.now 4 ∙ ap (λ (l : List (List ℕ)). get_or l 4 []) is.are in
    let memory = c.in_err-char_string-3.ensures.read rule.regexp (rw text is.regexp_is) in
    let r = err_from_is_err_and c.from_residual-in_err-char_string-3.result c.from_residual-in_err-char_string-3.ensures.1 in
    rw (r.1, r.2) memory

pub returns-in_err-from_text-clause-read : goal.returns-in_err-from_text-clause-read
returns-in_err-from_text-clause-read c = λ rule is.
    let text = text_at c.args.fields.now 5 ∙ ap (λ (l : List (List ℕ)). get_or l 5 []) is.are in
    let memory = c.in_err-from_text.ensures.read rule.replacement (rw text is.replacement_is) in
    let r = err_from_is_err_and c.from_residual-in_err-from_text.result c.from_residual-in_err-from_text.ensures.1 in
    rw (r.1, r.2, memory) refl

pub returns-clause-found : goal.returns-clause-found
returns-clause-found c = record {
  order = _;
  preference = _;
  flags = _;
  services = _;
  regexp = _;
  replacement = _;
  are = six_texts c.args.fields.now (omega arith);
  order_is = c.in_ok-number_of_16_bits.ensures;
  preference_is = c.in_ok-number_of_16_bits-2.ensures;
  flags_are = c.in_ok-char_string.ensures.found;
  services_are = c.in_ok-char_string-2.ensures.found;
  regexp_is = c.in_ok-char_string-3.ensures.found;
  replacement_is = c.in_ok-from_text.ensures.found;
}

pub returns-clause-read : goal.returns-clause-read
returns-clause-read c = λ rule is.
    let fields = c.args.fields.now in
    let order_at = text_at fields 0 ∙ ap (λ (l : List (List ℕ)). get_or l 0 []) is.are in
    let preference_at = text_at fields 1 ∙ ap (λ (l : List (List ℕ)). get_or l 1 []) is.are in
    let flags_at = text_at fields 2 ∙ ap (λ (l : List (List ℕ)). get_or l 2 []) is.are in
    let services_at = text_at fields 3 ∙ ap (λ (l : List (List ℕ)). get_or l 3 []) is.are in
    let regexp_at = text_at fields 4 ∙ ap (λ (l : List (List ℕ)). get_or l 4 []) is.are in
    let replacement_at = text_at fields 5 ∙ ap (λ (l : List (List ℕ)). get_or l 5 []) is.are in
    same_rule _ rule (same_some (sym c.in_ok-number_of_16_bits.ensures ∙ ap (number_of 65535) order_at ∙ is.order_is))
    (same_some (sym c.in_ok-number_of_16_bits-2.ensures ∙ ap (number_of 65535) preference_at ∙ is.preference_is))
    (same_some (sym c.in_ok-char_string.ensures.found ∙ ap string_of flags_at ∙ is.flags_are))
    (same_some (sym c.in_ok-char_string-2.ensures.found ∙ ap string_of services_at ∙ is.services_are))
    (same_some (sym c.in_ok-char_string-3.ensures.found ∙ ap string_of regexp_at ∙ is.regexp_is))
    (c.in_ok-from_text.ensures.read rule.replacement (rw replacement_at is.replacement_is))
