use Rattle.std.proofs.Common.{◌≡◌, ℕ, List, [], get_or, refl, sym, ap, ◌∙◌, arith}
use Rattle.std.proofs.lemmas.Result.{err_from_is_err_and}
use Rattle.dns_message.specs.declared.srv.SrvRecord.{SrvRecord}
use Rattle.dns_zone.specs.Lines.{number_of}
use Rattle.dns_zone.proofs.Texts.{text_at, four_texts, same_some, no_number}
use Rattle.dns_zone.proofs.rdata.srv.Goals as goal

same_server : (server other : SrvRecord) → server.priority ≡ other.priority → server.weight ≡ other.weight → server.port ≡ other.port
    → server.target ≡ other.target → server ≡ other
same_server server other priority weight port target =
    λ j. record { priority = priority j; weight = weight j; port = port j; target = target j }

pub returns-in_err-number_of_16_bits-clause-read : goal.returns-in_err-number_of_16_bits-clause-read
returns-in_err-number_of_16_bits-clause-read c = λ server is.
    let text = text_at c.args.fields.now 0 ∙ ap (λ (l : List (List ℕ)). get_or l 0 []) is.are in
    absurd (no_number server.priority (sym c.in_err-number_of_16_bits.ensures.1 ∙ ap (number_of 65535) text ∙ is.priority_is))

pub returns-in_err-number_of_16_bits-2-clause-read : goal.returns-in_err-number_of_16_bits-2-clause-read
returns-in_err-number_of_16_bits-2-clause-read c = λ server is.
    let text = text_at c.args.fields.now 1 ∙ ap (λ (l : List (List ℕ)). get_or l 1 []) is.are in
    absurd (no_number server.weight (sym c.in_err-number_of_16_bits-2.ensures.1 ∙ ap (number_of 65535) text ∙ is.weight_is))

pub returns-in_err-number_of_16_bits-3-clause-read : goal.returns-in_err-number_of_16_bits-3-clause-read
returns-in_err-number_of_16_bits-3-clause-read c = λ server is.
    let text = text_at c.args.fields.now 2 ∙ ap (λ (l : List (List ℕ)). get_or l 2 []) is.are in
    absurd (no_number server.port (sym c.in_err-number_of_16_bits-3.ensures.1 ∙ ap (number_of 65535) text ∙ is.port_is))

pub returns-in_err-from_text-clause-read : goal.returns-in_err-from_text-clause-read
returns-in_err-from_text-clause-read c = λ server is.
    let text = text_at c.args.fields.now 3 ∙ ap (λ (l : List (List ℕ)). get_or l 3 []) is.are in
    let memory = c.in_err-from_text.ensures.read server.target (rw text is.target_is) in
    let r = err_from_is_err_and c.from_residual-in_err-from_text.result c.from_residual-in_err-from_text.ensures.1 in
    rw (r.1, r.2, memory) refl

pub returns-clause-found : goal.returns-clause-found
returns-clause-found c = record {
  priority = _;
  weight = _;
  port = _;
  target = _;
  are = four_texts c.args.fields.now (omega arith);
  priority_is = c.in_ok-number_of_16_bits.ensures;
  weight_is = c.in_ok-number_of_16_bits-2.ensures;
  port_is = c.in_ok-number_of_16_bits-3.ensures;
  target_is = c.in_ok-from_text.ensures.found;
}

pub returns-clause-read : goal.returns-clause-read
returns-clause-read c = λ server is.
    let fields = c.args.fields.now in
    let priority_at = text_at fields 0 ∙ ap (λ (l : List (List ℕ)). get_or l 0 []) is.are in
    let weight_at = text_at fields 1 ∙ ap (λ (l : List (List ℕ)). get_or l 1 []) is.are in
    let port_at = text_at fields 2 ∙ ap (λ (l : List (List ℕ)). get_or l 2 []) is.are in
    let target_at = text_at fields 3 ∙ ap (λ (l : List (List ℕ)). get_or l 3 []) is.are in
    same_server _ server (same_some (sym c.in_ok-number_of_16_bits.ensures ∙ ap (number_of 65535) priority_at ∙ is.priority_is))
    (same_some (sym c.in_ok-number_of_16_bits-2.ensures ∙ ap (number_of 65535) weight_at ∙ is.weight_is))
    (same_some (sym c.in_ok-number_of_16_bits-3.ensures ∙ ap (number_of 65535) port_at ∙ is.port_is))
    (c.in_ok-from_text.ensures.read server.target (rw target_at is.target_is))
