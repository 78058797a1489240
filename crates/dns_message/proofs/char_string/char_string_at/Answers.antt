use Rattle.std.proofs.Common.{◌≡◌, ◌+◌, ℕ, slice_index, slice_range, List, length, sym, ap, ◌∙◌, arith}
use Rattle.std.proofs.lemmas.Result.{err_from_is_err_and}
use Rattle.dns_message.specs.Layouts.{CharStringAt}
use Rattle.dns_message.proofs.Offsets.{first_octet, other_octets, octets_behind}
use Rattle.dns_message.proofs.char_string.char_string_at.Goals as goal
use Rattle.dns_message.proofs.char_string.char_string_at.Goals.{In_ok-octets}

-- what was read stands there
this : (c : In_ok-octets) → CharStringAt c.args.bytes.now c.args.offset c.in_ok-octets.octets.now (c.args.offset + 1 + c.from-size.result)
this c =
    let bytes = c.args.bytes.now in
    let octets : List ℕ = c.in_ok-octets.octets.now in
    let first = rw c.in_ok-ok_or.ensures.ok_part at c.get.ensures.lookup in
    let part = rw c.in_ok-octets.ensures.ok_part at c.get-2.ensures.lookup in
    let value : c.from-size.result ≡ slice_index bytes c.args.offset = c.from-size.ensures ∙ first.4 (omega arith) 0 in
    let size : length octets ≡ c.from-size.result = omega (arith, part.0.3) in
    record {
      short = omega (arith, size, value, c.type_inv.bytes c.args.offset);
      stands = octets_behind bytes c.args.offset (length octets) octets (c.args.offset + 1 + c.from-size.result) (sym (size ∙ value))
          (record { size = omega (arith, size); within = part.0.1; are = sym part.0.2 });
    }

pub returns-clause-found : goal.returns-clause-found
returns-clause-found c = rw c.in_ok-octets-2.ensures.items (this (goal.at.returns-clause-found c).In_ok-octets)

pub returns-in_err-octets-2-clause-memory : goal.returns-in_err-octets-2-clause-memory
returns-in_err-octets-2-clause-memory c =
    let p = err_from_is_err_and c.from_residual-in_err-octets-2.result c.from_residual-in_err-octets-2.ensures.1 in
    rw p.1 (λ _. (
      c.in_ok-octets.octets.now,
      c.args.offset + 1 + c.from-size.result,
      this (goal.at.returns-in_err-octets-2-clause-memory c).In_ok-octets,
    ))

pub returns-clause-read : goal.returns-clause-read
returns-clause-read c = λ string end x.
    let bytes = c.args.bytes.now in
    let start : ℕ = c.args.offset + 1 in
    let stands = x.stands in
    let others = other_octets bytes c.args.offset (length string) string end stands in
    let first = rw c.in_ok-ok_or.ensures.ok_part at c.get.ensures.lookup in
    let part = rw c.in_ok-octets.ensures.ok_part at c.get-2.ensures.lookup in
    let size : c.from-size.result ≡ length string =
    c.from-size.ensures ∙ first.4 (omega arith) 0 ∙ first_octet bytes c.args.offset (length string) string end stands in
    let ends : start + c.from-size.result ≡ end = omega (arith, size, stands.size) in
    let octets : c.in_ok-octets.octets.now ≡ string = part.0.2 ∙ ap (slice_range bytes start) ends ∙ others.are in
    (c.in_ok-octets-2.ensures.items ∙ octets, ends)
