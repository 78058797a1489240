use Rattle.std.proofs.Common.{◌≡◌, ◌<◌, ◌++◌, ◌∷◌, [], List, ℕ, length, map, sym, ap, ◌∙◌, arith}
use Rattle.std.proofs.lemmas.Bool.Decides.{nat_tests}
use Rattle.std.proofs.lemmas.List.{map-append}
use Rattle.std.specs.Str.{trim}
use Rattle.std.specs.Str.Lossy.{utf8_lossy}
use Rattle.std.specs.String.{string_bytes}
use Rattle.sipwhere.proofs.Inputs.{some-kept}
use Rattle.sipwhere.proofs.line_input.push_text.Goals as goal

pub returns : goal.returns
returns c =
    let text = trim (utf8_lossy c.args.octets.now) in
    let old = c.args.texts.now.items in
    let is : c.trim-text.result.now ≡ text = c.trim-text.ensures.trim ∙ ap trim (c.deref.ensures ∙ c.in_ok-whole.ensures.lossy) in
    let same = ap (λ (l : List ℕ). length l) is in
    let some : 0 < length text = grind (arith, nat_tests, same, c.is_empty.ensures, c.if-is_empty.false) in
    ap (map string_bytes) c.in_ok-push.ensures.items ∙ map-append string_bytes old (c.in_ok-text.text ∷ [])
    ∙ ap (λ t. map string_bytes old ++ t ∷ []) (c.in_ok-text.ensures.ok ∙ is)
    ∙ ap (λ l. map string_bytes old ++ l) (sym (some-kept text some))
