use Rattle.std.proofs.Common.{arith, ◌≡◌, ◌<◌, ◌++◌, ◌∷◌, [], ◌+◌, ◌-◌, ◌^◌, min, get_or, length, map, take, sym, ap, ◌∙◌}
use Rattle.std.proofs.lemmas.List.{length-map, length-take-le, map-append, take_more}
use Rattle.sipwhere.specs.LineInputs.{numbered_from, said}
use Rattle.sipwhere.proofs.Inputs.{numbered-more}
use Rattle.sipwhere.proofs.line.numbered.Goals as goal

pub texts-preserved : goal.texts-preserved
texts-preserved c =
    let texts = c.args.texts.now in
    let at = c.texts.at in
    let first = c.args.first in
    let inside : at < length texts = c.texts-test.true in
    let text = get_or texts at record { ref_ptr = (0, 0); now = [] } in
    let before = map (λ text. text.now) (take at texts) in
    let size : length before ≡ at = length-map (take at texts) (λ text. text.now) ∙ length-take-le at texts (omega (arith, inside)) in
    let number = c.saturating_add-number.ensures ∙ ap (λ n. min (first + n) (2 ^ 64 - 1)) (sym size) in
    ap (map said) c.in_ok-push.ensures.items
    ∙ map-append said c.texts.lines.items (record { number = c.saturating_add-number.result; text = text } ∷ [])
    ∙ ap (λ l. l ++ (c.saturating_add-number.result, text.now) ∷ []) c.texts.invariant
    ∙ ap (λ n. numbered_from first before ++ (n, text.now) ∷ []) number ∙ sym (numbered-more first before text.now)
    ∙ ap (numbered_from first) (sym (map-append (λ text. text.now) (take at texts) (text ∷ [])))
    ∙ ap (λ l. numbered_from first (map (λ text. text.now) l)) (sym (take_more texts at record { ref_ptr = (0, 0); now = [] } inside))
