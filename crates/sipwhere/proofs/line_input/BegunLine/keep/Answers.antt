use Rattle.std.proofs.Common.{◌≡◌, ◌<◌, ◌++◌, ◌∷◌, [], List, ℕ, length, sym, ap, ◌∙◌, arith}
use Rattle.sipwhere.specs.LineInputs.{kept}
use Rattle.sipwhere.proofs.Inputs.{kept-full, kept-marked, kept-more}
use Rattle.sipwhere.proofs.line_input.BegunLine.keep.Goals as goal

pub returns-in_ok-push : goal.returns-in_ok-push
returns-in_ok-push c line is =
    let size = ap (λ (l : List ℕ). length l) is in
    let room : length (kept line) < 4096 = omega (arith, size) in
    c.in_ok-push.ensures.items ∙ ap (λ l. l ++ c.args.octet ∷ []) is ∙ sym (kept-more line c.args.octet room)

pub returns-in_ok-extend_from_slice : goal.returns-in_ok-extend_from_slice
returns-in_ok-extend_from_slice c line is =
    let size = ap (λ (l : List ℕ). length l) is in
    let full : length (kept line) ≡ 4096 = omega (arith, size) in
    c.in_ok-extend_from_slice.ensures.items ∙ ap (λ l. l ++ 0 ∷ 0 ∷ []) is ∙ sym (kept-marked line c.args.octet full)

pub returns-else-len-eq-KEPT_LIMIT : goal.returns-else-len-eq-KEPT_LIMIT
returns-else-len-eq-KEPT_LIMIT c line is =
    let size = ap (λ (l : List ℕ). length l) is in
    let long : 4096 < length (kept line) = omega (arith, size) in
    is ∙ sym (kept-full line c.args.octet long)
