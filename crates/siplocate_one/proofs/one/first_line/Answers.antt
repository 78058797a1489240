use Rattle.std.proofs.Common.{◌≡◌, ℕ, List, [], get_or, Option, Some, None, Bor, refl, ap, ◌∙◌}
use Rattle.std.specs.Prelude.{unwrap_or}
use Rattle.std.specs.Str.Iter.{lines_rest, lines_steps}
use Rattle.std.specs.Str.Lines.{lines}
use Rattle.std.proofs.lemmas.List.{get_or_default}
use Rattle.std.proofs.lemmas.Iterator.Splits.{YieldsList-from_lines}
use Rattle.std.proofs.lemmas.Iterator.Consumers.{YieldsList-turn, YieldsList-end}
use Rattle.siplocate_one.specs.Requests.{first_line}
use Rattle.siplocate_one.proofs.one.first_line.Goals as goal

first : (s u : _) (text : List ℕ) (r : Option (Bor (List ℕ))) (none : Bor (List ℕ)) → lines_rest s ≡ text → lines_steps s r u
    → none.now ≡ [] → (unwrap_or r none).now ≡ first_line text
first s u text None none e step empty =
    let whole = YieldsList-from_lines text e in
    let all = YieldsList-end whole [] s refl None u refl step in
    empty ∙ ap (λ (l : List (List ℕ)). get_or l 0 []) all.0
first s u text (Some line) none e step empty =
    let whole = YieldsList-from_lines text e in
    let this = YieldsList-turn whole [] s refl (Some line) u line refl step in
    this.1 ∙ get_or_default (lines text) 0 line.now [] this.0

pub returns : goal.returns
returns c = rw c.unwrap_or.ensures (first _ _ c.args.text.now c.next.result _ c.lines.ensures.rest c.next.ensures.steps refl)
