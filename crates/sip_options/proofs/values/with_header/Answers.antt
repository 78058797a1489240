use Rattle.std.proofs.Common.{◌≡◌, ℕ, List, [], ◌∷◌, ◌++◌, sym, ap, ◌∙◌}
use Rattle.sip_options.specs.Readers.Headers.{header_of}
use Rattle.sip_options.proofs.HeaderLists.{with_here}
use Rattle.sip_options.proofs.values.with_header.Goals as goal

pub returns-in-One : goal.returns-in-One
returns-in-One c = λ all are.
    let one : all ≡ c.in-One.first.now ∷ [] = rw c.in-One.is at are in
    let here = with_here c.args.field all (header_of c.args.header) (sym c.is_named.ensures ∙ c.if-not-is_named.false) in
    (c.args.header.value.now, [], here ∙ ap (λ (x : List (List ℕ)). x ++ c.args.header.value.now ∷ []) one)

pub returns-in-Several : goal.returns-in-Several
returns-in-Several c = λ all are.
    let several : (next : List ℕ) × (others : List (List ℕ)) × (all ≡ c.in-Several.first.now ∷ next ∷ others) =
    rw c.in-Several.is at are in
    let here = with_here c.args.field all (header_of c.args.header) (sym c.is_named.ensures ∙ c.if-not-is_named.false) in (
      several.0,
      several.1 ++ c.args.header.value.now ∷ [],
      here ∙ ap (λ (x : List (List ℕ)). x ++ c.args.header.value.now ∷ []) several.2,
    )
