use Rattle.std.proofs.Common.{inl, inr, refl, ◌∙◌, rules}
use Rattle.siplocate.proofs.Parts.{boundary, found, front_cut, next, none_left, not_both}
use Rattle.siplocate.proofs.requests.parts.Goals as goal

pub range-requires-clause-end_boundary : goal.range-requires-clause-end_boundary
range-requires-clause-end_boundary c = boundary c.args.text.now c.lines.rest.now c.lines.invariant.scanned c.utf8.text

pub returns-then-is_blank : goal.returns-then-is_blank
returns-then-is_blank c =
    let s = c.lines.invariant.scanned in
    let line = c.in-Some.ensures in
    let empty = rw line.0 at c.if-is_blank.ensures.0 refl in
    let front = c.range.ensures.value ∙ front_cut c.args.text.now c.lines.rest.now s in
    inl (rw (front, line.1) (found c.args.text.now c.lines.rest.now s line.2 empty))

pub lines-preserved : goal.lines-preserved
lines-preserved c =
    let s = c.lines.invariant.scanned in
    let line = c.in-Some.ensures in
    record {
      is_text = search rules;
      scanned = rw line.1 (next c.args.text.now c.lines.rest.now s line.2
          (λ none. not_both (c.if-is_blank.ensures.1 (inl (line.0 ∙ none))))
          (λ return. not_both (c.if-is_blank.ensures.1 (inr (line.0 ∙ return)))));
    }

pub returns : goal.returns
returns c = inr (none_left c.args.text.now c.lines.rest.now c.lines.invariant.scanned c.in_default.ensures, refl, refl)
