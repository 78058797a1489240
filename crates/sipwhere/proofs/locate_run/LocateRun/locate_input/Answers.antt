use Rattle.std.proofs.Common.{◌≡◌, ◌+◌, ◌++◌, length, map, sym, subst, ap, ◌∙◌, inl, inr, append-nil, arith}
use Rattle.std.proofs.lemmas.Bool.Decides.{nat_tests}
use Rattle.std.proofs.lemmas.List.{length-append, length-map}
use Rattle.std.specs.String.{string_bytes}
use Rattle.sipwhere.specs.LineInputs.{AreTexts, numbered_from, said}
use Rattle.sipwhere.proofs.Inputs.{consumes-more, counted-on, given-over, length-numbered, none-of, numbered-held}
use Rattle.sipwhere.proofs.Told.{texts-on}
use Rattle.sipwhere.proofs.locate_run.LocateRun.locate_input.Goals as goal

pub returns-then-is_empty-clause-run : goal.returns-then-is_empty-clause-run
returns-then-is_empty-clause-run g c =
    let was = c.parts.invariant.read in
    let items = c.in-Ok-next_texts.texts.items in
    let more = map string_bytes items in
    let size : length items ≡ 0 = grind (arith, nat_tests, c.is_empty.ensures, c.if-is_empty.true) in
    let none = none-of items size in
    let next = c.in-Ok-next_texts.ensures.gives was.0 was.1 was.3 in
    let over = given-over (was.0 ++ next.0) (was.1 ++ more) c.next_texts.new.self (c.in-Ok-next_texts.ensures.end none) next.2 in
    let same = ap (λ l. was.1 ++ map string_bytes l) none ∙ append-nil was.1 in
    elim was.5 [
      | inl five ↦ inl five
      | inr told ↦ inr (
        was.1,
        record {
          octets = was.0 ++ next.0;
          after = c.next_texts.new.self.left;
          read = consumes-more _ _ _ was.0 next.0 was.2 next.1;
          whole = over.1;
          are = subst (AreTexts (was.0 ++ next.0)) same over.0;
        },
        record { statuses = told.0; told = told.1; gravest = told.2 },
      )
    ]

pub returns-then-told-clause-run : goal.returns-then-told-clause-run
returns-then-told-clause-run g c =
    inl (c.and-told.ensures.ended c.parts.invariant.closed c.locate_lines.ensures.closed c.parts.invariant.range
    c.locate_lines.ensures.range c.if-told.true)

pub parts-preserved : goal.parts-preserved
parts-preserved g c =
    let was = c.parts.invariant.read in
    let more = map string_bytes c.in-Ok-next_texts.texts.items in
    let next = c.in-Ok-next_texts.ensures.gives was.0 was.1 was.3 in
    let lines = c.in-Ok-lines_of.lines.items in
    let numbered : map said lines ≡ numbered_from c.parts.first more =
    c.in-Ok-lines_of.ensures ∙ ap (λ l. numbered_from c.parts.first (map string_bytes l)) c.as_slice.ensures.value in
    let sizes : length lines ≡ length more = sym (length-map lines said) ∙ ap length numbered ∙ length-numbered c.parts.first more in
    let count : c.as_slice-lines.result.now ≡ lines = c.as_slice-lines.ensures.value in
    let here = numbered ∙ ap (λ n. numbered_from n more) was.4 ∙ numbered-held (1 + length was.1) more in
    let before = c.parts.self in
    let run = rw (c.parts.invariant.settings, count) at c.locate_lines.ensures.run in
    record {
      settings = c.locate_lines.ensures.settings ∙ c.parts.invariant.settings;
      read = (
        was.0 ++ next.0,
        was.1 ++ more,
        consumes-more _ _ _ was.0 next.0 was.2 next.1,
        next.2,
        counted-on c.saturating_add-first.result c.parts.first (length c.as_slice-lines.result.now) (length was.1) (length more) _
            c.saturating_add-first.ensures (ap length count ∙ sizes) was.4 (length-append was.1 more),
        texts-on _ _ _ _ before.seat _ was.1 more lines _ before.printed _ c.parts.told.status c.locate_lines.result.status _
            c.locate_lines.ensures.later (λ five. c.and-told.ensures.fault five c.parts.invariant.range c.locate_lines.ensures.range)
            c.and-told.ensures.status was.5 here run,
      );
      range = c.and-told.ensures.range c.parts.invariant.range c.locate_lines.ensures.range;
      closed = c.and-told.ensures.ended c.parts.invariant.closed c.locate_lines.ensures.closed c.parts.invariant.range
          c.locate_lines.ensures.range;
    }
