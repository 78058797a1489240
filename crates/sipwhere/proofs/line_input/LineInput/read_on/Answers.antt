use Rattle.std.proofs.Common.{◌++◌, ◌∷◌, [], map, take, sym, subst, ap, ◌∙◌, append_assoc}
use Rattle.std.specs.Io.KnownBytes.{Consumes}
use Rattle.std.specs.List.{filter}
use Rattle.std.specs.Str.{trim}
use Rattle.std.specs.Str.Lossy.{utf8_lossy}
use Rattle.std.specs.String.{string_bytes}
use Rattle.sipwhere.specs.LineInputs.{AreTexts, IsReading, has_some}
use Rattle.sipwhere.proofs.Inputs.{given-open, given-so, reading-last}
use Rattle.sipwhere.proofs.line_input.LineInput.read_on.Goals as goal

pub returns-else-count-eq0 : goal.returns-else-count-eq0
returns-else-count-eq0 g c read before it =
    let view = c.self.view_is in
    let next = take c.in_ok-count.count c.read_part.new.part.items in
    let start = subst (λ b. IsReading read (before ++ map string_bytes c.args.texts.now.items) b) (sym (ap (λ v. v.begun) view))
    (given-open read _ c.args.self.now c.requires.open it) in
    let shut = ap (λ v. v.is_over) view ∙ c.requires.open in (
      next,
      subst (λ l. Consumes l (g.R.Read.remaining c.read_part.new.input) next) (ap (λ v. v.left) view) c.in_ok-count.ensures.read,
      given-so (read ++ next) _ _ shut
          (subst (λ n. IsReading (read ++ take c.in_ok-count.count n) (before ++ map string_bytes c.take_all.new.texts.items)
          c.take_all.new.self.kept.items)
          c.deref.ensures.value (c.in_ok-take_all.ensures read before start)),
    )

pub returns-in_ok-end : goal.returns-in_ok-end
returns-in_ok-end g c read before it =
    let view = c.self.view_is in
    let next = take c.in_ok-count.count c.read_part.new.part.items in
    let start = subst (λ b. IsReading read (before ++ map string_bytes c.args.texts.now.items) b) (sym (ap (λ v. v.begun) view))
    (given-open read _ c.args.self.now c.requires.open it) in
    let reading = subst (λ n. IsReading (read ++ take c.in_ok-count.count n) (before ++ map string_bytes c.take_all.new.texts.items)
    c.take_all.new.self.kept.items)
    c.deref.ensures.value (c.in_ok-take_all.ensures read before start) in
    let most = map string_bytes c.take_all.new.texts.items in
    let last = filter has_some (trim (utf8_lossy c.take_all.new.self.kept.items) ∷ []) in (
      next,
      subst (λ l. Consumes l (g.R.Read.remaining c.read_part.new.input) next) (ap (λ v. v.left) view) c.in_ok-count.ensures.read,
      (
        subst (AreTexts (read ++ next)) (append_assoc before most last ∙ ap (λ l. before ++ l) (sym c.in_ok-end.ensures.text))
            (reading-last (read ++ next) (before ++ most) c.take_all.new.self.kept.items reading),
        c.in_ok-count.ensures.end c.if-count-eq0.true,
      ),
    )
