use Rattle.std.proofs.Common.{◌++◌, ◌∷◌, [], map, sym, ap, subst, ◌∙◌, append_assoc}
use Rattle.std.specs.List.{filter}
use Rattle.std.specs.Str.{trim}
use Rattle.std.specs.Str.Lossy.{utf8_lossy}
use Rattle.std.specs.String.{string_bytes}
use Rattle.sipwhere.specs.LineInputs.{IsReading, has_some}
use Rattle.sipwhere.proofs.Inputs.{reading-end, reading-more}
use Rattle.sipwhere.proofs.Results.{on_ok, on_ok_both}
use Rattle.sipwhere.proofs.line_input.BegunLine.take.Goals as goal

pub returns-then-octet-eq10 : goal.returns-then-octet-eq10
returns-then-octet-eq10 c =
    on_ok_both c.end.result (λ text begun read before it.
    let more = filter has_some (trim (utf8_lossy c.args.self.now.kept.items) ∷ []) in
    let old = map string_bytes c.args.texts.now.items in
    let next = c.end.new.self.kept.items in
    subst (λ octet. IsReading (read ++ octet ∷ []) (before ++ map string_bytes c.end.new.texts.items) next) (sym c.if-octet-eq10.true)
    (subst (λ texts. IsReading (read ++ 10 ∷ []) texts next) (append_assoc before old more ∙ ap (λ l. before ++ l) (sym text))
    (reading-end read (before ++ old) c.args.self.now.kept.items next it begun)))
    c.end.ensures.text c.end.ensures.begun

pub returns : goal.returns
returns c =
    on_ok c.keep.result (λ keeps read before it. reading-more read _ _ _ c.args.octet it c.if-octet-eq10.false keeps) c.keep.ensures
