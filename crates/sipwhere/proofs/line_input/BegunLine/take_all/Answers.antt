use Rattle.std.proofs.Common.{◌≡◌, ◌+◌, ◌++◌, ◌∷◌, [], List, ℕ, get_or, map, take, sym, subst, ap, ◌∙◌, append_assoc, arith}
use Rattle.std.proofs.lemmas.List.{take_all as take_whole, take_more}
use Rattle.std.specs.String.{string_bytes}
use Rattle.sipwhere.specs.LineInputs.{IsReading}
use Rattle.sipwhere.proofs.line_input.BegunLine.take_all.Goals as goal

pub octets-preserved : goal.octets-preserved
octets-preserved c read before it =
    let octets : List ℕ = c.args.octets.now in
    let at = c.octets.octet-index in
    let octet = get_or octets at 0 in
    let same : (read ++ take at octets) ++ octet ∷ [] ≡ read ++ take (at + 1) octets =
    append_assoc read (take at octets) (octet ∷ []) ∙ ap (λ l. read ++ l) (sym (take_more octets at 0 c.octets-test.true)) in
    subst (λ r. IsReading r (before ++ map string_bytes c.take.new.texts.items) c.take.new.self.kept.items) same
    (c.in_ok-take.ensures (read ++ take at octets) before (c.octets.invariant read before it))

pub returns : goal.returns
returns c read before it =
    let octets : List ℕ = c.args.octets.now in
    let at = c.octets.octet-index in
    subst (λ l. IsReading (read ++ l) (before ++ map string_bytes c.octets.texts.items) c.octets.self.kept.items)
    (take_whole at octets (omega arith)) (c.octets.invariant read before it)
