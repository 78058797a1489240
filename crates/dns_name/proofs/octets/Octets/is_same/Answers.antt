use Rattle.std.proofs.Common.{◌≡◌, ℕ, take, sym, ap, ◌∙◌, arith}
use Rattle.std.proofs.lemmas.Bool.Decides.{nat_tests}
use Rattle.dns_name.proofs.Padding.{octets_in-value, same_padded}
use Rattle.dns_name.proofs.octets.Octets.is_same.Goals as goal
use Rattle.dns_name.proofs.octets.Octets.is_same.Goals.{Joined-self-other, then-self-other, else-self-other}

here : (c : Joined-self-other) → c.args.self.now ≡ take c.self.inside.length c.self.inside.inline
here c =
    sym c.self.view_is
    ∙ octets_in-value c.self.inside.heap.items c.self.inside.inline c.self.inside.length
    (grind (arith, nat_tests, c.is_empty.ensures, c.if-is_empty.true))

there : (c : Joined-self-other) → c.args.other.now ≡ take c.other.inside.length c.other.inside.inline
there c =
    sym c.other.view_is
    ∙ octets_in-value c.other.inside.heap.items c.other.inside.inline c.other.inside.length
    (grind (arith, nat_tests, c.is_empty-then-is_empty.ensures, c.if-is_empty-2.true))

pub returns-then-is_empty-2 : goal.returns-then-is_empty-2
returns-then-is_empty-2 c =
    let padded = same_padded c.self.inside.inline c.other.inside.inline c.self.inside.length c.other.inside.length
    c.self.invariant c.other.invariant in
    elim c.if-self-other.branch [
      | then-self-other w ↦ (
        λ yes'. here c
            ∙ ap (λ (n : ℕ). take n c.self.inside.inline) w.if-self-other.true
            ∙ ap (take c.other.inside.length) (w.are_same.ensures.0 (sym w.result-is ∙ yes'))
            ∙ sym (there c),
        λ same. w.result-is ∙ w.are_same.ensures.1 (padded (sym (here c) ∙ same ∙ there c)).1,
      )
      | else-self-other w ↦ (
        λ yes'. absurd (w.if-self-other.false (grind (arith, nat_tests, w.result-is, yes'))),
        λ same. absurd (w.if-self-other.false (padded (sym (here c) ∙ same ∙ there c)).0),
      )
    ]
