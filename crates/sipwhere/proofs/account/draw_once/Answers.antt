use Rattle.std.proofs.Common.{ap, sym, ◌∙◌, refl, ◌≡◌, ◌+◌, ◌^◌, ℕ}
use Rattle.sip_resolver.specs.Draws.{drawn}
use Rattle.sip_selection.specs.Choice.{targets}
use Rattle.sipwhere.specs.Accounts.{first_of, nothing}
use Rattle.sipwhere.proofs.Accounts.{draw-of}
use Rattle.sipwhere.proofs.Quiet.{begins-with, ok-map}
use Rattle.sipwhere.proofs.account.draw_once.Goals as goal

pub returns-in-Some-clause-draws : goal.returns-in-Some-clause-draws
returns-in-Some-clause-draws g c =
    let words : drawn c.args.settings.now.key (2 ^ 63 + c.from.result) ≡ drawn c.args.settings.now.key (2 ^ 63 + c.args.draw) =
    ap (λ (n : ℕ). drawn c.args.settings.now.key (2 ^ 63 + n)) c.from.ensures in
    let located = rw c.in-Targets.is at c.in_ok-targets.ensures.located in
    let begins = begins-with c.deref.result.now c.in-Some.target.now (sym c.in-Some.ensures.value) in
    let goes = sym located.1.is ∙ ap targets (sym c.deref.ensures.value ∙ begins.1) in
    ok-map c.count_first.result
    (λ counted. draw-of _ _ _ _ _ _ _ _ located.0 (rw (← words) located.1.gains)
    (first_of c.in-Some.target.now begins.0 goes counted))
    c.count_first.ensures

pub returns-in-Refused-clause-draws : goal.returns-in-Refused-clause-draws
returns-in-Refused-clause-draws g c =
    let words : drawn c.args.settings.now.key (2 ^ 63 + c.from.result) ≡ drawn c.args.settings.now.key (2 ^ 63 + c.args.draw) =
    ap (λ (n : ℕ). drawn c.args.settings.now.key (2 ^ 63 + n)) c.from.ensures in
    let located = rw c.in-Refused.is at c.in_ok-targets.ensures.located in
    draw-of _ _ _ _ _ _ _ _ located.0 (rw (← words) located.1.gains)
    (nothing (λ target others is. absurd (cc (located.1.is, is))) refl)

pub returns-clause-draws : goal.returns-clause-draws
returns-clause-draws g c =
    let words : drawn c.args.settings.now.key (2 ^ 63 + c.from.result) ≡ drawn c.args.settings.now.key (2 ^ 63 + c.args.draw) =
    ap (λ (n : ℕ). drawn c.args.settings.now.key (2 ^ 63 + n)) c.from.ensures in
    let located = rw c.in-Missing.is at c.in_ok-targets.ensures.located in
    draw-of _ _ _ _ _ _ _ _ located.0 (rw (← words) located.1.gains)
    (nothing (λ target others is. absurd (cc (is))) refl)
