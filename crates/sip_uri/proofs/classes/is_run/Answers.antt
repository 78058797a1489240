use Rattle.std.proofs.Common.{◌≡◌, ◌<◌, Bool, List, ℕ, [], ◌∷◌, Some, None, true, length, sym, ap, refl, ◌∙◌, arith}
use Rattle.std.proofs.lemmas.Bool.Decides.{nat_tests}
use Rattle.sip_uri.specs.ViaClasses.{behind_row}
use Rattle.sip_uri.specs.Readers.Runs.{octets_of, is_run, behind_escaped}
use Rattle.sip_uri.proofs.ClassTable.{no_percent}
use Rattle.sip_uri.proofs.ViaRows.{behind_ends, length_behind_row}
use Rattle.sip_uri.proofs.RunSteps.{behind_plain, no_escape, escape_more}
use Rattle.sip_uri.proofs.classes.is_run.Goals as goal
use Rattle.sip_uri.proofs.classes.is_run.Goals.{After-cut, In-Some}

-- what is left of the run behind the octets of the class
left : (c : After-cut) → is_run (octets_of c.args.class) c.args.text.now
    ≡ is_run (octets_of c.args.class) (behind_row (octets_of c.args.class) c.loop-behind.rest.now)
left c = sym c.loop-behind.invariant ∙ behind_plain (octets_of c.args.class) c.loop-behind.rest.now (no_percent c.args.class)

none_left : (class : ℕ → Bool) (text : List ℕ) → length text ≡ 0 → true ≡ is_run class text
none_left class [] none = refl
none_left class (x ∷ text) none = absurd (omega arith)

pub returns-then-is_empty : goal.returns-then-is_empty
returns-then-is_empty c =
    let class : ℕ → Bool = octets_of c.args.class in
    let rest : List ℕ = c.loop-behind.rest.now in
    let long : length c.cut.result.1.now ≡ length (behind_row class rest) = ap length c.cut.ensures.back in
    let is : length c.cut.result.1.now ≡ 0 = grind (arith, nat_tests, c.if-is_empty.true, c.is_empty.ensures) in
    let none : length (behind_row class rest) ≡ 0 = omega arith in
    none_left class (behind_row class rest) none ∙ sym (left (goal.at.returns-then-is_empty c).After-cut)

pub returns-in-None : goal.returns-in-None
returns-in-None c =
    let class : ℕ → Bool = octets_of c.args.class in
    let rest : List ℕ = c.loop-behind.rest.now in
    let long : length c.cut.result.1.now ≡ length (behind_row class rest) = ap length c.cut.ensures.back in
    let is : 0 < length c.cut.result.1.now = grind (arith, nat_tests, c.if-is_empty.false, c.is_empty.ensures) in
    let some : 0 < length (behind_row class rest) = omega arith in
    let none : behind_escaped (behind_row class rest) ≡ None =
    rw (c.in-None.is, c.cut.ensures.back) at (sym c.behind_escaped.ensures) in
    sym (left (goal.at.returns-in-None c).After-cut ∙ no_escape class (behind_row class rest) (behind_ends class rest) some none)

escaped : (c : In-Some) → behind_escaped (behind_row (octets_of c.args.class) c.loop-behind.rest.now) ≡ Some c.in-Some.behind.now
escaped c = rw (c.in-Some.is, c.cut.ensures.back) at (sym c.behind_escaped.ensures)

pub loop-behind-smaller : goal.loop-behind-smaller
loop-behind-smaller c =
    let class : ℕ → Bool = octets_of c.args.class in
    let rest : List ℕ = c.loop-behind.rest.now in
    let k = escape_more class (behind_row class rest) c.in-Some.behind.now (escaped c) in
    omega (arith, k.1, length_behind_row class rest)

pub loop-behind-preserved : goal.loop-behind-preserved
loop-behind-preserved c =
    let class : ℕ → Bool = octets_of c.args.class in
    let rest : List ℕ = c.loop-behind.rest.now in
    let k = escape_more class (behind_row class rest) c.in-Some.behind.now (escaped c) in
    sym (left (goal.at.loop-behind-preserved c).After-cut ∙ k.0)
