use Rattle.std.proofs.Common.{◌∙◌, ap, sym, subst, inl, inr}
use Rattle.std.proofs.lemmas.List.{take_all}
use Rattle.std.specs.List.{Contains}
use Rattle.std.specs.Prelude.{IsTrue}
use Rattle.sipwhere.specs.Accounts.{targets_of}
use Rattle.sip_report.specs.declared.account.FirstCount.{FirstCount}
use Rattle.sipwhere.proofs.Counts.{contains-more, get-of}
use Rattle.sipwhere.proofs.account.place_of.Goals as goal

pub returns-then-is_of-clause-found : goal.returns-then-is_of-clause-found
returns-then-is_of-clause-found c = λ it got.
    let yes : IsTrue c.is_of.result = c.if-is_of.true in
    ap (λ (x : FirstCount). x.target) (sym (get-of c.args.firsts.now c.firsts.place it _ got)) ∙ c.is_of.ensures.0 yes

pub firsts-preserved : goal.firsts-preserved
firsts-preserved c = λ has.
    elim (contains-more c.args.firsts.now c.firsts.place c.args.target _ c.firsts-test.true has) [
      | inl before ↦ c.firsts.invariant before
      | inr here ↦ (let yes : IsTrue c.is_of.result = c.is_of.ensures.1 here in
          let no : IsTrue c.is_of.result → ⊥ = rw c.if-is_of.false (λ is. absurd (cc (is))) in no yes)
    ]

pub returns-clause-none : goal.returns-clause-none
returns-clause-none c = λ none has.
    let all = take_all c.firsts.place c.args.firsts.now c.firsts-test.false in
    c.firsts.invariant (subst (λ l. Contains (targets_of l) c.args.target) (sym all) has)
