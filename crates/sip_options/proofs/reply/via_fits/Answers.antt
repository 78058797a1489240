use Rattle.std.proofs.Common.{◌≡◌, true, false, List, ℕ, sym, subst}
use Rattle.sip_options.specs.Requests.{branch_text}
use Rattle.sip_options.specs.Texts.{IsWord}
use Rattle.sip_options.specs.Vias.{FirstHasBranch}
use Rattle.sip_options.specs.declared.field.Field.TheVariants.{Via}
use Rattle.sip_options.proofs.ReplyTexts.{one_first}
use Rattle.sip_options.proofs.TokenTexts.{branch_starts}
use Rattle.sip_options.proofs.reply.via_fits.Goals as goal

pub first_has_branch-requires : goal.first_has_branch-requires
first_has_branch-requires c = λ front rest is.
    branch_starts c.args.number front rest (subst (λ (word : List ℕ). IsWord word front) c.branch-number.ensures is)

pub returns-in-Some : goal.returns-in-Some
returns-in-Some c =
    let via = c.in-Some.via.now in (
      λ yes. (
        via,
        c.in-Some.ensures.found,
        subst (λ (branch : List ℕ). FirstHasBranch branch via) c.branch-number.ensures (c.first_has_branch.ensures.0 yes),
      ),
      λ fits.
          let same = one_first Via c.args.text.now fits.0 via fits.1 c.in-Some.ensures.found in
          let has = subst (λ (value : List ℕ). FirstHasBranch (branch_text c.args.number) value) same fits.2 in
          c.first_has_branch.ensures.1 (subst (λ (branch : List ℕ). FirstHasBranch branch via) (sym c.branch-number.ensures) has),
    )

pub returns-in-None : goal.returns-in-None
returns-in-None c = (
  λ no. absurd (let differ : false ≡ true = no in cc),
  λ fits. absurd (c.in-None.ensures.none fits.0 fits.1),
)
