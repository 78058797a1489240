use Rattle.std.proofs.Common.{◌≡◌, ◌++◌, true, false, List, ℕ, sym, subst}
use Rattle.sip_options.specs.Requests.{token}
use Rattle.sip_options.specs.Texts.{Ends, IsOctet, IsAlone, is_white}
use Rattle.sip_options.specs.declared.field.Field.TheVariants.{CallId}
use Rattle.sip_options.proofs.ReplyTexts.{one_only}
use Rattle.sip_options.proofs.TokenTexts.{token_starts}
use Rattle.sip_options.proofs.reply.call_id_fits.Goals as goal

pub is_alone-requires : goal.is_alone-requires
is_alone-requires c = λ rest.
    subst (λ (word : List ℕ). Ends (IsOctet is_white) (word ++ rest)) (sym c.token.ensures) (token_starts c.args.number rest)

pub returns-in-Some : goal.returns-in-Some
returns-in-Some c =
    let id = c.in-Some.call_id.now in (
      λ yes. (
        id,
        c.in-Some.ensures.found,
        subst (λ (word : List ℕ). IsAlone word id) c.token.ensures (c.is_alone.ensures.0 yes),
      ),
      λ fits.
          let same = one_only CallId c.args.text.now fits.0 id fits.1 c.in-Some.ensures.found in
          let alone = subst (λ (value : List ℕ). IsAlone (token c.args.number) value) same fits.2 in
          c.is_alone.ensures.1 (subst (λ (word : List ℕ). IsAlone word id) (sym c.token.ensures) alone),
    )

pub returns-in-None : goal.returns-in-None
returns-in-None c = (
  λ no. absurd (let differ : false ≡ true = no in cc),
  λ fits. absurd (c.in-None.ensures.none fits.0 fits.1),
)
