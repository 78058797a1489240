use Rattle.std.proofs.Common.{sym, ap, ◌∙◌}
use Rattle.std.proofs.lemmas.Slice.Eq.{bytes_eq-Decides}
use Rattle.dns_name.specs.Octets.{words_of}
use Rattle.dns_name.proofs.Padding.{same_words}
use Rattle.dns_name.proofs.octets.are_same.Goals as goal

pub returns : goal.returns
returns c =
    let a = c.args.octets.now in
    let b = c.args.others.now in
    let decides = bytes_eq-Decides c.words_of.result c.words_of-2.result in (
      λ yes'. same_words a b c.told-octets c.told-others c.fits-octets c.fits-others
          (sym c.words_of.ensures ∙ decides.0 (sym c.eq.ensures ∙ yes') ∙ c.words_of-2.ensures),
      λ same. c.eq.ensures ∙ decides.1 (c.words_of.ensures ∙ ap words_of same ∙ sym c.words_of-2.ensures),
    )
