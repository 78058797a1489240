use Rattle.std.proofs.Common.{refl, ap, length, arith, ◌∙◌}
use Rattle.std.proofs.lemmas.List.{length-append}
use Rattle.dns_name.proofs.Padding.{IsPadded-front}
use Rattle.dns_name.proofs.octets.Octets.joined.Goals as goal

pub inline-requires : goal.inline-requires
inline-requires c =
    IsPadded-front c.copy_both.new.octets _ _ (ap length c.copy_both.ensures ∙ length-append c.args.front.now c.args.behind.now)
    (omega arith) refl refl
