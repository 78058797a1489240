use Rattle.std.proofs.Common.{◌++◌, refl, ap, length, arith, ◌∙◌}
use Rattle.std.specs.Char.{to_ascii_lowercase}
use Rattle.std.proofs.lemmas.List.{length-append, length-map}
use Rattle.dns_name.proofs.Padding.{IsPadded-front}
use Rattle.dns_name.proofs.message.small_octets.Goals as goal

pub inline-requires : goal.inline-requires
inline-requires c =
    let passed = c.args.passed.now in
    let last = c.args.last.now in
    IsPadded-front c.write_runs-2.new.octets _ _
    (ap length c.write_runs-2.ensures ∙ length-map (passed ++ last) to_ascii_lowercase ∙ length-append passed last) (omega arith) refl refl
