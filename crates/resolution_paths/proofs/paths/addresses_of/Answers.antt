use Rattle.std.proofs.Common.{ap, map}
use Rattle.std.specs.Arc.{arc_value}
use Rattle.resolution_paths.specs.Paths.{AreAddressesOf, IsAnswerTo}
use Rattle.resolution_paths.specs.Sources.{Said}
use Rattle.resolution_paths.proofs.More.{Joined-pair, adds-both, adds-whole}
use Rattle.resolution_paths.proofs.paths.addresses_of.Goals as goal

pub returns-clause-addresses : goal.returns-clause-addresses
returns-clause-addresses g c = λ start went.
    let said = Said g.S.AnswerSource.goes (g.S.AnswerSource.says c.args.source.now) start in
    adds-whole (AreAddressesOf said c.args.name.now) _ _ (ap (map arc_value) c.new-answers.ensures.items)
    (adds-both _ _ (AreAddressesOf said c.args.name.now) _ _ _
    (λ v4 v6 first second. Joined-pair (IsAnswerTo said c.args.name.now) _ _ v4 v6 first second)
    (c.in_ok-push_answer.ensures.answer start went)
    (c.in_ok-push_answer-2.ensures.answer start (c.push_answer.ensures.went start went)))
