use Rattle.std.proofs.Common.{◌≡◌, map, take}
use Rattle.serde_json.specs.View.{view}
use Rattle.sip_report.specs.Jsons.{target_data}
use Rattle.sip_report.proofs.json.targets_value.Given as goal

abbrev pub invariant-targets : goal.invariant-targets
invariant-targets l = map view l.items.items ≡ map (target_data l.form l.verify) (take l.target-index l.targets)
