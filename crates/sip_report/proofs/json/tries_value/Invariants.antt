use Rattle.std.proofs.Common.{◌≡◌, map, take}
use Rattle.serde_json.specs.View.{view}
use Rattle.sip_report.specs.Jsons.{try_data}
use Rattle.sip_report.proofs.json.tries_value.Given as goal

abbrev pub invariant-tries : goal.invariant-tries
invariant-tries l = map view l.items.items ≡ map (try_data l.form l.verify) (take l.it-index l.tries)
