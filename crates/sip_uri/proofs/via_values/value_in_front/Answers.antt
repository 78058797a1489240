use Rattle.std.proofs.Common.{◌≡◌, Some, sym}
use Rattle.sip_uri.specs.Readers.Vias.{behind_value}
use Rattle.sip_uri.proofs.ViaValues.{value_within}
use Rattle.sip_uri.proofs.via_values.value_in_front.Goals as goal

pub slice_bounds-result-count : goal.slice_bounds-result-count
slice_bounds-result-count c =
    let e : behind_value c.args.text.now ≡ Some c.in_ok-behind.behind.now = sym c.in_ok-behind.ensures in
    value_within c.args.text.now c.in_ok-behind.behind.now e
