use Rattle.std.proofs.Common.{◌≡◌, ◌-◌, List, ℕ, length, take, drop, ap, arith}
use Rattle.std.proofs.Math.Seq.{take-add}
use Rattle.std.proofs.lemmas.List.{length-drop, take_all}
use Rattle.sip_options.specs.Texts.{none}
use Rattle.sip_options.proofs.Repeats.{many-push}
use Rattle.sip_options.proofs.pieces.cut.Goals as goal

pub loop-count-init : goal.loop-count-init
loop-count-init g c = record { within = omega arith; many = none }

pub loop-count-preserved : goal.loop-count-preserved
loop-count-preserved g c =
    let text : List ℕ = c.args.text.now in
    let at : ℕ = c.loop-count.at in
    let count : ℕ = c.in-Some.count in
    let found = c.in-Some.ensures.found in
    let all : take (length text - at) (drop at text) ≡ drop at text =
    take_all (length text - at) (drop at text) (omega (arith, length-drop at text)) in
    let piece : g.P.Piece.is_one c.args.piece (take count (drop at text)) = rw all at found.2 in
    let longer = many-push (take at text) (take count (drop at text)) c.loop-count.invariant.many piece in
    record {
      within = omega (arith, found.1, length-drop at text, ap length all, c.loop-count.invariant.within);
      many = rw (take-add at count text) longer;
    }
