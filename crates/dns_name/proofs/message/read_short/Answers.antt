use Rattle.std.proofs.Common.{◌≡◌, ℕ, ◌+◌, List, ◌++◌, length, take, slice_range, arith, ap, ◌∙◌, ◌≤◌}
use Rattle.std.proofs.lemmas.List.{append-nil, length-map}
use Rattle.std.specs.Char.{to_ascii_lowercase}
use Rattle.dns_name.specs.Labels.{small_letters}
use Rattle.dns_name.proofs.Padding.{IsPadded-more, take-more, used-length}
use Rattle.dns_name.proofs.SmallRuns.{run_none, run_size, label_within}
use Rattle.dns_name.proofs.ShortRuns.{short_grows, short_ends, short_length}
use Rattle.dns_name.proofs.Pieces.{OctetAt-front, LabelPiece-front, PointerPiece-front}
use Rattle.dns_name.proofs.Finding.{begun, past_label, past_pointer, found}
use Rattle.dns_name.proofs.message.read_short.Goals as goal

pub loop-octets-init : goal.loop-octets-init
loop-octets-init c =
    let none = run_none c.args.bytes.now c.args.at in
    record {
      within = omega arith;
      size = omega (arith, ap length none);
      counted = omega arith;
      short = omega arith;
      padded = c.requires.zeros;
      finding = rw none (begun c.args.bytes.now c.args.at);
    }

pub returns-in-Root : goal.returns-in-Root
returns-in-Root c =
    let bytes = c.args.bytes.now in
    let l = c.loop-octets in
    let passed : List ℕ = take l.passed l.octets in
    let run : List ℕ = slice_range bytes l.run_start (l.offset + 1) in
    let octets : List ℕ = passed ++ small_letters (slice_range bytes l.run_start l.offset) in
    let piece = rw c.in-Root.is at c.in_ok-piece_at.ensures in
    let here = OctetAt-front bytes l.limit l.offset l.invariant.within 0 piece in
    let begins : l.run_start ≤ l.offset = omega (arith, l.invariant.size) in
    let ends = short_ends bytes passed l.run_start l.offset here.0 begins in
    let size = short_length bytes passed l.run_start l.offset l.invariant.size in
    let whole = run_size bytes l.run_start (l.offset + 1) (omega (arith, begins)) (omega (arith, here.0.within)) in
    let room : length passed ≡ l.passed = used-length l.octets l.passed l.invariant.padded in
    let count : l.passed + length run ≡ l.count + 1 = omega (arith, whole, l.invariant.counted) in
    let count' : l.passed + length (small_letters run) ≡ l.count + 1 = omega (arith, count, length-map run to_ascii_lowercase) in
    let few : l.count + 1 ≤ 31 = omega (arith, l.invariant.short) in
    let put = rw count at c.put_small.ensures in
    let k = found bytes c.args.at l.offset l.run_start l.limit octets l.end l.invariant.finding here.0 (omega (arith, here.1))
    (omega (arith, size, room, l.invariant.counted, l.invariant.short)) in
    record {
      name = k.0;
      stands = rw c.unwrap_or.ensures k.1;
      spelled = rw put (take-more l.octets (small_letters run) l.passed (l.count + 1) l.invariant.padded count' few ∙ ends ∙ k.2);
      padded = rw put (IsPadded-more l.octets (small_letters run) l.passed (l.count + 1) l.invariant.padded count' few);
    }

pub loop-octets-preserved-in-Label : goal.loop-octets-preserved-in-Label
loop-octets-preserved-in-Label c =
    let bytes = c.args.bytes.now in
    let l = c.loop-octets in
    let passed : List ℕ = take l.passed l.octets in
    let octets : List ℕ = passed ++ small_letters (slice_range bytes l.run_start l.offset) in
    let label : List ℕ = c.in-Label.label.now in
    let n : ℕ = length label in
    let front = rw c.in-Label.is at c.in_ok-piece_at.ensures in
    let piece = LabelPiece-front bytes l.limit l.offset l.invariant.within label front in
    let begins : l.run_start ≤ l.offset = omega (arith, l.invariant.size) in
    let grown = short_grows bytes passed l.run_start l.offset (l.offset + 1 + n) n piece.behind piece.short begins
    (omega arith) in
    let next = past_label bytes c.args.at l.offset l.run_start l.limit octets l.end l.invariant.finding n
    (passed ++ small_letters (slice_range bytes l.run_start (l.offset + 1 + n))) piece.behind piece.some piece.short grown in
    let size = run_size bytes l.run_start (l.offset + 1 + n) (omega (arith, begins)) (label_within bytes l.offset label piece) in
    let offset : l.offset + 1 + n ≡ l.offset + (1 + n) = omega arith in
    record {
      within = omega arith;
      size = rw offset at size;
      counted = omega (arith, l.invariant.counted);
      short = omega (arith, c.if-count-ge-INLINE_LIMIT.false);
      padded = l.invariant.padded;
      finding = rw offset at next;
    }

pub loop-octets-preserved : goal.loop-octets-preserved
loop-octets-preserved c =
    let bytes = c.args.bytes.now in
    let l = c.loop-octets in
    let passed : List ℕ = take l.passed l.octets in
    let run : List ℕ = slice_range bytes l.run_start l.offset in
    let front = rw c.in-Pointer.is at c.in_ok-piece_at.ensures in
    let piece = PointerPiece-front bytes l.limit l.offset l.invariant.within c.in-Pointer.target front in
    let to = c.in_ok-run-in-Pointer.run' in
    let leads = c.in_ok-run-in-Pointer.ensures in
    let next = past_pointer bytes c.args.at l.offset l.run_start l.limit (passed ++ small_letters run) l.end l.invariant.finding
    c.in-Pointer.target to.start to.limit piece.0 leads piece.1 in
    let none = run_none bytes to.start in
    let count : l.passed + length run ≡ l.count = omega (arith, l.invariant.size, l.invariant.counted) in
    let count' : l.passed + length (small_letters run) ≡ l.count = omega (arith, count, length-map run to_ascii_lowercase) in
    let few : l.count ≤ 31 = omega (arith, l.invariant.short) in
    let put = rw count at c.put_small-in-Pointer.ensures in
    let taken = take-more l.octets (small_letters run) l.passed l.count l.invariant.padded count' few in
    record {
      within = omega (arith, leads.within, l.invariant.size, l.invariant.within, piece.1);
      size = omega (arith, ap length none);
      counted = omega arith;
      short = l.invariant.short;
      padded = rw put (IsPadded-more l.octets (small_letters run) l.passed l.count l.invariant.padded count' few);
      finding = rw (put, taken, none, append-nil (passed ++ small_letters run), c.unwrap_or-in-Pointer.ensures) next;
    }
