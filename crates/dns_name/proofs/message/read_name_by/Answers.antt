use Rattle.std.proofs.Common.{◌≡◌, ℕ, ◌+◌, List, ◌++◌, length, take, slice_range, arith, refl, ap, ◌∙◌, ◌≤◌}
use Rattle.std.proofs.lemmas.List.{append-nil, length-append}
use Rattle.dns_name.specs.Labels.{small_letters}
use Rattle.dns_name.proofs.Runs.{one_reading, IsName-at}
use Rattle.dns_name.proofs.SmallRuns.{run_none, run_size, small_grows, small_ends, small_length, label_within}
use Rattle.dns_name.proofs.Pieces.{OctetAt-front, LabelPiece-front, PointerPiece-front}
use Rattle.dns_name.proofs.Finding.{begun, past_label, past_pointer, found, read, no_offset, no_room}
use Rattle.dns_name.proofs.message.read_name_by.Goals as goal

pub loop-front-init : goal.loop-front-init
loop-front-init c =
    let none = run_none c.args.bytes.now c.args.at in
    record {
      within = omega arith;
      size = omega (arith, ap length none);
      counted = omega arith;
      short = omega arith;
      filled = refl;
      finding = rw none (begun c.args.bytes.now c.args.at);
    }

pub small_name-requires-clause-name : goal.small_name-requires-clause-name
small_name-requires-clause-name c =
    let bytes = c.args.bytes.now in
    let l = c.loop-front in
    let octets : List ℕ = small_letters (take l.passed l.front ++ slice_range bytes l.start l.offset) in
    let size = small_length bytes (take l.passed l.front) l.start l.offset l.invariant.size in
    let short : length octets ≤ 254 = omega (arith, size, l.invariant.counted, l.invariant.filled, l.invariant.short) in
    let piece = rw c.in-Some-Root.field-0-is at c.in-Some-Root.ensures in
    let here = OctetAt-front bytes l.limit l.offset l.invariant.within 0 piece in
    let ends = small_ends bytes (take l.passed l.front) l.start l.offset here.0 (omega (arith, l.invariant.size)) in
    let k = found bytes c.args.at l.offset l.start l.limit octets l.after l.invariant.finding here.0 (omega arith) short in
    (k.0, IsName-at bytes {name = k.0} k.1, ends ∙ k.2)

-- what was to be kept stands there
pub returns-in_err-name-in-Some-Root-clause-memory : goal.returns-in_err-name-in-Some-Root-clause-memory
returns-in_err-name-in-Some-Root-clause-memory c = λ _.
    let bytes = c.args.bytes.now in
    let l = c.loop-front in
    let octets : List ℕ = small_letters (take l.passed l.front ++ slice_range bytes l.start l.offset) in
    let size = small_length bytes (take l.passed l.front) l.start l.offset l.invariant.size in
    let short : length octets ≤ 254 = omega (arith, size, l.invariant.counted, l.invariant.filled, l.invariant.short) in
    let piece = rw c.in-Some-Root.field-0-is at c.in-Some-Root.ensures in
    let here = OctetAt-front bytes l.limit l.offset l.invariant.within 0 piece in
    let k = found bytes c.args.at l.offset l.start l.limit octets l.after l.invariant.finding here.0 (omega arith) short in
    (k.0, _, k.1)

pub returns-in-Some-Root-clause-found : goal.returns-in-Some-Root-clause-found
returns-in-Some-Root-clause-found c =
    let bytes = c.args.bytes.now in
    let l = c.loop-front in
    let octets : List ℕ = small_letters (take l.passed l.front ++ slice_range bytes l.start l.offset) in
    let size = small_length bytes (take l.passed l.front) l.start l.offset l.invariant.size in
    let short : length octets ≤ 254 = omega (arith, size, l.invariant.counted, l.invariant.filled, l.invariant.short) in
    let piece = rw c.in-Some-Root.field-0-is at c.in-Some-Root.ensures in
    let here = OctetAt-front bytes l.limit l.offset l.invariant.within 0 piece in
    let ends = small_ends bytes (take l.passed l.front) l.start l.offset here.0 (omega (arith, l.invariant.size)) in
    rw c.unwrap_or.ensures
    (read bytes c.args.at l.offset l.start l.limit octets l.after l.invariant.finding here.0 (omega arith) short
    c.in_ok-name-in-Some-Root.name (c.in_ok-name-in-Some-Root.ensures ∙ ends))

pub returns-in-Some-Root-clause-read : goal.returns-in-Some-Root-clause-read
returns-in-Some-Root-clause-read c = λ name end there.
    let bytes = c.args.bytes.now in
    let l = c.loop-front in
    let octets : List ℕ = small_letters (take l.passed l.front ++ slice_range bytes l.start l.offset) in
    let size = small_length bytes (take l.passed l.front) l.start l.offset l.invariant.size in
    let short : length octets ≤ 254 = omega (arith, size, l.invariant.counted, l.invariant.filled, l.invariant.short) in
    let piece = rw c.in-Some-Root.field-0-is at c.in-Some-Root.ensures in
    let here = OctetAt-front bytes l.limit l.offset l.invariant.within 0 piece in
    let ends = small_ends bytes (take l.passed l.front) l.start l.offset here.0 (omega (arith, l.invariant.size)) in
    let this = read bytes c.args.at l.offset l.start l.limit octets l.after l.invariant.finding here.0 (omega arith) short
    c.in_ok-name-in-Some-Root.name (c.in_ok-name-in-Some-Root.ensures ∙ ends) in
    rw c.unwrap_or.ensures (one_reading bytes this.labels there.labels)

pub returns-then-count-ge-NAME_LIMIT-clause-read : goal.returns-then-count-ge-NAME_LIMIT-clause-read
returns-then-count-ge-NAME_LIMIT-clause-read c = λ name end there.
    let bytes = c.args.bytes.now in
    let l = c.loop-front in
    let octets : List ℕ = small_letters (take l.passed l.front ++ slice_range bytes l.start l.offset) in
    let size = small_length bytes (take l.passed l.front) l.start l.offset l.invariant.size in
    let label : List ℕ = c.in-Some-Label.label.now in
    let front = rw c.in-Some-Label.field-0-is at c.in-Some-Label.ensures in
    let piece = LabelPiece-front bytes l.limit l.offset l.invariant.within label front in
    absurd (no_room bytes c.args.at l.offset l.start l.limit octets l.after l.invariant.finding
    (length label) piece.behind piece.some piece.short
    (omega (arith, size, c.if-count-ge-NAME_LIMIT.true, l.invariant.counted, l.invariant.filled)) name end there)

pub loop-front-preserved-in-Some-Label : goal.loop-front-preserved-in-Some-Label
loop-front-preserved-in-Some-Label c =
    let bytes = c.args.bytes.now in
    let l = c.loop-front in
    let octets : List ℕ = small_letters (take l.passed l.front ++ slice_range bytes l.start l.offset) in
    let label : List ℕ = c.in-Some-Label.label.now in
    let n : ℕ = length label in
    let front = rw c.in-Some-Label.field-0-is at c.in-Some-Label.ensures in
    let piece = LabelPiece-front bytes l.limit l.offset l.invariant.within label front in
    let begins : l.start ≤ l.offset = omega (arith, l.invariant.size) in
    let grown = small_grows bytes (take l.passed l.front) l.start l.offset (l.offset + 1 + n) n piece.behind piece.short begins
    (omega arith) in
    let next = past_label bytes c.args.at l.offset l.start l.limit octets l.after l.invariant.finding n
    (small_letters (take l.passed l.front ++ slice_range bytes l.start (l.offset + 1 + n))) piece.behind piece.some piece.short grown in
    let size = run_size bytes l.start (l.offset + 1 + n) (omega (arith, begins)) (label_within bytes l.offset label piece) in
    let offset : l.offset + 1 + n ≡ l.offset + (1 + n) = omega arith in
    record {
      within = omega arith;
      size = rw offset at size;
      counted = omega (arith, l.invariant.counted);
      short = omega (arith, c.if-count-ge-NAME_LIMIT.false);
      filled = l.invariant.filled;
      finding = rw offset at next;
    }

pub returns-in_default-clause-read : goal.returns-in_default-clause-read
returns-in_default-clause-read c = λ name end there.
    let bytes = c.args.bytes.now in
    let l = c.loop-front in
    let octets : List ℕ = small_letters (take l.passed l.front ++ slice_range bytes l.start l.offset) in
    let front = rw c.in-Some-Pointer.field-0-is at c.in-Some-Pointer.ensures in
    let piece = PointerPiece-front bytes l.limit l.offset l.invariant.within c.in-Some-Pointer.target front in
    absurd (no_offset bytes c.args.at l.offset l.start l.limit octets l.after l.invariant.finding c.in-Some-Pointer.target piece.0
    c.in_default.ensures name end there)

pub loop-front-preserved : goal.loop-front-preserved
loop-front-preserved c =
    let bytes = c.args.bytes.now in
    let l = c.loop-front in
    let run : List ℕ = slice_range bytes l.start l.offset in
    let front = rw c.in-Some-Pointer.field-0-is at c.in-Some-Pointer.ensures in
    let piece = PointerPiece-front bytes l.limit l.offset l.invariant.within c.in-Some-Pointer.target front in
    let to = c.in-Some.run' in
    let leads = c.in-Some.ensures in
    let next = past_pointer bytes c.args.at l.offset l.start l.limit (small_letters (take l.passed l.front ++ run)) l.after
    l.invariant.finding c.in-Some-Pointer.target to.start to.limit piece.0 leads piece.1 in
    let none = run_none bytes to.start in
    let count : l.passed + length run ≡ l.count = omega (arith, l.invariant.size, l.invariant.counted) in
    let put : take l.count c.put_run.new.front ≡ take l.passed l.front ++ run = rw count at c.put_run.ensures in
    record {
      within = omega (arith, leads.within, l.invariant.size, l.invariant.within, piece.1);
      size = omega (arith, ap length none);
      counted = omega arith;
      short = l.invariant.short;
      filled = omega (arith, ap length put, length-append (take l.passed l.front) run, l.invariant.filled);
      finding = rw (put, none, append-nil (take l.passed l.front ++ run), c.unwrap_or-in-Some-Pointer.ensures) next;
    }
