use Rattle.std.proofs.Common.{arith}
use Rattle.dns_name.proofs.Pieces.{nothing_past, nothing_reserved, nothing_cut, nothing_half, first_there, length-others, label_there}
use Rattle.dns_name.proofs.message.piece_at.Goals as goal
use Rattle.dns_name.proofs.message.piece_at.Goals.{In_ok-first}

pub returns-in_err-behind : goal.returns-in_err-behind
returns-in_err-behind c =
    let h = c.in_err-behind.ensures.lookup in
    rw c.from_residual.ensures (nothing_past c.args.octets.now c.args.offset (omega arith))

pub returns-in_err-first : goal.returns-in_err-first
returns-in_err-first c =
    let h = c.in_ok-behind.ensures.lookup in
    let k = c.in_err-first.ensures.cases in
    rw c.from_residual-in_err-first.ensures (nothing_past c.args.octets.now c.args.offset (omega arith))

pub returns-in_err-get-in-1-to-63 : goal.returns-in_err-get-in-1-to-63
returns-in_err-get-in-1-to-63 c =
    let from_p = c.in_ok-behind.ensures.lookup.0.2 in
    let cut = c.in_ok-first.ensures.cases.0 in
    let first = c.in_ok-first.first.now in
    let missing = c.in_err-get-in-1-to-63.ensures.lookup in
    let here = first_there c.args.octets.now c.args.offset c.in_ok-behind.behind.now first c.in_ok-first.behind.now from_p cut in
    let size = length-others c.args.octets.now c.args.offset c.in_ok-behind.behind.now first c.in_ok-first.behind.now from_p cut in
    rw c.from_residual-in_err-get-in-1-to-63.ensures
    (nothing_cut c.args.octets.now c.args.offset first here (omega arith) (omega arith) (omega arith))

pub returns-in_ok-get-in-1-to-63 : goal.returns-in_ok-get-in-1-to-63
returns-in_ok-get-in-1-to-63 c =
    let from_p = c.in_ok-behind.ensures.lookup.0.2 in
    let cut = c.in_ok-first.ensures.cases.0 in
    let first = c.in_ok-first.first.now in
    let got = c.in_ok-get-in-1-to-63.ensures.lookup.0 in
    label_there c.args.octets.now c.args.offset c.in_ok-behind.behind.now first c.in_ok-first.behind.now from_p cut
    c.in_ok-get-in-1-to-63.field-0.now (omega arith) (omega arith) (omega arith) (rw (← c.from.ensures) got.2)

pub returns-in-64-to-191 : goal.returns-in-64-to-191
returns-in-64-to-191 c =
    let from_p = c.in_ok-behind.ensures.lookup.0.2 in
    let cut = c.in_ok-first.ensures.cases.0 in
    let first = c.in_ok-first.first.now in
    let here = first_there c.args.octets.now c.args.offset c.in_ok-behind.behind.now first c.in_ok-first.behind.now from_p cut in
    nothing_reserved c.args.octets.now c.args.offset first here (omega arith) (omega arith)

pub returns-in_err-low-in_default : goal.returns-in_err-low-in_default
returns-in_err-low-in_default c =
    let from_p = c.in_ok-behind.ensures.lookup.0.2 in
    let cut = c.in_ok-first.ensures.cases.0 in
    let first = c.in_ok-first.first.now in
    let missing = c.in_err-low-in_default.ensures.item in
    let here = first_there c.args.octets.now c.args.offset c.in_ok-behind.behind.now first c.in_ok-first.behind.now from_p cut in
    let size = length-others c.args.octets.now c.args.offset c.in_ok-behind.behind.now first c.in_ok-first.behind.now from_p cut in
    rw c.from_residual-in_err-low-in_default.ensures (nothing_half c.args.octets.now c.args.offset first here (omega arith) (omega arith))
