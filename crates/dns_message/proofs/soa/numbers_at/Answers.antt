use Rattle.std.proofs.Common.{arith}
use Rattle.dns_message.proofs.soa.numbers_at.Goals as goal

pub returns-in_err-u32_at : goal.returns-in_err-u32_at
returns-in_err-u32_at c = rw c.from_residual.ensures (omega (arith, c.in_err-u32_at.ensures))

pub returns-in_err-u32_at-2 : goal.returns-in_err-u32_at-2
returns-in_err-u32_at-2 c = rw c.from_residual-in_err-u32_at-2.ensures (omega (arith, c.in_err-u32_at-2.ensures))

pub returns-in_err-u32_at-3 : goal.returns-in_err-u32_at-3
returns-in_err-u32_at-3 c = rw c.from_residual-in_err-u32_at-3.ensures (omega (arith, c.in_err-u32_at-3.ensures))

pub returns-in_err-u32_at-4 : goal.returns-in_err-u32_at-4
returns-in_err-u32_at-4 c = rw c.from_residual-in_err-u32_at-4.ensures (omega (arith, c.in_err-u32_at-4.ensures))

pub returns-in_err-u32_at-5 : goal.returns-in_err-u32_at-5
returns-in_err-u32_at-5 c = rw c.from_residual-in_err-u32_at-5.ensures (omega (arith, c.in_err-u32_at-5.ensures))

pub returns : goal.returns
returns c = (c.in_ok-u32_at.ensures, c.in_ok-u32_at-2.ensures, c.in_ok-u32_at-3.ensures, c.in_ok-u32_at-4.ensures, c.in_ok-u32_at-5.ensures)
