use Rattle.std.proofs.Common.{◌≡◌, ℕ, ◌+◌, ◌*◌, ◌/◌, ◌%◌, ◌^◌, ◌<◌, zero, suc, sym, ap, ◌∙◌, arith, rules}
use Rattle.std.specs.Int.Bits.{bit_or, or_zero_r}
use Rattle.std.proofs.lemmas.Nat.{mod_below, or_block, shr_split}
use Rattle.sip_resolver.specs.IdStreams.{id_stream}
use Rattle.sip_resolver.proofs.id_streams.random_ids.Goals as goal

-- the highest bit is set, whatever it was
highest : (half rest : ℕ) → half < 2 → rest < 2 ^ 63 → bit_or (half * 2 ^ 63 + rest) (2 ^ 63) ≡ 2 ^ 63 + rest
highest zero rest less small = or_block 63 0 1 rest 0 small (omega arith) ∙ ap (λ (n : ℕ). 2 ^ 63 + n) (or_zero_r rest)
highest (suc zero) rest less small = or_block 63 1 1 rest 0 small (omega arith) ∙ ap (λ (n : ℕ). 2 ^ 63 + n) (or_zero_r rest)
highest (suc (suc half)) rest less small = absurd (omega (arith, less))

stream-is : (number : ℕ) → number < 2 ^ 64 → bit_or number (2 ^ 63) ≡ id_stream number
stream-is number fits =
    let parts = shr_split number 63 in
    ap (λ (n : ℕ). bit_or n (2 ^ 63)) (sym parts)
    ∙ highest (number / 2 ^ 63) (number % 2 ^ 63) (omega arith) (mod_below number (2 ^ 63) (omega arith))

pub returns : goal.returns
returns c = let is = stream-is c.args.number c.ranges.number.fits in rw (← is) (search rules)
