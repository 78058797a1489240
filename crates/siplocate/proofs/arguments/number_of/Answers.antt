use Rattle.std.proofs.Common.{◌%◌, ◌/◌, ℕ, Some, get_or, ap, arith}
use Rattle.siplocate.proofs.Counts.{no_digit, one_of, some_tens, one_digit, two_digits, one_or_two, is_two}
use Rattle.siplocate.proofs.arguments.number_of.Goals as goal

pub returns-in_err-digit_of-in-len2-clause-all : goal.returns-in_err-digit_of-in-len2-clause-all
returns-in_err-digit_of-in-len2-clause-all c = λ number few is.
    let digits = two_digits c.args.octets.now number few is c.in-len2.len_at_least in
    absurd (no_digit (number / 10) (c.in_err-digit_of-in-len2.ensures.all (number / 10) (omega (arith, few)) digits.1))

pub returns-in_err-digit_of-in-len2-2-clause-all :
    goal.returns-in_err-digit_of-in-len2-2-clause-all
returns-in_err-digit_of-in-len2-2-clause-all c = λ number few is.
    let digits = two_digits c.args.octets.now number few is c.in-len2.len_at_least in
    absurd (no_digit (number % 10) (c.in_err-digit_of-in-len2-2.ensures.all (number % 10) (omega arith) digits.2))

pub returns-in-len1-clause-found : goal.returns-in-len1-clause-found
returns-in-len1-clause-found c = one_of c.args.octets.now c.digit_of.result c.in-len1.len_at_least c.in-len1.len_below
    c.digit_of.ensures.found

pub returns-in-len1-clause-all : goal.returns-in-len1-clause-all
returns-in-len1-clause-all c = λ number few is.
    let digits = one_digit c.args.octets.now number few is c.in-len1.len_below in
    c.digit_of.ensures.all number digits.0 digits.1

pub returns-in_ok-digit_of-in-len2-2-clause-found :
    goal.returns-in_ok-digit_of-in-len2-2-clause-found
returns-in_ok-digit_of-in-len2-2-clause-found c =
    let tens = c.in_ok-digit_of-in-len2.ensures.found in
    let ones = c.in_ok-digit_of-in-len2-2.ensures.found in (
      omega (arith, tens.1, ones.1),
      is_two c.args.octets.now c.in_ok-digit_of-in-len2.field-0 c.in_ok-digit_of-in-len2-2.field-0
          c.in-len2.len_at_least c.in-len2.len_below tens.0
          (some_tens (get_or c.args.octets.now 0 0) c.in_ok-digit_of-in-len2.field-0 c.if-tens-ne48.true tens.0)
          tens.1 ones.0 ones.1,
    )

pub returns-in_ok-digit_of-in-len2-2-clause-all : goal.returns-in_ok-digit_of-in-len2-2-clause-all
returns-in_ok-digit_of-in-len2-2-clause-all c = λ number few is.
    let digits = two_digits c.args.octets.now number few is c.in-len2.len_at_least in
    let tens = c.in_ok-digit_of-in-len2.ensures.found in
    let ones = c.in_ok-digit_of-in-len2-2.ensures.found in
    ap (λ (n : ℕ). Some n) (omega (arith, digits.0, digits.1, digits.2, tens.0, ones.0))

pub returns-in_default-clause-all : goal.returns-in_default-clause-all
returns-in_default-clause-all c = λ number few is.
    absurd (omega (arith, c.in_default.len_below, one_or_two c.args.octets.now number few is))

pub returns-in_default-2-clause-all : goal.returns-in_default-2-clause-all
returns-in_default-2-clause-all c = λ number few is.
    let digits = two_digits c.args.octets.now number few is c.in-len2.len_at_least in
    absurd (omega (arith, digits.0, digits.1, c.if-tens-ne48.false))

pub returns-in_default-3-clause-all : goal.returns-in_default-3-clause-all
returns-in_default-3-clause-all c = λ number few is.
    absurd (omega (arith, c.in_default.len_at_least, one_or_two c.args.octets.now number few is))
