-- A filter of numbers. No public clause cites this module.
use Rattle.std.specs.Prelude.{◌≡◌, ◌==◌, ◌<◌, ℕ, List, bit_and, if◌then◌else◌, length, slice_index_or}

-- how many requests have a number of each slot, and the bits of a number that are its slot
pub record FilterView : Type 0 where
  pub counts : List ℕ
  pub mask : ℕ

-- how many requests have a number of the slot that this number is of
abbrev pub count_at : ℕ → FilterView → ℕ
count_at number it = slice_index_or it.counts (bit_and number it.mask) 0

-- 1 where a number is of this slot, and else 0
abbrev pub is_of : ℕ → ℕ → ℕ → ℕ
is_of mask slot number = if bit_and number mask == slot then 1 else 0

-- so many numbers are of each slot, where the total is the sum of what each number weighs
pub record Counts (total : (ℕ → ℕ) → ℕ) (it : FilterView) : Type 0 where
  pub masked : it.mask < length it.counts
  pub each : (slot : ℕ) → slot < length it.counts
      → slice_index_or it.counts slot 0 ≡ total (is_of it.mask slot)
