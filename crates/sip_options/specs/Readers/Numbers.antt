-- What the readers of numbers give.
use Rattle.std.specs.Prelude.{ℕ, List, ◌∷◌, ◌==◌, ◌&&◌, ◌+◌, ◌-◌, ◌*◌, nat_lt, not, ◌||◌, Option, Some, None, Result, Ok, Err, if◌then◌else◌}
use Rattle.std.specs.Option.{option_map}
use Rattle.std.specs.Char.{is_ascii_digit}
use Rattle.sip_options.specs.declared.frames.FrameRefusal.{FrameRefusal}
use Rattle.sip_options.specs.declared.frames.FrameRefusal.TheVariants.{TooLong}

-- a number, or 65,536 where it is larger
abbrev pub capped : ℕ → ℕ
capped number = if nat_lt 65535 number then 65536 else number

-- the number of three digits, where it is from 100 to 699
abbrev pub status_of : ℕ → ℕ → ℕ → Option ℕ
status_of first second third =
    if nat_lt first 49 || nat_lt 54 first || not (is_ascii_digit second)
    || not (is_ascii_digit third)
    then None
    else Some (10 * (10 * (first - 48) + (second - 48)) + (third - 48))

-- the status between two spaces in front, and what follows the second
abbrev pub status_in_front : List ℕ → Option (ℕ × List ℕ)
status_in_front (space ∷ first ∷ second ∷ third ∷ next ∷ reason) =
    if space == 32 && next == 32
    then option_map (λ (status : ℕ). (status, reason)) (status_of first second third)
    else None
status_in_front text = None

-- the length of a message, where so many octets are there
abbrev pub sized : ℕ → ℕ → Result (Option ℕ) FrameRefusal
sized available size =
    if nat_lt 65535 size then Err TooLong else
    (if nat_lt available size then Ok None else Ok (Some size))
