-- The numbers that tell C why a call is not done.
use Rattle.std.specs.Prelude.{◌≡◌, ℕ, ℤ, pos}
use Rattle.wokhleas.specs.declared.status.Status.{Status}
use Rattle.wokhleas.specs.declared.status.Status.TheVariants.{Nothing, Argument, Closed, Open, Memory, Syntax, Full, Taken, Room}

-- the number of a status, as `wokhleas_status` has it
abbrev pub code_of : Status → ℕ
code_of Nothing = 1
code_of Argument = 2
code_of Closed = 3
code_of Open = 4
code_of Memory = 5
code_of Syntax = 6
code_of Full = 7
code_of Taken = 8
code_of Room = 9

-- a call that is not done tells the number of a status, for which this is so
abbrev pub IsRefused : (Status → Type 0) → ℤ → Type 0
IsRefused why result = (status : Status) × (result ≡ pos (code_of status)) × why status
