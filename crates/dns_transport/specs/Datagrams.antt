-- What a server's wire over UDP shows.
use Rattle.std.specs.Prelude.{◌≡◌, ◌⊎◌}
use Rattle.std.specs.declared.io.ErrorKind.{ErrorKind}
use Rattle.std.specs.declared.io.ErrorKind.TheVariants.{WouldBlock, TimedOut}

-- so the system says that nothing came in the time that a socket waits
abbrev pub IsWait : ErrorKind → Type 0
IsWait kind = (kind ≡ WouldBlock) ⊎ (kind ≡ TimedOut)
