-- What a handle owns, and what calls leave of it.
use Rattle.std.specs.Prelude.{◌≡◌, ◌⊎◌, Option, Some, None, IsSomeAnd}
use base.Fml.{Fml, ftrue}
use denote.RattleType.{RattleType}
use denote.RawPtr.{Ptr}
use Rattle.libc.specs.Heap.{chunk}
use Rattle.std_alloc.specs.Box.Ownership.{box_owns}
use Rattle.rolling_resolver.specs.Rolling.{RollingView}
use Rattle.wokhleas.specs.declared.status.Status.{Status}
use Rattle.wokhleas.specs.declared.status.Status.TheVariants.{Closed, Nothing}

-- this value in a box of its own, where there is one
abbrev pub boxed_as : (R : RattleType) → Option R.Denot → Ptr → Fml
boxed_as R (Some x) p = box_owns chunk R p x
boxed_as R None p = ftrue

-- ---- calls: a handle has a resolver, or none where it is closed

-- a handle is open before and after a call, and what it has goes on so
abbrev pub GoesBy : (RollingView → RollingView → Type 0) → Option RollingView → Option RollingView
    → Type 0
GoesBy P (Some old) (Some new) = P old new
GoesBy P (Some old) None = ⊥
GoesBy P None new = ⊥

-- a call leaves all as it was, or what an open handle has goes on so
abbrev pub StaysBy : (RollingView → RollingView → Type 0) → Option RollingView → Option RollingView
    → Type 0
StaysBy P old new = (new ≡ old) ⊎ GoesBy P old new

-- why there is nothing to tell: a handle is closed, or this is so of what it has
abbrev pub WhyNothing : (RollingView → Type 0) → Option RollingView → Status → Type 0
WhyNothing P state status =
    ((status ≡ Closed) × (state ≡ None)) ⊎ ((status ≡ Nothing) × IsSomeAnd state P)
