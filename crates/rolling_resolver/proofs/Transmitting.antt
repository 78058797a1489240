-- Queries of the older generation.
use Rattle.std.proofs.Common.{◌≡◌, ℕ, List, Option, Some, None, IfNone, IfSome}
use Rattle.rolling_resolver.specs.Rolling.{AreQuiet, GenerationView, IsQuiet, IsWritten, IsWrittenOf, RollingView, of_older}
use Rattle.rolling_resolver.specs.declared.generation.Sent.{Sent}

-- a query of the older generation is one of a generation
pub older-sends : (result : Option Sent) (buffer : List ℕ) (after : GenerationView) (it : RollingView) → it.draining ≡ Some after
    → IfSome result (λ sent. IsWritten sent buffer after)
    → IfSome result (λ sent. IsWrittenOf sent buffer it)
older-sends None buffer after it is written = tt
older-sends (Some sent) buffer after it is written = of_older after is written

-- nothing is to be sent where neither generation has something
pub both-quiet : {I : Type 0} (draws : I → ℕ → I → Type 0) (now room : ℕ) (result : Option Sent) (it : RollingView)
    → IfNone result (IsQuiet draws now room it.current) → IfSome it.draining (IsQuiet draws now room)
    → IfNone result (AreQuiet draws now room it)
both-quiet draws now room None it current older = (current, older)
both-quiet draws now room (Some sent) it current older = tt
