use Rattle.std.proofs.Common.{◌≡◌, ◌⊎◌, ◌+◌, ◌-◌, ◌^◌, ◌≤◌, min, length, ℕ, List}
use Rattle.std.specs.Io.KnownBytes.{Consumes}
use Rattle.std.specs.Prelude.{IsTrue}
use Rattle.sipwhere.specs.LineInputs.{HasGiven}
use Rattle.sipwhere.specs.Runs.{AreToldFrom, IsGravest}
use Rattle.sipwhere.proofs.locate_run.LocateRun.locate_input.Given as goal

-- these texts were read so far and are told, unless the status is 5
abbrev pub invariant-parts : goal.invariant-parts
invariant-parts g l = record {
  settings : l.self.settings ≡ l.fn.self.settings;
  read : (octets : List ℕ) × (texts : List (List ℕ)) × Consumes (g.I.Read.remaining l.fn.input) l.input.left octets
      × HasGiven octets texts l.input × (l.first ≡ min (1 + length texts) (2 ^ 64 - 1))
      × ((l.told.status ≡ 5) ⊎ ((statuses : List ℕ) × AreToldFrom g.W.MessageWire.gives g.C.Clock.shows l.self.seat
      l.fn.self.settings l.fn.style 1 texts l.fn.self.printed l.self.printed statuses × IsGravest statuses l.told.status));
  range : l.told.status ≤ 5;
  closed : IsTrue l.told.is_closed → l.told.status ≡ 5;
}
