use Rattle.std.proofs.Common.{take}
use Rattle.std.specs.List.{Contains}
use Rattle.sipwhere.specs.Accounts.{targets_of}
use Rattle.sipwhere.proofs.account.place_of.Given as goal

abbrev pub invariant-firsts : goal.invariant-firsts
invariant-firsts l = Contains (targets_of (take l.place l.firsts)) l.target → ⊥
