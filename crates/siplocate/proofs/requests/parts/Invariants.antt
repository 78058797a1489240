use denote.Shadow.{shadow}
use denote.Text.{Utf8}
use Rattle.std.proofs.Common.{length}
use Rattle.siplocate.proofs.Parts.{Scanned}
use Rattle.siplocate.proofs.requests.parts.Given as goal

abbrev pub invariant-lines : goal.invariant-lines
invariant-lines l = record {
  is_text : shadow (Utf8 l.rest);
  scanned : Scanned l.text l.rest;
}

abbrev pub decreases-lines : goal.decreases-lines
decreases-lines l = length l.rest
