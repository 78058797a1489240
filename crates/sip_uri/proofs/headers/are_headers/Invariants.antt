use Rattle.std.proofs.Common.{length}
use Rattle.sip_uri.specs.Readers.Uris.{is_header}
use Rattle.sip_uri.proofs.ParamSteps.{Same}
use Rattle.sip_uri.proofs.headers.are_headers.Given as goal

abbrev pub invariant-loop-name : goal.invariant-loop-name
invariant-loop-name l = Same is_header 38 l.text l.rest

abbrev pub decreases-loop-name : goal.decreases-loop-name
decreases-loop-name l = length l.rest
