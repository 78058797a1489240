use Rattle.std.proofs.Common.{◌≡◌, rules}
use Rattle.sip_uri.specs.Same.{same_uri}
use Rattle.sip_uri.specs.Same.Decided.{uri_decides}
use Rattle.sip_uri.proofs.uri.SipUriPartialEq.eq.Goals as goal

pub returns-then-eq-3-clause-same : goal.returns-then-eq-3-clause-same
returns-then-eq-3-clause-same c =
    let value : c.eq-then-eq-3.result ≡ same_uri c.args.self.now c.args.other.now = search rules in
    rw value (uri_decides c.args.self.now c.args.other.now)
