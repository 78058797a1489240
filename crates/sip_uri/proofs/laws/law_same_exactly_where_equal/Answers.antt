use Rattle.sip_uri.specs.Same.Decided.{host_decides, uri_decides, via_decides}
use Rattle.sip_uri.proofs.laws.law_same_exactly_where_equal.Goals as goal

pub returns : goal.returns
returns c = record {
  host = host_decides;
  uri = uri_decides;
  via = via_decides;
}
