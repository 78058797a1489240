use Rattle.std.proofs.Common.{ap, ◌∙◌}
use Rattle.std.specs.Fmt.{decimal}
use Rattle.std.proofs.lemmas.Result.{IfOk-weaker}
use Rattle.sip_options.specs.Requests.{contact_scheme}
use Rattle.sip_options.proofs.RequestTexts.{written_is}
use Rattle.sip_options.proofs.request.OptionsRequest.octets.Goals as goal

pub returns : goal.returns
returns c =
    IfOk-weaker c.written.result _ _
    (λ octets e. e ∙ written_is c.args.self.now c.as_bytes-uri.result.now c.via_transport.result.now c.as_bytes.result.now
    c.as_bytes-2.result.now c.branch-self.result c.as_bytes-3.result.now c.token.result c.token-2.result c.contact_scheme.result.now
    c.contact_transport.result.now (record {
      is_uri = c.as_bytes-uri.ensures.value;
      is_transport = c.via_transport.ensures;
      is_host = c.as_bytes.ensures.value ∙ c.in_ok-host.ensures;
      is_port = c.as_bytes-2.ensures.value ∙ c.in_ok-port.ensures;
      is_branch = c.branch-self.ensures;
      is_count = c.as_bytes-3.ensures.value ∙ c.in_ok-max_forwards.ensures ∙ ap decimal c.from.ensures;
      is_tag = c.token.ensures;
      is_id = c.token-2.ensures;
      is_scheme = c.contact_scheme.ensures ∙ ap contact_scheme c.as_bytes-uri.ensures.value;
      is_parameter = c.contact_transport.ensures;
    }))
    c.written.ensures
