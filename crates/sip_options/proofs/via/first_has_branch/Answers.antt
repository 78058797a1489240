use Rattle.sip_options.proofs.ViaParams.{first_made, first_back}
use Rattle.sip_options.proofs.via.first_has_branch.Goals as goal

pub returns-in-Some : goal.returns-in-Some
returns-in-Some c =
    let branch = c.args.branch.now in
    let value = c.args.value.now in
    let front = c.in-Some.field-0-0.now in
    let params = c.in-Some.params.now in (
      λ yes. first_made branch value front params c.in-Some.ensures.found (c.has_branch.ensures.0 yes),
      λ is. c.has_branch.ensures.1 (first_back branch value front params c.in-Some.ensures.found is),
    )
