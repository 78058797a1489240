use Rattle.std.proofs.Common.{subst}
use Rattle.sipwhere.proofs.OneDestination.{same-located}
use Rattle.sipwhere.specs.Destinations.{IsDestination, IsOfRequest}
use Rattle.sipwhere.specs.declared.destination.Destination.TheVariants.{Located}
use Rattle.sipwhere.proofs.submitted_lines.located_of.Goals as goal

pub returns-in-Ok-Located-clause-found : goal.returns-in-Ok-Located-clause-found
returns-in-Ok-Located-clause-found c =
    let of = subst (IsOfRequest c.args.settings.now c.args.text.now c.in_ok-request.request) c.in-Ok-Located.field-0-is
    c.in-Ok-Located.ensures in
    let is : IsDestination c.args.settings.now c.args.text.now (Located c.in-Ok-Located.request) =
    record { request = c.in_ok-request.request; is = c.in_ok-request.ensures.found.is; of = of } in
    record {
      is = is;
      only = λ other also. same-located _ _
          (c.law_one_destination_of_a_text.ensures c.args.settings.now c.args.text.now _ _ is also);
    }
