use Rattle.std.proofs.Common.{◌++◌, List, [], ◌∷◌, get_or, None, ap, sym, ◌∙◌, filter, length, map, arith}
use Rattle.std.proofs.lemmas.List.{get_or_default, take_all}
use Rattle.sip_selection.specs.Choice.{is_tried, tried_services}
use Rattle.sip_selection.specs.Services.{service_at}
use Rattle.sip_selection.specs.declared.service.Service.{Service}
use Rattle.sip_uri.specs.declared.transport.Transport.{Transport}
use Rattle.sip_selection.proofs.TriedServices.{tried-more, few-more}
use Rattle.sip_selection.proofs.choice.own_services.Goals as goal

pub loop-slot-init : goal.loop-slot-init
loop-slot-init c = record { are = c.new-services.ensures.items; few = omega (arith, ap length c.new-services.ensures.items) }

pub loop-slot-preserved : goal.loop-slot-preserved
loop-slot-preserved c =
    let l = c.loop-slot in
    let slots = c.slots-slot-items.result.now in
    let slot = get_or slots l.slot-index None in
    let is = get_or_default slots l.slot-index None slot c.loop-slot-test.true in
    record {
      are = c.in_ok-push_tried.ensures ∙ ap
          (λ (services : List Service). services ++ tried_services c.args.secure c.args.name.now (slot ∷ [])) l.invariant.are
          ∙ sym (tried-more c.args.secure c.args.name.now slots l.slot-index slot c.loop-slot-test.true is);
      few = few-more c.args.secure c.args.name.now slots l.slot-index slot c.loop-slot-test.true is l.services.items
          c.push_tried.new.services.items l.invariant.few c.in_ok-push_tried.ensures;
    }

pub returns-clause-services : goal.returns-clause-services
returns-clause-services c =
    let l = c.loop-slot in
    l.invariant.are ∙ ap (tried_services c.args.secure c.args.name.now)
    (take_all l.slot-index c.slots-slot-items.result.now c.loop-slot-test.false)
    ∙ ap (λ (transports : List Transport). map (service_at c.args.name.now) (filter (is_tried c.args.secure) transports))
    c.slots-slot-items.ensures.hold
