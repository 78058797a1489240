-- What is known of each service that rules lead to.
use Rattle.std.proofs.Common.{◌≡◌, Bool, true, false, List, [], ◌∷◌, All, Option, Some, None, take, refl, subst}
use Rattle.std.specs.List.{filter_map}
use Rattle.std.specs.Option.{option_map, option_and_then}
use Rattle.std.proofs.lemmas.List.Elements.{All-nil, All-cons, All-map, All-take, All-filter}
use Rattle.std.proofs.lemmas.List.Sorted.{All-permutation}
use Rattle.dns_message.specs.declared.naptr.NaptrRecord.{NaptrRecord}
use Rattle.sip_uri.specs.declared.transport.Transport.{Transport}
use Rattle.record_order.specs.RecordOrder.{rule_order}
use Rattle.sip_selection.specs.FixedOrders.{ordered}
use Rattle.sip_selection.specs.Rules.{ServiceRule, names_servers, transport_of_service, is_usable, usable, service_rule_of, first_in_order, by_preference, service_of, usable_services}
use Rattle.sip_selection.specs.declared.caps.Caps.{Caps}
use Rattle.sip_selection.specs.declared.service.Service.{Service}
use Rattle.sip_selection.proofs.Rising.{all_stand}

module _ (secure : Bool) (caps : Caps) where
  usable_by : (rule : NaptrRecord) (it : ServiceRule) (transport : Transport) (test : Bool) → is_usable secure caps transport ≡ test
      → option_map (λ transport. record { rule = rule; transport = transport }) (usable secure caps transport) ≡ Some it
      → is_usable secure caps it.transport ≡ true
  usable_by rule it transport true e is =
      let made : Some (record { rule = rule; transport = transport }) ≡ Some it = rw e at is in
      let same : transport ≡ it.transport = cc in
      subst (λ (t : Transport). is_usable secure caps t ≡ true) same e
  usable_by rule it transport false e is = let none : None ≡ Some it = rw e at is in absurd cc

  service_by : (rule : NaptrRecord) (it : ServiceRule) (named_service : Option Transport)
      → option_map (λ transport. record { rule = rule; transport = transport }) (option_and_then (usable secure caps) named_service)
      ≡ Some it
      → is_usable secure caps it.transport ≡ true
  service_by rule it None is = absurd cc
  service_by rule it (Some transport) is = usable_by rule it transport (is_usable secure caps transport) refl is

  named_by : (rule : NaptrRecord) (it : ServiceRule) (named : Bool) → names_servers rule ≡ named → service_rule_of secure caps rule
      ≡ Some it
      → is_usable secure caps it.transport ≡ true
  named_by rule it true e is = service_by rule it (transport_of_service rule.services) (rw e at is)
  named_by rule it false e is = let none : None ≡ Some it = rw e at is in absurd cc

  abbrev IsUsable : ServiceRule → Type 0
  IsUsable it = is_usable secure caps it.transport ≡ true

  more_service_rule : (rule : NaptrRecord) (rules : List NaptrRecord) (service_rule : Option ServiceRule) → service_rule_of secure caps rule
      ≡ service_rule
      → All IsUsable (filter_map (service_rule_of secure caps) rules)
      → All IsUsable (filter_map (service_rule_of secure caps) (rule ∷ rules))
  more_service_rule rule rules (Some it) e each = rw e (All-cons IsUsable it _ (named_by rule it (names_servers rule) refl e) each)
  more_service_rule rule rules None e each = rw e each

  all_service_rule : (rules : List NaptrRecord) → All IsUsable (filter_map (service_rule_of secure caps) rules)
  all_service_rule [] = All-nil IsUsable
  all_service_rule (rule ∷ rules) = more_service_rule rule rules (service_rule_of secure caps rule) refl (all_service_rule rules)

  -- each goes over a transport that may be taken
  pub kept_usable : (rules : List NaptrRecord) → All (λ service. is_usable secure caps service.transport
      ≡ true) (usable_services secure caps rules)
  kept_usable rules =
      let used = ordered caps.is_fixed rule_order rules in
      let leads = filter_map (service_rule_of secure caps) used in
      let first = first_in_order leads in
      All-map (λ (service : Service). is_usable secure caps service.transport ≡ true) service_of (take 8 (by_preference first))
      (All-take IsUsable 8 (by_preference first) (All-permutation IsUsable first (by_preference first) (all_stand first)
      (All-filter _ IsUsable leads (all_service_rule used))))
