-- The services of a domain that are tried, slot by slot.
use Rattle.std.proofs.Common.{◌≡◌, ℕ, ◌+◌, ◌<◌, ◌≤◌, Bool, true, false, List, [], ◌∷◌, ◌++◌, length, map, take, get_or, Option, Some, None, refl, sym, ap, ◌∙◌, arith}
use Rattle.std.specs.List.{filter, filter_map}
use Rattle.std.proofs.lemmas.List.{length-append, take_more, map-append}
use Rattle.std.proofs.lemmas.List.Elements.{filter-append, filter_map-append}
use Rattle.sip_uri.specs.declared.transport.Transport.{Transport}
use Rattle.sip_selection.specs.Choice.{is_tried, tried_services}
use Rattle.sip_selection.specs.Services.{service_at}
use Rattle.sip_selection.specs.declared.service.Service.{Service}

module _ (secure : Bool) (name : List (List ℕ)) where
  tried-append : (xs ys : List (Option Transport))
      → tried_services secure name (xs ++ ys) ≡ tried_services secure name xs ++ tried_services secure name ys
  tried-append xs ys =
      let slots = λ (l : List (Option Transport)). filter_map (λ (slot : Option Transport). slot) l in
      ap (λ (l : List Transport). map (service_at name) (filter (is_tried secure) l))
      (filter_map-append (λ (slot : Option Transport). slot) xs ys)
      ∙ ap (map (service_at name)) (filter-append (is_tried secure) (slots xs) (slots ys))
      ∙ map-append (service_at name) (filter (is_tried secure) (slots xs)) (filter (is_tried secure) (slots ys))

  one-by : (transport : Transport) (test : Bool) → is_tried secure transport ≡ test
      → length (tried_services secure name (Some transport ∷ [])) ≤ 1
  one-by transport true e = rw e (omega arith)
  one-by transport false e = rw e (omega arith)

  one : (slot : Option Transport) → length (tried_services secure name (slot ∷ [])) ≤ 1
  one None = omega arith
  one (Some transport) = one-by transport (is_tried secure transport) refl

  module _ (slots : List (Option Transport)) (count : ℕ) (slot : Option Transport) (within : count < length slots)
      (is : slot ≡ get_or slots count slot) where
    pub tried-more : tried_services secure name (take (count + 1) slots)
        ≡ tried_services secure name (take count slots) ++ tried_services secure name (slot ∷ [])
    tried-more =
        let more : take (count + 1) slots ≡ take count slots ++ slot ∷ [] =
        take_more slots count slot within ∙ ap (λ (l : Option Transport). take count slots ++ l ∷ []) (sym is) in
        ap (tried_services secure name) more ∙ tried-append (take count slots) (slot ∷ [])

    pub few-more : (before after : List Service) → length before ≤ count → after ≡ before ++ tried_services secure name (slot ∷ [])
        → length after ≤ count + 1
    few-more before after few grown =
        omega (arith, few, one slot, ap length grown, length-append before (tried_services secure name (slot ∷ [])))
