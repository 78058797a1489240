-- What the parameters of a Via say, of its whole text.
use Rattle.std.proofs.Common.{◌≡◌, ℕ, List, sym, ap, ◌∙◌}
use Rattle.sip_uri.specs.Uris.{Param}
use Rattle.sip_uri.specs.Readers.ViaRoutes.{ParamsOf}
use Rattle.sip_uri.specs.Vias.{ViaText}
use Rattle.sip_uri.specs.ViaRoutes.{ListText, RouteSays, ViaRouteText, SameRoute}
use Rattle.sip_uri.specs.declared.route_params.RouteParams.{RouteParams}
use Rattle.sip_uri.specs.declared.via.Via.{Via}
use Rattle.ip_text.proofs.Lists.{same_Ok}
use Rattle.sip_uri.proofs.ViaSaid.{one_route}
use Rattle.sip_uri.proofs.ViaTexts.{via_again}
use Rattle.sip_uri.proofs.ViaValues.{list_there, one_list}

list_at : (a b : List ℕ) (list : List Param) → a ≡ b → ListText a list → ListText b list
list_at a b list e are = rw e at are

pub route_there : (text rest : List ℕ) (via : Via) (route : RouteParams) → ParamsOf text via rest
    → ((list : List Param) → ListText rest list → RouteSays list route) → ViaRouteText text via route
route_there text rest via route of says =
    let k = list_there of.is.params of.is.are_params.keys of.is.are_params.are in
    record { is_via = of.is; params = k.0; are = k.1; says = says k.0 (list_at of.is.params rest k.0 of.are k.1) }

-- a text is cut in one way
same_params : (text : List ℕ) (via via' : Via) (is : ViaText text via) (is' : ViaText text via') → is.params ≡ is'.params
same_params text via via' is is' =
    ap (λ (p : Via × List ℕ). p.1)
    (same_Ok (via, is.params) (via', is'.params) (sym (via_again text via is) ∙ via_again text via' is'))

says_at : (list other : List Param) (route : RouteParams) → list ≡ other → RouteSays list route → RouteSays other route
says_at list other route e says = rw e at says

pub one_route_text : (text : List ℕ) (via via' : Via) (route route' : RouteParams) → ViaRouteText text via route
    → ViaRouteText text via' route' → SameRoute route route'
one_route_text text via via' route route' is is' =
    let are = list_at is.is_via.params is'.is_via.params is.params (same_params text via via' is.is_via is'.is_via) is.are in
    let same = one_list is'.is_via.params is.params is'.params are is'.are in
    one_route is'.params route route' (says_at is.params is'.params route same is.says) is'.says
