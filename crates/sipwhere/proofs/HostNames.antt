-- Names in steps are those of maddr.
use Rattle.std.proofs.Common.{ℕ, Option}
use Rattle.std.specs.Prelude.{IfSome}
use Rattle.sip_uri.specs.Views.{IsHostView}
use Rattle.sip_uri.specs.declared.route_params.RouteParams.{RouteParams}
use Rattle.sip_uri.specs.declared.transport.Transport.{Transport}
use Rattle.sip_response.specs.Routes.{past_connection, again, straight, maddr, maddr_name, rport, received, sent_by, IsRoute, connection, datagram}
use Rattle.sip_response.specs.declared.route.ResponseRoute.{ResponseRoute}
use Rattle.sipwhere.specs.Destinations.{NamesHost}

-- the name in a step is a hostname, as that of maddr is
pub names-host : (over : Transport) (written : Option ℕ) (params : RouteParams) (route : ResponseRoute) → IsRoute over written params route
    → IfSome params.maddr IsHostView → IfSome (past_connection route) NamesHost
names-host over written params route (connection e (again address f)) view = tt
names-host over written params route (connection e (straight f)) view = tt
names-host over written params route (datagram e (maddr it address f g)) view = tt
names-host over written params route (datagram e (maddr_name name f)) view = rw f at view
names-host over written params route (datagram e (rport address source f g h)) view = tt
names-host over written params route (datagram e (received address f g h)) view = tt
names-host over written params route (datagram e (sent_by f g)) view = tt
