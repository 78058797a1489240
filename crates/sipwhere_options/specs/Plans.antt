-- Whom to ask.
use Rattle.std.specs.Prelude.{◌≡◌, ◌≢◌, ◌⊎◌, ◌||◌, ℕ, true, false, List, [], length, Option, Some, None, ⊤}
use Rattle.std.specs.List.{AllZip}
use Rattle.std.specs.Net.Addr.{IsV4And, IsV6And, ipv4_octets, ipv6_segments, segments_of}
use Rattle.std.specs.Net.Socket.{socket_ip, socket_port}
use Rattle.std.specs.declared.net.ip_addr.IpAddr.{IpAddr}
use Rattle.std.specs.declared.net.socket_addr.SocketAddr.{SocketAddr}
use Rattle.ip_text.specs.declared.address.Address.{Address}
use Rattle.ip_text.specs.declared.address.Address.TheVariants.{V4, V6}
use Rattle.resolver_file.specs.ResolverFiles.{FileSays, FileValue}
use Rattle.sipwhere_options.specs.Servers.{servers_from}
use Rattle.sipwhere_options.specs.Timings.{AreAttempts, sends_of}
use Rattle.sipwhere_options.specs.declared.options.Options.{Options}
use Rattle.sipwhere_options.specs.declared.plan.Plan.{Plan}
use Rattle.sipwhere_options.specs.declared.run_fault.RunFault.{RunFault}
use Rattle.sipwhere_options.specs.declared.run_fault.RunFault.TheVariants as fault

-- the server at an address, at port 53
abbrev pub IsServerAt : Address → SocketAddr → Type 0
IsServerAt (V4 octets) server =
    IsV4And (socket_ip server) (λ ip. ipv4_octets ip ≡ octets) × (socket_port server ≡ 53)
IsServerAt (V6 octets) server =
    IsV6And (socket_ip server) (λ ip. ipv6_segments ip ≡ segments_of octets)
    × (socket_port server ≡ 53)

-- The servers that a resolver file names, in its order, over TCP alone where a word or the file
-- says so, as often and for as long as words say or else the file, and round all servers where the
-- file says so.
pub record IsOfFile (options : Options) (file : FileValue) (plan : Plan) : Type 0 where
  pub servers : AllZip IsServerAt file.servers plan.servers.items
  pub tcp : plan.over_tcp ≡ options.over_tcp || file.over_tcp
  pub attempts : AreAttempts options file.timeout (sends_of file.attempts (length file.servers))
      plan.attempts
  pub rotates : plan.rotates ≡ file.rotates

-- the servers that words name, in their order, over TCP alone where a word says so, as often and
-- for as long as words say
pub record IsNamed (options : Options) (plan : Plan) : Type 0 where
  pub some : options.servers.items ≢ []
  pub servers : plan.servers.items ≡ options.servers.items
  pub tcp : plan.over_tcp ≡ options.over_tcp
  pub attempts : AreAttempts options None None plan.attempts
  pub rotates : plan.rotates ≡ false

-- where words name no servers: those of a resolver file
pub record IsRead (options : Options) (plan : Plan) : Type 0 where
  pub none : options.servers.items ≡ []
  pub text : List ℕ
  pub file : FileValue
  pub says : FileSays text file
  pub is : IsOfFile options file plan

-- whom to ask, from any local address
abbrev pub IsWhole : Options → Plan → Type 0
IsWhole options plan = IsNamed options plan ⊎ IsRead options plan

-- the same from a local address: over UDP, of the servers those of its family
pub record IsFrom (local : IpAddr) (whole plan : Plan) : Type 0 where
  pub datagrams : whole.over_tcp ≡ false
  pub servers : plan.servers.items ≡ servers_from local whole.servers.items
  pub some : plan.servers.items ≢ []
  pub tcp : plan.over_tcp ≡ false
  pub attempts : plan.attempts ≡ whole.attempts
  pub rotates : plan.rotates ≡ whole.rotates

-- the system has a fault
abbrev pub IsOfSystem : RunFault → Type 0
IsOfSystem (fault.System error) = ⊤
IsOfSystem _ = ⊥

-- why nobody is asked from a local address
abbrev pub IsNotFrom : IpAddr → Plan → RunFault → Type 0
IsNotFrom local whole fault.LocalOverTcp = whole.over_tcp ≡ true
IsNotFrom local whole fault.Family =
    (whole.over_tcp ≡ false) × (servers_from local whole.servers.items ≡ [])
IsNotFrom local whole (fault.System error) = ⊤
IsNotFrom local whole (fault.ResolverFile error) = ⊥

-- whom to ask, from the local address where one is named
abbrev pub IsPlanFrom : Option IpAddr → Options → Plan → Type 0
IsPlanFrom None options plan = IsWhole options plan
IsPlanFrom (Some local) options plan =
    (whole : Plan) × IsWhole options whole × IsFrom local whole plan

-- whom to ask
abbrev pub IsPlan : Options → Plan → Type 0
IsPlan options plan = IsPlanFrom options.local options plan
