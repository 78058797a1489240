-- Name servers in words, and those of a family.
use Rattle.std.specs.Prelude.{◌≡◌, ◌⊎◌, ℕ, Bool, not, List, if◌then◌else◌}
use Rattle.std.specs.List.{filter}
use Rattle.std.specs.Net.Addr.{is_ipv4}
use Rattle.std.specs.Net.Grammar.{IsIpText, IsSocketText}
use Rattle.std.specs.Net.Socket.{socket_ip, socket_port}
use Rattle.std.specs.declared.net.ip_addr.IpAddr.{IpAddr}
use Rattle.std.specs.declared.net.socket_addr.SocketAddr.{SocketAddr}

-- an address is written without a port, which is then 53
pub record IsPortless (text : List ℕ) (server : SocketAddr) : Type 0 where
  pub address : IsIpText text (socket_ip server)
  pub port : socket_port server ≡ 53

-- an address, or an address with a port
abbrev pub ServerText : List ℕ → SocketAddr → Type 0
ServerText text server = IsPortless text server ⊎ IsSocketText text server

-- two addresses are both of IPv4, or both of IPv6
abbrev pub is_of_family : IpAddr → SocketAddr → Bool
is_of_family local server =
    if is_ipv4 local then is_ipv4 (socket_ip server) else not (is_ipv4 (socket_ip server))

-- the servers that can be asked from a local address
abbrev pub servers_from : IpAddr → List SocketAddr → List SocketAddr
servers_from local servers = filter (is_of_family local) servers
