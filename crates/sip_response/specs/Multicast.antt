-- Multicast addresses, and the TTL of datagrams to them (RFC 3261 18.2.2).
use Rattle.std.specs.Prelude.{ℕ, ◌==◌, nat_le, Bool, ◌&&◌, slice_index, Option, Some, None, unwrap_or, if◌then◌else◌}
use Rattle.ip_text.specs.declared.address.Address.{Address}
use Rattle.ip_text.specs.declared.address.Address.TheVariants.{V4, V6}

-- an address is one of multicast: from 224.0.0.0 to 239.255.255.255 (RFC 1112 4), or one of IPv6
-- whose first octet is 255 (RFC 4291 2.7)
abbrev pub is_multicast : Address → Bool
is_multicast (V4 octets) = nat_le 224 (slice_index octets 0) && nat_le (slice_index octets 0) 239
is_multicast (V6 octets) = slice_index octets 0 == 255

-- the TTL of a datagram to an address: for one of multicast that of the parameter `ttl`, or 1
abbrev pub multicast_ttl : Address → Option ℕ → Option ℕ
multicast_ttl address ttl = if is_multicast address then Some (unwrap_or ttl 1) else None
