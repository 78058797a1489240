-- How what the code keeps is seen in the definitions.
use Rattle.std.specs.Prelude.{ℕ, ◌==◌, Bool, List, map, take}
use Rattle.dns_message.specs.Written.{type_of_rdata}
use Rattle.dns_message.specs.declared.message.Message.{Message}
use Rattle.std.specs.Borrow.{Bor}
use Rattle.std.specs.declared.vec.Vec.{Vec}
use Rattle.dns_zone.specs.Zones.{Owned, ZoneCname}
use Rattle.dns_zone.specs.declared.zone.ZoneEntry.{ZoneEntry}
use Rattle.dns_zone.specs.declared.zone.CnameRecord.{CnameRecord}

-- an entry of the map
abbrev pub owned_of : {Z : Type 0} → List (List ℕ) × Vec ZoneEntry Z → Owned
owned_of entry = record { owner = entry.0; entries = entry.1.items }

abbrev pub cname_value : CnameRecord → ZoneCname
cname_value cname = record { ttl = cname.ttl; target = cname.target.now }

abbrev pub entry_value : Bor ZoneEntry → ZoneEntry
entry_value entry = entry.now

-- it is of this type
abbrev pub says : ℕ → ZoneEntry → Bool
says type_number entry = type_of_rdata entry.rdata == type_number

-- the octets of texts
abbrev pub texts : List (Bor (List ℕ)) → List (List ℕ)
texts fields = map (λ (field : Bor (List ℕ)). field.now) fields

-- a message with the first 46 of its answers: more never fit into a datagram
abbrev pub bounded : Message → Message
bounded message = record message { answers = take 46 message.answers }
