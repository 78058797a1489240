-- What the values of a Via's parameters say is what their readers read.
use Rattle.std.proofs.Common.{◌≡◌, ℕ, true, false, not, List, [], ◌∷◌, ◌++◌, length, Option, Some, None, refl, sym, ap, ◌∙◌, inl, inr, arith, eqb}
use Rattle.std.specs.List.{join_with_byte}
use Rattle.std.specs.Option.{option_map}
use Rattle.std.proofs.lemmas.Option.{same_Some}
use Rattle.ip_text.specs.Addresses.{NumberText, AreGroups, V6Text, whole, shortened}
use Rattle.ip_text.specs.Readers.{ipv4_number, ipv6}
use Rattle.ip_text.specs.declared.address.Address.{Address}
use Rattle.ip_text.specs.declared.address.Address.TheVariants.{V4, V6}
use Rattle.sip_uri.specs.Hosts.{HostText}
use Rattle.sip_uri.specs.Uris.{Param, PortNumber, maddr_key}
use Rattle.sip_uri.specs.Readers.Hosts.{host}
use Rattle.sip_uri.specs.Readers.Uris.{port_number}
use Rattle.sip_uri.specs.Readers.ViaRoutes.{received_from, received, rport_from, rport, said}
use Rattle.sip_uri.specs.ViaRoutes.{Says, ReceivedText, RportSays, RouteSays, SameRoute, found_at, received_name, rport_name, ttl_name}
use Rattle.sip_uri.specs.Views.{host_of}
use Rattle.sip_uri.specs.declared.host.Host.{Host}
use Rattle.sip_uri.specs.declared.host.Host.TheVariants as as_host
use Rattle.sip_uri.specs.declared.route_params.Rport.{Rport}
use Rattle.sip_uri.specs.declared.route_params.Rport.TheVariants.{Absent, Empty, Port}
use Rattle.sip_uri.specs.declared.route_params.RouteParams.{RouteParams}
use Rattle.ip_text.proofs.Cutting.{lacks}
use Rattle.ip_text.proofs.Lists.{mapped_from, all_of-append}
use Rattle.ip_text.proofs.V4Texts.{number_read, number_again, four_octets}
use Rattle.ip_text.proofs.V6Texts.{ipv6_read, ipv6_again}
use Rattle.sip_uri.proofs.HostTexts.{v6_brackets}
use Rattle.sip_uri.proofs.Places.{plain_v4, plain_domain, host_read, host_again}
use Rattle.sip_uri.proofs.UriPieces as ports

-- ---- an IPv6 address without brackets is no host

colon_in : (text front rest : List ℕ) → text ≡ front ++ 58 ∷ rest → lacks 58 text ≡ true → ⊥
colon_in text front rest is without =
    let k = all_of-append (λ (x : ℕ). not (eqb x 58)) front (58 ∷ rest) (rw is at without) in
    let no : false ≡ true = k.1 in
    cc

colon_in_groups : (texts : List (List ℕ)) (text octets : List ℕ) → AreGroups true texts octets → length octets ≡ 16
    → text ≡ join_with_byte 58 texts → lacks 58 text ≡ true → ⊥
colon_in_groups [] text octets are len is without = are
colon_in_groups (group ∷ []) text octets (inl are) len is without = omega (arith, ap length are.is, len)
colon_in_groups (group ∷ []) text octets (inr are) len is without = omega (arith, four_octets group octets are.1, len)
colon_in_groups (group ∷ next ∷ texts) text octets are len is without =
    colon_in text group (join_with_byte 58 (next ∷ texts)) is without

colon_in_v6 : (text octets : List ℕ) → V6Text text octets → lacks 58 text ≡ true → ⊥
colon_in_v6 text octets (whole groups len) without = colon_in_groups groups.groups text octets groups.are len groups.joined without
colon_in_v6 text octets (shortened left right front end joined one two short same) without =
    colon_in text left (58 ∷ right) joined without

v6_no_host : (text octets : List ℕ) (h : Host) → V6Text text octets → HostText text h → ⊥
v6_no_host text octets (as_host.V4 four) is spells = colon_in_v6 text octets is (plain_v4 text four spells).no_colon
v6_no_host text octets (as_host.Domain name) is spells = colon_in_v6 text octets is (plain_domain text name spells).no_colon
v6_no_host text octets (as_host.V6 six) is spells =
    let k = all_of-append (λ (x : ℕ). not (eqb x 93)) (91 ∷ spells.0) (93 ∷ []) (rw spells.1 at (v6_brackets text octets is)) in
    let no : false ≡ true = k.1 in
    cc

no_host_from : (text octets : List ℕ) (o : Option Host) → host text ≡ o → V6Text text octets → host text ≡ None
no_host_from text octets None e is = e
no_host_from text octets (Some h) e is = absurd (v6_no_host text octets h is (host_read text h e))

-- ---- received

from_read : (text : List ℕ) (address : Address) (o : Option Host) → host text ≡ o → received_from text o ≡ Some address
    → ReceivedText text address
from_read text address None e read =
    let k = mapped_from (λ (octets : List ℕ). V6 octets) (ipv6 text) address read in
    rw (← k.2) (inl (ipv6_read text k.0 k.1))
from_read text address (Some (as_host.V4 octets)) e read =
    rw (← same_Some (V4 octets) address read) (host_read text (as_host.V4 octets) e)
from_read text address (Some (as_host.V6 octets)) e read =
    rw (← same_Some (V6 octets) address read) (inr (host_read text (as_host.V6 octets) e))
from_read text address (Some (as_host.Domain name)) e read = absurd cc

received_read : (text : List ℕ) (address : Address) → received text ≡ Some address → ReceivedText text address
unfolding received
received_read text address e = from_read text address (host text) refl e

received_again : (text : List ℕ) (address : Address) → ReceivedText text address → received text ≡ Some address
unfolding received
received_again text (V4 octets) is = rw (host_again text (as_host.V4 octets) is) refl
received_again text (V6 octets) (inr is) = rw (host_again text (as_host.V6 octets) is) refl
received_again text (V6 octets) (inl is) = rw (no_host_from text octets (host text) refl is) (rw (ipv6_again text octets is) refl)

-- ---- what a parameter says

module _ {A : Type 0} (Spells : List ℕ → A → Type 0) (read : List ℕ → Option A)
    (found : (text : List ℕ) (it : A) → read text ≡ Some it → Spells text it)
    (again : (text : List ℕ) (it : A) → Spells text it → read text ≡ Some it) where
  none_spelled : (text : List ℕ) → read text ≡ None → (it : A) → Spells text it → ⊥
  none_spelled text e it is = (let no : None ≡ Some it = sym e ∙ again text it is in absurd cc)

  text_says : (text : List ℕ) (o : Option A) → read text ≡ o → Says Spells (Some (Some text)) o
  text_says text None e = none_spelled text e
  text_says text (Some it) e = found text it e

  value_says : (value : Option (Option (List ℕ))) → Says Spells value (said read value)
  value_says None = refl
  value_says (Some None) = refl
  value_says (Some (Some text)) = text_says text (read text) refl

  pub says_at : (value list : Option (Option (List ℕ))) (it : Option A) → value ≡ list → it ≡ said read value → Says Spells list it
  says_at value list it e is = rw (is, e) (value_says list)

  text_said : (text : List ℕ) (o r : Option A) → read text ≡ r → Says Spells (Some (Some text)) o → o ≡ read text
  text_said text None None e is = sym e
  text_said text None (Some it) e is = absurd (is it (found text it e))
  text_said text (Some it) r e is = sym (again text it is)

  value_said : (value : Option (Option (List ℕ))) (o : Option A) → Says Spells value o → o ≡ said read value
  value_said None o is = is
  value_said (Some None) o is = is
  value_said (Some (Some text)) o is = text_said text o (read text) refl is

  pub one_says : (value : Option (Option (List ℕ))) (a b : Option A) → Says Spells value a → Says Spells value b → a ≡ b
  one_says value a b is is' = value_said value a is ∙ sym (value_said value b is')

-- ---- rport

rport_text : (text : List ℕ) (o : Option ℕ) → port_number text ≡ o → RportSays (Some (Some text)) (rport_from o)
rport_text text None e = λ port is. (let no : None ≡ Some port = sym e ∙ ports.number_again text port is in absurd cc)
rport_text text (Some port) e = ports.number_read text port e

rport_says : (value : Option (Option (List ℕ))) → RportSays value (rport value)
rport_says None = refl
rport_says (Some None) = refl
rport_says (Some (Some text)) = rport_text text (port_number text) refl

pub rport_at : (value list : Option (Option (List ℕ))) (it : Rport) → value ≡ list → it ≡ rport value → RportSays list it
rport_at value list it e is = rw (is, e) (rport_says list)

rport_none : (text : List ℕ) (o : Option ℕ) → port_number text ≡ o → ((port : ℕ) → PortNumber text port → ⊥) → Absent ≡ rport_from o
rport_none text None e is = refl
rport_none text (Some port) e is = absurd (is port (ports.number_read text port e))

rport_said : (value : Option (Option (List ℕ))) (it : Rport) → RportSays value it → it ≡ rport value
rport_said None it is = is
rport_said (Some None) it is = is
rport_said (Some (Some text)) Absent is = rport_none text (port_number text) refl is
rport_said (Some (Some text)) Empty is = absurd is
rport_said (Some (Some text)) (Port port) is = rw (ports.number_again text port is) refl

-- ---- all four

module _ (list : List Param) (route : RouteParams) (r p m t : Option (Option (List ℕ)))
    (r_is : r ≡ found_at received_name list) (p_is : p ≡ found_at rport_name list) (m_is : m ≡ found_at maddr_key list)
    (t_is : t ≡ found_at ttl_name list) where
  pub route_says : route.received ≡ said received r → route.rport ≡ rport p → option_map host_of route.maddr ≡ said host m
      → route.ttl ≡ said ipv4_number t
      → RouteSays list route
  route_says received_is rport_is maddr_is ttl_is = record {
    received = says_at ReceivedText received received_read received_again r (found_at received_name list) route.received r_is received_is;
    rport = rport_at p (found_at rport_name list) route.rport p_is rport_is;
    maddr = says_at HostText host host_read host_again m (found_at maddr_key list) (option_map host_of route.maddr) m_is maddr_is;
    ttl = says_at NumberText ipv4_number number_read number_again t (found_at ttl_name list) route.ttl t_is ttl_is;
  }

pub one_route : (list : List Param) (route other : RouteParams) → RouteSays list route → RouteSays list other → SameRoute route other
one_route list route other is is' = record {
  received = one_says ReceivedText received received_read received_again (found_at received_name list) route.received other.received
      is.received is'.received;
  rport = rport_said (found_at rport_name list) route.rport is.rport ∙ sym (rport_said (found_at rport_name list) other.rport is'.rport);
  maddr = one_says HostText host host_read host_again (found_at maddr_key list) (option_map host_of route.maddr)
      (option_map host_of other.maddr) is.maddr is'.maddr;
  ttl = one_says NumberText ipv4_number number_read number_again (found_at ttl_name list) route.ttl other.ttl is.ttl is'.ttl;
}
