-- The chain of a name is the one that leads from it.
use Rattle.std.proofs.Common.{◌≡◌, ℕ, zero, suc, ◌≤◌, List, [], ◌∷◌, length, Option, Some, None, refl, ap, arith}
use Rattle.std.specs.Option.{option_map, option_map_or}
use Rattle.dns_message.specs.declared.resource.Record.{Record}
use Rattle.dns_answers.specs.Chains.{CnameRecord, Chain, first_cname, ends_at, behind, chain_within, chain, Follows, stays, leads, IsChain, IsTooLong}
use Rattle.dns_answers.proofs.Chains.{Leads, chain_ends, chain_endless}
use Rattle.dns_answers.proofs.Names.{SameNames}
use Rattle.dns_answers.proofs.FirstCnames.{is_first, first_is, no_first, first_none}

module _ (same : SameNames) (section : List Record) where
  follows_where_leads : (name : List (List ℕ)) (links : List Record) (last : List (List ℕ)) → Leads section name links last
      → Follows section name links last
  follows_where_leads name [] last is = stays is
  follows_where_leads name (entry ∷ others) last lead =
      leads lead.0 (is_first same name section (record { entry = entry; target = lead.0 }) lead.1)
      (follows_where_leads lead.0 others last lead.2)

  leads_where_follows : (name : List (List ℕ)) (links : List Record) (last : List (List ℕ)) → Follows section name links last
      → Leads section name links last
  leads_where_follows name [] last (stays is) = is
  leads_where_follows name (entry ∷ others) last (leads target first rest) =
      (target, first_is same name section entry target first, leads_where_follows target others last rest)

  -- ---- a chain that is found

  record Found (limit : ℕ) (name : List (List ℕ)) (found : Chain) : Type 0 where
    lead : Leads section name found.links found.last
    none : first_cname found.last section ≡ None
    few : length found.links ≤ limit

  found_here : (limit : ℕ) (name : List (List ℕ)) (found : Chain) → first_cname name section ≡ None → Some (ends_at name) ≡ Some found
      → Found limit name found
  found_here limit name found none some =
      let is : ends_at name ≡ found = cc in
      rw (← is) (record { lead = refl; none = none; few = omega arith })

  found_zero : (name : List (List ℕ)) (found : Chain) (cname : Option CnameRecord) → first_cname name section ≡ cname
      → option_map_or (λ (a : CnameRecord). None) cname (Some (ends_at name)) ≡ Some found → Found 0 name found
  found_zero name found None none is = found_here 0 name found none is
  found_zero name found (Some cname) some is = absurd cc

  found_behind : (limit : ℕ) (name : List (List ℕ)) (found : Chain) (cname : CnameRecord) (rest : Option Chain)
      → first_cname name section ≡ Some cname → ((c : Chain) → rest ≡ Some c → Found limit cname.target c)
      → option_map (behind cname.entry) rest ≡ Some found → Found (suc limit) name found
  found_behind limit name found cname None some each is = absurd cc
  found_behind limit name found cname (Some c) some each is =
      let there = each c refl in
      let this : behind cname.entry c ≡ found = cc in
      rw (← this) (record { lead = (cname.target, some, there.lead); none = there.none; few = omega (arith, there.few) })

  found_more : (limit : ℕ) (name : List (List ℕ)) (found : Chain) (cname : Option CnameRecord) → first_cname name section ≡ cname
      → ((a : CnameRecord) (c : Chain) → chain_within limit section a.target ≡ Some c → Found limit a.target c)
      → option_map_or (λ (a : CnameRecord). option_map (behind a.entry) (chain_within limit section a.target)) cname (Some (ends_at name))
      ≡ Some found → Found (suc limit) name found
  found_more limit name found None none each is = found_here (suc limit) name found none is
  found_more limit name found (Some cname) some each is =
      found_behind limit name found cname (chain_within limit section cname.target) some (each cname) is

  found_is : (limit : ℕ) (name : List (List ℕ)) (found : Chain) → chain_within limit section name ≡ Some found → Found limit name found
  unfolding chain_within
  found_is zero name found is = found_zero name found (first_cname name section) refl is
  found_is (suc limit) name found is = found_more limit name found (first_cname name section) refl (λ a c. found_is limit a.target c) is

  -- ---- a chain that is none

  record TooLong (limit : ℕ) (name : List (List ℕ)) : Type 0 where
    links : List Record
    last : List (List ℕ)
    lead : Leads section name links last
    many : length links ≡ suc limit

  long_zero : (name : List (List ℕ)) (cname : Option CnameRecord) → first_cname name section ≡ cname
      → option_map_or (λ (a : CnameRecord). None) cname (Some (ends_at name)) ≡ None → TooLong 0 name
  long_zero name None none is = absurd cc
  long_zero name (Some cname) some is =
      record { links = cname.entry ∷ []; last = cname.target; lead = (cname.target, some, refl); many = refl }

  long_behind : (limit : ℕ) (name : List (List ℕ)) (cname : CnameRecord) (rest : Option Chain) → first_cname name section ≡ Some cname
      → (rest ≡ None → TooLong limit cname.target)
      → option_map (behind cname.entry) rest ≡ None → TooLong (suc limit) name
  long_behind limit name cname None some each is =
      let there = each refl in
      record { links = cname.entry ∷ there.links; last = there.last; lead = (cname.target, some, there.lead); many = ap suc there.many }
  long_behind limit name cname (Some c) some each is = absurd cc

  long_more : (limit : ℕ) (name : List (List ℕ)) (cname : Option CnameRecord) → first_cname name section ≡ cname
      → ((a : CnameRecord) → chain_within limit section a.target ≡ None → TooLong limit a.target)
      → option_map_or (λ (a : CnameRecord). option_map (behind a.entry) (chain_within limit section a.target)) cname (Some (ends_at name))
      ≡ None
      → TooLong (suc limit) name
  long_more limit name None none each is = absurd cc
  long_more limit name (Some cname) some each is =
      long_behind limit name cname (chain_within limit section cname.target) some (each cname) is

  long_is : (limit : ℕ) (name : List (List ℕ)) → chain_within limit section name ≡ None → TooLong limit name
  unfolding chain_within
  long_is zero name is = long_zero name (first_cname name section) refl is
  long_is (suc limit) name is = long_more limit name (first_cname name section) refl (λ a. long_is limit a.target) is

  -- ---- the laws

  pub chain_is : (name : List (List ℕ)) (found : Chain) → chain section name ≡ Some found → IsChain section name found
  chain_is name found is =
      let f = found_is 8 name found is in
      record {
        follows = follows_where_leads name found.links found.last f.lead;
        ends = no_first same found.last section f.none;
        short =
            f.few;
      }

  pub is_chain : (name : List (List ℕ)) (found : Chain) → IsChain section name found → chain section name ≡ Some found
  is_chain name found is =
      chain_ends section 8 name found.links found.last (leads_where_follows name found.links found.last is.follows)
      (first_none same found.last section is.ends) is.short

  pub too_long_is : (name : List (List ℕ)) → chain section name ≡ None → IsTooLong section name
  too_long_is name is =
      let l = long_is 8 name is in
      record { links = l.links; last = l.last; follows = follows_where_leads name l.links l.last l.lead; nine = l.many }

  pub is_too_long : (name : List (List ℕ)) → IsTooLong section name → chain section name ≡ None
  is_too_long name is = chain_endless section 8 name is.links is.last (leads_where_follows name is.links is.last is.follows) is.nine
