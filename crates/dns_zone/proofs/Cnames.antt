-- The aliases of a zone, link by link.
use Rattle.std.proofs.Common.{◌≡◌, ◌⊎◌, ℕ, zero, suc, ◌≤◌, List, [], ◌∷◌, ◌++◌, length, map, Option, Some, None, inl, inr, refl, sym, ap, subst, ◌∙◌, arith}
use Rattle.std.specs.List.{All}
use Rattle.std.proofs.lemmas.List.Elements.{All-cons, All-head, All-nil, All-tail}
use Rattle.dns_answers.specs.Chains.{IsFirstCname, IsNoCname, behind, canonical_in}
use Rattle.dns_message.specs.declared.rdata.Rdata.{Rdata}
use Rattle.dns_message.specs.declared.rdata.Rdata.TheVariants.{Addr4, Addr6, Srv, Naptr, Cname, Soa, Other}
use Rattle.dns_message.specs.declared.resource.Record.{Record}
use Rattle.dns_zone.specs.Zones.{Follows, IsPath, Owned, ZoneCname, entries_at, first_cname, link_of, path, path_within, record_of, records_at}
use Rattle.dns_zone.specs.declared.zone.ZoneEntry.{ZoneEntry}

canonical_is : (rdata : Rdata) (target : List (List ℕ)) → canonical_in rdata ≡ Some target → rdata ≡ Cname target
canonical_is (Addr4 octets) target e = absurd cc
canonical_is (Addr6 octets) target e = absurd cc
canonical_is (Srv server) target e = absurd cc
canonical_is (Naptr rule) target e = absurd cc
canonical_is (Cname other) target e = cc
canonical_is (Soa authority) target e = absurd cc
canonical_is (Other other) target e = absurd cc

module _ (name : List (List ℕ)) where
  no_cname : (entry : ZoneEntry) → canonical_in entry.rdata ≡ None → IsNoCname name (record_of name entry)
  no_cname entry none = λ target owner rdata.
      let some : canonical_in entry.rdata ≡ Some target = ap canonical_in rdata in
      absurd cc

  first_by : (entry : ZoneEntry) (entries : List ZoneEntry) (cname : ZoneCname) (canonical : Option (List (List ℕ)))
      → canonical_in entry.rdata ≡ canonical
      → first_cname (entry ∷ entries) ≡ Some cname
      → (first_cname entries ≡ Some cname → IsFirstCname (map (record_of name) entries) name (link_of name cname) cname.target)
      → IsFirstCname (map (record_of name) (entry ∷ entries)) name (link_of name cname) cname.target
  first_by entry entries cname (Some target) e some rest =
      let here : ◌≡◌ {A = Option ZoneCname} (Some (record { ttl = entry.ttl; target = target })) (Some cname) = rw e at some in
      let this : ◌≡◌ {A = ZoneCname} (record { ttl = entry.ttl; target = target }) cname = cc in
      let is : record_of name entry ≡ link_of name (record { ttl = entry.ttl; target = target }) =
      ap (λ (rdata : Rdata). record { owner = name; ttl = entry.ttl; rdata = rdata }) (canonical_is entry.rdata target e) in
      record {
        front = [];
        back = map (record_of name) entries;
        stands = ap (λ (it : Record). it ∷ map (record_of name) entries) (is ∙ ap (link_of name) this);
        owner = refl;
        cname = refl;
        first = All-nil (IsNoCname name);
      }
  first_by entry entries cname None e some rest =
      let there = rest (rw e at some) in
      record {
        front = record_of name entry ∷ there.front;
        back = there.back;
        stands = ap (λ (l : List Record). record_of name entry ∷ l) there.stands;
        owner = refl;
        cname = refl;
        first = All-cons (IsNoCname name) (record_of name entry) there.front (no_cname entry e) there.first;
      }

  pub first_is : (entries : List ZoneEntry) (cname : ZoneCname) → first_cname entries ≡ Some cname
      → IsFirstCname (map (record_of name) entries) name (link_of name cname) cname.target
  first_is [] cname some = absurd cc
  first_is (entry ∷ entries) cname some = first_by entry entries cname (canonical_in entry.rdata) refl some (first_is entries cname)

  none_by : (entry : ZoneEntry) (entries : List ZoneEntry) (canonical : Option (List (List ℕ))) → canonical_in entry.rdata ≡ canonical
      → first_cname (entry ∷ entries) ≡ None → (first_cname entries ≡ None → All (IsNoCname name) (map (record_of name) entries))
      → All (IsNoCname name) (map (record_of name) (entry ∷ entries))
  none_by entry entries (Some target) e none rest =
      let no : ◌≡◌ {A = Option ZoneCname} (Some (record { ttl = entry.ttl; target = target })) None = rw e at none in
      absurd cc
  none_by entry entries None e none rest =
      All-cons (IsNoCname name) (record_of name entry) (map (record_of name) entries) (no_cname entry e) (rest (rw e at none))

  pub none_first : (entries : List ZoneEntry) → first_cname entries ≡ None → All (IsNoCname name) (map (record_of name) entries)
  none_first [] none = All-nil (IsNoCname name)
  none_first (entry ∷ entries) none = none_by entry entries (canonical_in entry.rdata) refl none (none_first entries)

  -- a record that is no alias has no canonical name
  canonical_none : (entry : ZoneEntry) (canonical : Option (List (List ℕ))) → canonical_in entry.rdata ≡ canonical
      → IsNoCname name (record_of name entry) → canonical_in entry.rdata ≡ None
  canonical_none entry None e never = e
  canonical_none entry (Some target) e never = absurd (never target refl (canonical_is entry.rdata target e))

  pub no_first : (entries : List ZoneEntry) → All (IsNoCname name) (map (record_of name) entries) → first_cname entries ≡ None
  no_first [] never = refl
  no_first (entry ∷ entries) never =
      rw (canonical_none entry (canonical_in entry.rdata) refl
      (All-head (IsNoCname name) (record_of name entry) (map (record_of name) entries) never))
      (no_first entries (All-tail (IsNoCname name) (record_of name entry) (map (record_of name) entries) never))

  some_first : (entry : ZoneEntry) (entries : List ZoneEntry) (target : List (List ℕ)) → canonical_in entry.rdata ≡ Some target
      → first_cname (entry ∷ entries) ≡ Some (record { ttl = entry.ttl; target = target })
  some_first entry entries target some = rw some refl

  first_from : (entries : List ZoneEntry) (front back : List Record) (entry : Record) (target : List (List ℕ))
      → map (record_of name) entries ≡ front ++ entry ∷ back
      → entry.rdata ≡ Cname target → All (IsNoCname name) front
      → (cname : ZoneCname) × (first_cname entries ≡ Some cname) × (cname.target ≡ target) × (link_of name cname ≡ entry)
  first_from [] [] back entry target stands cname first = absurd cc
  first_from [] (other ∷ front) back entry target stands cname first = absurd cc
  first_from (it ∷ entries) [] back entry target stands cname first =
      let same : record_of name it ≡ entry = cc in
      let rdata : it.rdata ≡ Cname target = ap (λ (r : Record). r.rdata) same ∙ cname in
      let is : link_of name (record { ttl = it.ttl; target = target }) ≡ record_of name it =
      ap (λ (r : Rdata). record { owner = name; ttl = it.ttl; rdata = r }) (sym rdata) in
      (record { ttl = it.ttl; target = target }, some_first it entries target (ap canonical_in rdata), refl, is ∙ same)
  first_from (it ∷ entries) (other ∷ front) back entry target stands cname first =
      let same : record_of name it ≡ other = cc in
      let others : map (record_of name) entries ≡ front ++ entry ∷ back = cc in
      let never : IsNoCname name (record_of name it) = subst (IsNoCname name) (sym same) (All-head (IsNoCname name) other front first) in
      let none = canonical_none it (canonical_in it.rdata) refl never in
      let rest = first_from entries front back entry target others cname (All-tail (IsNoCname name) other front first) in
      (rest.0, rw none rest.1, rest.2, rest.3)

  pub is_first : (entries : List ZoneEntry) (entry : Record) (target : List (List ℕ))
      → IsFirstCname (map (record_of name) entries) name entry target
      → (cname : ZoneCname) × (first_cname entries ≡ Some cname) × (cname.target ≡ target) × (link_of name cname ≡ entry)
  is_first entries entry target is = first_from entries is.front is.back entry target is.stands is.cname is.first

module _ (zone : List Owned) where
  path_by : (more : ℕ) (name : List (List ℕ)) (cname : Option ZoneCname) → first_cname (entries_at zone name) ≡ cname
      → ((target : List (List ℕ)) → IsPath more zone target (path_within more zone target))
      → IsPath (suc more) zone name (path_within (suc more) zone name)
  unfolding path_within
  path_by more name None e rest =
      rw e (record { follows = Follows.stays refl; short = omega arith; ends = inl (none_first name (entries_at zone name) e) })
  path_by more name (Some cname) e rest =
      let there = rest cname.target in
      rw e (record {
        follows = Follows.leads cname.target (first_is name (entries_at zone name) cname e) there.follows;
        short =
            omega (arith, there.short);
        ends = longer there.ends;
      })
    where
      longer : {P : Type 0} {n : ℕ} → P ⊎ (n ≡ more) → P ⊎ (suc n ≡ suc more)
      longer (inl p) = inl p
      longer (inr e) = inr (ap suc e)

  pub path_is : (limit : ℕ) (name : List (List ℕ)) → IsPath limit zone name (path_within limit zone name)
  unfolding path_within
  path_is zero name = record { follows = Follows.stays refl; short = omega arith; ends = inr refl }
  path_is (suc more) name = path_by more name (first_cname (entries_at zone name)) refl (path_is more)

  pub path_few : (name : List (List ℕ)) → length (path zone name).links ≤ 8
  path_few name = (path_is 8 name).short

  pub is_path : (limit : ℕ) (name : List (List ℕ)) (links : List Record) (last : List (List ℕ)) → Follows zone name links last
      → length links ≤ limit
      → All (IsNoCname last) (records_at zone last) ⊎ (length links ≡ limit)
      → path_within limit zone name ≡ record { links = links; last = last }
  unfolding path_within
  is_path zero name [] last (Follows.stays same) short ends = ap (λ (l : List (List ℕ)). record { links = []; last = l }) (sym same)
  is_path (suc more) name [] last (Follows.stays same) short (inl never) =
      let none : first_cname (entries_at zone name) ≡ None = no_first name (entries_at zone name) (rw same at never) in
      rw none (ap (λ (l : List (List ℕ)). record { links = []; last = l }) (sym same))
  is_path (suc more) name [] last (Follows.stays same) short (inr long) = absurd (omega arith)
  is_path zero name (entry ∷ others) last (Follows.leads target first rest) short ends = absurd (omega arith)
  is_path (suc more) name (entry ∷ others) last (Follows.leads target first rest) short ends =
      let k = is_first name (entries_at zone name) entry target first in
      let there = is_path more target others last rest (omega arith) (shorter ends) in
      rw k.1 (ap (λ (name' : List (List ℕ)). behind (link_of name k.0) (path_within more zone name')) k.2
      ∙ ap (behind (link_of name k.0)) there ∙ ap (λ (link : Record). record { links = link ∷ others; last = last }) k.3)
    where
      shorter : {P : Type 0} {n : ℕ} → P ⊎ (suc n ≡ suc more) → P ⊎ (n ≡ more)
      shorter (inl p) = inl p
      shorter (inr e) = inr (omega arith)
