-- The first CNAME of a name in a section.
use Rattle.std.proofs.Common.{◌≡◌, ℕ, List, [], ◌∷◌, ◌++◌, Bool, true, false, Option, Some, None, refl, sym, ap, ◌∙◌}
use Rattle.std.specs.List.{All}
use Rattle.std.proofs.lemmas.List.Elements.{All-cons, All-head, All-nil, All-tail}
use Rattle.dns_message.specs.declared.rdata.Rdata.{Rdata}
use Rattle.dns_message.specs.declared.rdata.Rdata.TheVariants.{Addr4, Addr6, Srv, Naptr, Cname, Soa, Other}
use Rattle.dns_message.specs.declared.resource.Record.{Record}
use Rattle.dns_answers.specs.Chains.{CnameRecord, cname_of, canonical_in, first_cname, IsFirstCname, IsNoCname}
use Rattle.dns_name.specs.Labels.{same_name}
use Rattle.dns_answers.proofs.Names.{SameNames}

canonical_is : (rdata : Rdata) (target : List (List ℕ)) → canonical_in rdata ≡ Some target → rdata ≡ Cname target
canonical_is (Addr4 octets) target e = absurd cc
canonical_is (Addr6 octets) target e = absurd cc
canonical_is (Srv server) target e = absurd cc
canonical_is (Naptr rule) target e = absurd cc
canonical_is (Cname other) target e = cc
canonical_is (Soa authority) target e = absurd cc
canonical_is (Other other) target e = absurd cc

module _ (same : SameNames) where
  -- a record is an alias of a name exactly where it is a CNAME of that name
  cname_by : (name : List (List ℕ)) (entry : Record) (cname : CnameRecord) (test : Bool) → same_name entry.owner name ≡ test
      → (target : Option (List (List ℕ))) → canonical_in entry.rdata ≡ target → cname_of name entry ≡ Some cname
      → (cname.entry ≡ entry) × (entry.owner ≡ name) × (entry.rdata ≡ Cname cname.target)
  cname_by name entry cname true e (Some target) is some =
      let this : Some (record { entry = entry; target = target }) ≡ Some cname = rw (e, is) at some in
      let entry_is : cname.entry ≡ entry = cc in
      let target_is : target ≡ cname.target = cc in
      (entry_is, (same entry.owner name).0 e, rw (← target_is) (canonical_is entry.rdata target is))
  cname_by name entry cname true e None is some =
      let this : None ≡ Some cname = rw (e, is) at some in
      absurd cc
  cname_by name entry cname false e target is some =
      let this : None ≡ Some cname = rw e at some in
      absurd cc

  is_cname : (name : List (List ℕ)) (entry : Record) (target : List (List ℕ)) → entry.owner ≡ name → entry.rdata ≡ Cname target
      → cname_of name entry ≡ Some (record { entry = entry; target = target })
  is_cname name entry target owner rdata = let is = (same entry.owner name).1 owner in rw (is, rdata) refl

  no_cname : (name : List (List ℕ)) (entry : Record) → cname_of name entry ≡ None → IsNoCname name entry
  no_cname name entry none = λ target owner rdata.
      let some = is_cname name entry target owner rdata in
      absurd cc

  cname_none : (name : List (List ℕ)) (entry : Record) → IsNoCname name entry → (cname : Option CnameRecord) → cname_of name entry ≡ cname
      → cname_of name entry ≡ None
  cname_none name entry never None e = e
  cname_none name entry never (Some cname) e =
      let is = cname_by name entry cname (same_name entry.owner name) refl (canonical_in entry.rdata) refl e in
      absurd (never cname.target is.1 is.2)

  module _ (name : List (List ℕ)) where
    first_by : (entry : Record) (others : List Record) (cname : Option CnameRecord) → cname_of name entry ≡ cname → (found : CnameRecord)
        → first_cname name (entry ∷ others) ≡ Some found
        → (first_cname name others ≡ Some found → IsFirstCname others name found.entry found.target)
        → IsFirstCname (entry ∷ others) name found.entry found.target
    first_by entry others (Some cname) e found some rest =
        let this : Some cname ≡ Some found = rw e at some in
        let found_here : cname_of name entry ≡ Some found = e ∙ this in
        let is = cname_by name entry found (same_name entry.owner name) refl (canonical_in entry.rdata) refl found_here in
        record {
          front = [];
          back = others;
          stands = ap (λ (r : Record). r ∷ others) (sym is.0);
          owner = rw is.0 is.1;
          cname =
              rw is.0 is.2;
          first = All-nil (IsNoCname name);
        }
    first_by entry others None e found some rest =
        let there = rest (rw e at some) in
        record {
          front = entry ∷ there.front;
          back = there.back;
          stands = ap (λ (l : List Record). entry ∷ l) there.stands;
          owner = there.owner;
          cname = there.cname;
          first = All-cons (IsNoCname name) entry there.front (no_cname name entry e) there.first;
        }

    pub is_first : (section : List Record) (found : CnameRecord) → first_cname name section ≡ Some found
        → IsFirstCname section name found.entry found.target
    is_first [] found some = absurd cc
    is_first (entry ∷ others) found some = first_by entry others (cname_of name entry) refl found some (is_first others found)

    behind_front : (front back : List Record) (entry : Record) (target : List (List ℕ)) → entry.owner ≡ name → entry.rdata ≡ Cname target
        → All (IsNoCname name) front
        → first_cname name (front ++ entry ∷ back) ≡ Some (record { entry = entry; target = target })
    behind_front [] back entry target owner rdata none = rw (is_cname name entry target owner rdata) refl
    behind_front (other ∷ front) back entry target owner rdata none =
        rw (cname_none name other (All-head (IsNoCname name) other front none) (cname_of name other) refl)
        (behind_front front back entry target owner rdata (All-tail (IsNoCname name) other front none))

    pub first_is : (section : List Record) (entry : Record) (target : List (List ℕ)) → IsFirstCname section name entry target
        → first_cname name section ≡ Some (record { entry = entry; target = target })
    first_is section entry target is = rw is.stands (behind_front is.front is.back entry target is.owner is.cname is.first)

    none_by : (entry : Record) (others : List Record) (cname : Option CnameRecord) → cname_of name entry ≡ cname
        → first_cname name (entry ∷ others) ≡ None → (first_cname name others ≡ None → All (IsNoCname name) others)
        → All (IsNoCname name) (entry ∷ others)
    none_by entry others (Some cname) e none rest =
        let no : Some cname ≡ None = rw e at none in
        absurd cc
    none_by entry others None e none rest = All-cons (IsNoCname name) entry others (no_cname name entry e) (rest (rw e at none))

    pub no_first : (section : List Record) → first_cname name section ≡ None → All (IsNoCname name) section
    no_first [] none = All-nil (IsNoCname name)
    no_first (entry ∷ others) none = none_by entry others (cname_of name entry) refl none (no_first others)

    pub first_none : (section : List Record) → All (IsNoCname name) section → first_cname name section ≡ None
    first_none [] none = refl
    first_none (entry ∷ others) none =
        rw (cname_none name entry (All-head (IsNoCname name) entry others none) (cname_of name entry) refl)
        (first_none others (All-tail (IsNoCname name) entry others none))
