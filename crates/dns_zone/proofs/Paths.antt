-- CNAME records that are followed, one after the other.
use Rattle.std.proofs.Common.{◌≡◌, ℕ, zero, suc, ◌+◌, ◌<◌, List, [], ◌∷◌, ◌++◌, Some, None, refl, sym, ap, ◌∙◌, append_assoc, arith}
use Rattle.std.proofs.lemmas.List.{append-nil}
use Rattle.dns_answers.specs.Chains.{Chain}
use Rattle.dns_message.specs.declared.resource.Record.{Record}
use Rattle.dns_zone.specs.Zones.{Owned, ZoneCname, entries_at, first_cname, link_of, path, path_within}

-- a chain behind others
abbrev pub joined : List Record → Chain → Chain
joined links chain = record { links = links ++ chain.links; last = chain.last }

-- so many CNAME records were followed, up to a name
pub record Walking (zone : List Owned) (start : List (List ℕ)) (links : List Record) (name : List (List ℕ)) (count : ℕ) : Type 0 where
  pub more : ℕ
  pub left : more + count ≡ 8
  pub is : joined links (path_within more zone name) ≡ path zone start

module _ (zone : List Owned) (start : List (List ℕ)) where
  pub begun : Walking zone start [] start 0
  begun = record { more = 8; left = refl; is = refl }

  module _ (links : List Record) (name : List (List ℕ)) where
    ends_here : (more : ℕ) → first_cname (entries_at zone name) ≡ None → path_within more zone name ≡ record { links = []; last = name }
    unfolding path_within
    ends_here zero none = refl
    ends_here (suc more) none = rw none refl

    ended : (more : ℕ) → path_within more zone name ≡ record { links = []; last = name }
        → joined links (path_within more zone name) ≡ path zone start
        → (links ≡ (path zone start).links) × (name ≡ (path zone start).last)
    ended more ends is =
        let all : record { links = links ++ []; last = name } ≡ path zone start = rw ends at is in
        (sym (append-nil links) ∙ ap (λ (c : Chain). c.links) all, ap (λ (c : Chain). c.last) all)

    pub stops : (count : ℕ) → Walking zone start links name count → None ≡ first_cname (entries_at zone name)
        → (links ≡ (path zone start).links) × (name ≡ (path zone start).last)
    stops count so_far none = ended so_far.more (ends_here so_far.more (sym none)) so_far.is

    none_left : (more : ℕ) → more ≡ 0 → path_within more zone name ≡ record { links = []; last = name }
    unfolding path_within
    none_left zero e = refl
    none_left (suc more) e = absurd (omega arith)

    pub full : Walking zone start links name 8 → (links ≡ (path zone start).links) × (name ≡ (path zone start).last)
    full so_far = ended so_far.more (none_left so_far.more (omega (arith, so_far.left))) so_far.is

    step : (cname : ZoneCname) (more count : ℕ) → more + count ≡ 8 → count < 8 → Some cname ≡ first_cname (entries_at zone name)
        → joined links (path_within more zone name) ≡ path zone start
        → Walking zone start (links ++ link_of name cname ∷ []) cname.target (count + 1)
    unfolding path_within
    step cname zero count left within some is = absurd (omega arith)
    step cname (suc more) count left within some is =
        let there = rw (← some) at is in
        record {
          more = more;
          left = omega (arith, left);
          is = ap (λ (l : List Record). record { links = l; last = (path_within more zone cname.target).last })
              (append_assoc links (link_of name cname ∷ []) (path_within more zone cname.target).links) ∙ there;
        }

    pub follows : (cname : ZoneCname) (count : ℕ) → Walking zone start links name count → count < 8
        → Some cname ≡ first_cname (entries_at zone name)
        → Walking zone start (links ++ link_of name cname ∷ []) cname.target (count + 1)
    follows cname count so_far within some = step cname so_far.more count so_far.left within some so_far.is
