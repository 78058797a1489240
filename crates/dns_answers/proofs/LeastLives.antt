-- The life of records together.
use Rattle.std.proofs.Common.{◌≡◌, ℕ, zero, suc, ◌≤◌, List, [], ◌∷◌, ◌++◌, map, Option, inl, inr, refl, arith}
use Rattle.std.specs.Prelude.{min}
use Rattle.std.specs.List.{fold, Contains}
use Rattle.std.proofs.lemmas.Bool.{cases_lt}
use Rattle.std.proofs.lemmas.List.Elements.{All-cons, All-head, All-nil, All-tail}
use Rattle.std.proofs.lemmas.List.{map_push, map-append}
use Rattle.std.proofs.lemmas.List.Sums.{fold_push, fold-append}
use Rattle.std.proofs.lemmas.Bool.Decides.{nat_tests}
use Rattle.dns_message.specs.declared.message.Message.{Message}
use Rattle.dns_message.specs.declared.resource.Record.{Record}
use Rattle.dns_answers.specs.Chains.{Chain}
use Rattle.dns_answers.specs.Lives.{effective_ttl, least_from, ttls, links_of, life_of, IsLeast}

pub least_push : (limit : ℕ) (entries : List Record) (entry : Record)
    → least_from limit (ttls (entries ++ entry ∷ [])) ≡ min (least_from limit (ttls entries)) (effective_ttl entry.ttl)
least_push limit entries entry =
    rw (map_push (λ (e : Record). e.ttl) entries entry, map_push effective_ttl (ttls entries) entry.ttl)
    (fold_push min limit (map effective_ttl (ttls entries)) (effective_ttl entry.ttl))

pub least-append : (limit : ℕ) (links entries : List Record)
    → least_from limit (ttls (links ++ entries)) ≡ least_from (least_from limit (ttls links)) (ttls entries)
least-append limit links entries =
    rw (map-append (λ (e : Record). e.ttl) links entries, map-append effective_ttl (ttls links) (ttls entries))
    (fold-append min limit (map effective_ttl (ttls links)) (map effective_ttl (ttls entries)))

fold-le : (limit : ℕ) (numbers : List ℕ) → fold min limit numbers ≤ limit
fold-le limit [] = omega arith
fold-le limit (number ∷ others) = omega (arith, fold-le (min limit number) others)

pub least-le : (limit : ℕ) (numbers : List ℕ) → least_from limit numbers ≤ limit
least-le limit numbers = fold-le limit (map effective_ttl numbers)

-- ---- it is the least

pub effective_ttl-le : (ttl : ℕ) → effective_ttl ttl ≤ 2147483647
effective_ttl-le ttl = grind (arith, nat_tests)

-- what is among the rest and the less of two numbers is among both and the rest
among_both : (number limit first : ℕ) (others : List ℕ) → Contains (min limit first ∷ others) number
    → Contains (limit ∷ first ∷ others) number
among_both number limit first others (zero, within, is) =
    elim (cases_lt limit first) [
      | inl less ↦ (0, omega arith, omega (arith, is))
      | inr more ↦ (1, omega arith, omega (arith, is))
    ]
among_both number limit first others (suc k, within, is) = (suc (suc k), omega arith, is)

pub least_more : (number limit first : ℕ) (others : List ℕ) → IsLeast number (min limit first ∷ others)
    → IsLeast number (limit ∷ first ∷ others)
least_more number limit first others is =
    let head : number ≤ min limit first = All-head (λ (other : ℕ). number ≤ other) (min limit first) others is.least in
    record {
      among = among_both number limit first others is.among;
      least = All-cons (λ (other : ℕ). number ≤ other) limit (first ∷ others) (omega arith)
          (All-cons (λ (other : ℕ). number ≤ other) first others (omega arith)
          (All-tail (λ (other : ℕ). number ≤ other) (min limit first) others is.least));
    }

pub least_of : (limit : ℕ) (numbers : List ℕ) → IsLeast (fold min limit numbers) (limit ∷ numbers)
least_of limit [] =
    record {
      among = (0, omega arith, refl);
      least =
          All-cons (λ (other : ℕ). limit ≤ other) limit [] (omega arith) (All-nil (λ (other : ℕ). limit ≤ other));
    }
least_of limit (number ∷ others) = least_more (fold min (min limit number) others) limit number others (least_of (min limit number) others)

least_below : (limit number : ℕ) (others : List ℕ) → number ≤ limit → IsLeast (fold min (min limit number) others) (number ∷ others)
least_below limit number others short =
    let same : min limit number ≡ number = omega arith in
    rw same (least_of number others)

least_is : (entries : List Record) → (entries ≡ [] → ⊥) → IsLeast (least_from 2147483647 (ttls entries)) (map effective_ttl (ttls entries))
least_is [] some = absurd (some refl)
least_is (entry ∷ others) some = least_below 2147483647 (effective_ttl entry.ttl) (map effective_ttl (ttls others))
    (effective_ttl-le entry.ttl)

some_kept : (links others : List Record) (first : Record) → links ++ first ∷ others ≡ [] → ⊥
some_kept [] others first none = absurd cc
some_kept (link ∷ links) others first none = absurd cc

pub life_is_least : (message : Message) (chain : Option Chain) (kept : List Record) → (kept ≡ [] → ⊥)
    → IsLeast (life_of message chain kept) (map effective_ttl (ttls (links_of chain ++ kept)))
life_is_least message chain [] some = absurd (some refl)
life_is_least message chain (first ∷ others) some = least_is (links_of chain ++ first ∷ others) (some_kept (links_of chain) others first)
