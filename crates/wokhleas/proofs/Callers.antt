-- What numbers stand for in C.
use Rattle.std.proofs.Common.{◌≡◌, ◌<◌, ℕ, suc, zero, List, [], ◌∷◌, Option, Some, None, length, map, get_or, refl, ap, sym, ◌∙◌, subst, arith}
use Rattle.std.specs.Prelude.{◌↔◌, IfNone, IsSome}
use Rattle.sip_selection.specs.Callers.{AreOffered}
use Rattle.sip_selection.specs.declared.caps.Families.{Families}
use Rattle.sip_uri.specs.declared.transport.Transport.{Transport}
use Rattle.sip_uri.specs.declared.transport.Transport.TheVariants.{Udp, Tcp, Tls, Sctp}
use Rattle.wokhleas.specs.Numbers.{CannotBe, number_of, number_of_families}

-- two transports have one number only where they are the same
one-transport : (a b : Transport) → number_of a ≡ number_of b → a ≡ b
one-transport Udp Udp is = refl
one-transport Udp Tcp is = absurd cc
one-transport Udp Tls is = absurd cc
one-transport Udp Sctp is = absurd cc
one-transport Tcp Udp is = absurd cc
one-transport Tcp Tcp is = refl
one-transport Tcp Tls is = absurd cc
one-transport Tcp Sctp is = absurd cc
one-transport Tls Udp is = absurd cc
one-transport Tls Tcp is = absurd cc
one-transport Tls Tls is = refl
one-transport Tls Sctp is = absurd cc
one-transport Sctp Udp is = absurd cc
one-transport Sctp Tcp is = absurd cc
one-transport Sctp Tls is = absurd cc
one-transport Sctp Sctp is = refl

-- and so two lists of them
one-list : (xs ys : List Transport) → map number_of xs ≡ map number_of ys → xs ≡ ys
one-list [] [] is = refl
one-list [] (y ∷ ys) is = absurd cc
one-list (x ∷ xs) [] is = absurd cc
one-list (x ∷ xs) (y ∷ ys) is =
    let first : number_of x ≡ number_of y = cc in
    let rest : map number_of xs ≡ map number_of ys = cc in
    ap (λ (one : Transport). one ∷ xs) (one-transport x y first) ∙ ap (λ (others : List Transport). y ∷ others) (one-list xs ys rest)

-- a list that can't be offered
not-offered : (numbers : List ℕ) (families : ℕ) (list : List Transport) → map number_of list ≡ numbers
    → (AreOffered list → ⊥) → CannotBe numbers families
not-offered numbers families list is none transports it are offered families-are =
    none (subst AreOffered (one-list transports list (are ∙ sym is)) offered)

pub none-offered : {X : Type 0} (result : Option X) (numbers : List ℕ) (families : ℕ) (list : List Transport)
    → map number_of list ≡ numbers → (IsSome result ↔ AreOffered list) → IfNone result (CannotBe numbers families)
none-offered None numbers families list is made =
    not-offered numbers families list is (λ offered. let yes = made.1 offered in absurd cc)
none-offered (Some x) numbers families list is made = tt

-- numbers are those of no list, where one of them is that of no transport
pub none-at : (numbers : List ℕ) (at d : ℕ) → at < length numbers
    → ((it : Transport) → number_of it ≡ get_or numbers at d → ⊥) → (list : List Transport)
    → map number_of list ≡ numbers → ⊥
none-at [] at d low none list is = absurd omega (arith, low)
none-at (n ∷ numbers) zero d low none [] is = absurd cc
none-at (n ∷ numbers) zero d low none (x ∷ list) is = none x (let first : number_of x ≡ n = cc in first)
none-at (n ∷ numbers) (suc at) d low none [] is = absurd cc
none-at (n ∷ numbers) (suc at) d low none (x ∷ list) is =
    let rest : map number_of list ≡ numbers = cc in
    let lower : at < length numbers = omega (arith, low) in
    none-at numbers at d lower none list rest
