-- What the slots of two senders tell of their transports.
use Rattle.std.proofs.Common.{◌≡◌, ◌≤◌, Bool, true, false, ◌&&◌, List, [], ◌∷◌, length, refl, ap, ◌∙◌, arith}
use Rattle.std.specs.Cmp.Lexicographic.{pointwise}
use Rattle.std.specs.Bool.{beq}
use Rattle.std.specs.Option.{option_eq}
use Rattle.sip_uri.specs.Same.{same_transport}
use Rattle.sip_uri.specs.declared.transport.Transport.{Transport}
use Rattle.sip_selection.specs.Callers.{AreOffered, CapsValue, slots_of}
use Rattle.sip_worker.specs.SameJobs.{same_caps, same_families}

module _ (E : Transport → Transport → Bool) where
  abbrev Alike : List Transport → List Transport → Type 0
  Alike xs ys = pointwise (option_eq E) (slots_of xs) (slots_of ys) ≡ pointwise E xs ys

  by-slots : (xs ys : List Transport) → length xs ≤ 4 → length ys ≤ 4 → Alike xs ys
  by-slots (x ∷ y ∷ z ∷ u ∷ v ∷ xs) ys few many = absurd (omega (arith, few))
  by-slots xs (x ∷ y ∷ z ∷ u ∷ v ∷ ys) few many = absurd (omega (arith, many))
  by-slots [] [] few many = refl
  by-slots [] (e ∷ []) few many = refl
  by-slots [] (e ∷ f ∷ []) few many = refl
  by-slots [] (e ∷ f ∷ g ∷ []) few many = refl
  by-slots [] (e ∷ f ∷ g ∷ h ∷ []) few many = refl
  by-slots (a ∷ []) [] few many = refl
  by-slots (a ∷ []) (e ∷ []) few many = refl
  by-slots (a ∷ []) (e ∷ f ∷ []) few many = refl
  by-slots (a ∷ []) (e ∷ f ∷ g ∷ []) few many = refl
  by-slots (a ∷ []) (e ∷ f ∷ g ∷ h ∷ []) few many = refl
  by-slots (a ∷ b ∷ []) [] few many = refl
  by-slots (a ∷ b ∷ []) (e ∷ []) few many = refl
  by-slots (a ∷ b ∷ []) (e ∷ f ∷ []) few many = refl
  by-slots (a ∷ b ∷ []) (e ∷ f ∷ g ∷ []) few many = refl
  by-slots (a ∷ b ∷ []) (e ∷ f ∷ g ∷ h ∷ []) few many = refl
  by-slots (a ∷ b ∷ c ∷ []) [] few many = refl
  by-slots (a ∷ b ∷ c ∷ []) (e ∷ []) few many = refl
  by-slots (a ∷ b ∷ c ∷ []) (e ∷ f ∷ []) few many = refl
  by-slots (a ∷ b ∷ c ∷ []) (e ∷ f ∷ g ∷ []) few many = refl
  by-slots (a ∷ b ∷ c ∷ []) (e ∷ f ∷ g ∷ h ∷ []) few many = refl
  by-slots (a ∷ b ∷ c ∷ d ∷ []) [] few many = refl
  by-slots (a ∷ b ∷ c ∷ d ∷ []) (e ∷ []) few many = refl
  by-slots (a ∷ b ∷ c ∷ d ∷ []) (e ∷ f ∷ []) few many = refl
  by-slots (a ∷ b ∷ c ∷ d ∷ []) (e ∷ f ∷ g ∷ []) few many = refl
  by-slots (a ∷ b ∷ c ∷ d ∷ []) (e ∷ f ∷ g ∷ h ∷ []) few many = refl

and-right : (a b c d : Bool) → (a && (b && (c && d))) ≡ (a && b && c && d)
and-right true true c d = refl
and-right true false c d = refl
and-right false b c d = refl

pub caps-same : (E : Transport → Transport → Bool) (families large fixed : Bool) (caps other : CapsValue) (result : Bool)
    → result ≡ (pointwise (option_eq E) (slots_of caps.transports) (slots_of other.transports) && (families && (large && fixed)))
    → E ≡ same_transport → families ≡ same_families caps.families other.families → large ≡ beq caps.is_large other.is_large
    → fixed ≡ beq caps.is_fixed other.is_fixed
    → AreOffered caps.transports → AreOffered other.transports → result ≡ same_caps caps other
caps-same E families large fixed caps other result is one two three four few many =
    is ∙ and-right (pointwise (option_eq E) (slots_of caps.transports) (slots_of other.transports)) families large fixed
    ∙ ap (λ b. b && families && large && fixed) (by-slots E caps.transports other.transports few.few many.few)
    ∙ ap (λ (e : Transport → Transport → Bool). pointwise e caps.transports other.transports && families && large && fixed) one
    ∙ ap (λ b. pointwise same_transport caps.transports other.transports && b && large && fixed) two
    ∙ ap (λ b. pointwise same_transport caps.transports other.transports && same_families caps.families other.families && b && fixed)
    three
    ∙ ap (λ b. pointwise same_transport caps.transports other.transports && same_families caps.families other.families
    && beq caps.is_large other.is_large && b) four
