-- Values that may need a question, made and used one after the other.
use Rattle.std.proofs.Common.{◌≡◌, List, ◌++◌, Ok, Err, refl, sym, ap, append_assoc}
use Rattle.sip_selection.specs.Known.{Needing, after, made}

pub after-made : {X Y Z : Type 0} (f : Y → Needing Z) (g : X → Y) (n : Needing X) → after f (made g n) ≡ after (λ x. f (g x)) n
after-made f g (Ok x) = refl
after-made f g (Err question) = refl

pub after-after : {X Y Z : Type 0} (f : Y → Needing Z) (g : X → Needing Y) (n : Needing X)
    → after f (after g n) ≡ after (λ x. after f (g x)) n
after-after f g (Ok x) = refl
after-after f g (Err question) = refl

-- the same of each value
pub after-each : {X Y : Type 0} (f g : X → Needing Y) → ((x : X) → f x ≡ g x) → (n : Needing X) → after f n ≡ after g n
after-each f g each (Ok x) = each x
after-each f g each (Err question) = refl

module _ {Y : Type 0} where
  -- what stands in front
  pub twice-in-front : (first second : List Y) (n : Needing (List Y))
      → made (λ more. first ++ more) (made (λ more. second ++ more) n) ≡ made (λ more. (first ++ second) ++ more) n
  twice-in-front first second (Ok more) = ap Ok (sym (append_assoc first second more))
  twice-in-front first second (Err question) = refl
