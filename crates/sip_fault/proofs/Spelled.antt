-- An answer of a reader says whether a text is spelled.
use Rattle.std.proofs.Common.{◌≡◌, ◌↔◌, IsTrue, Result, Ok, Err, IfOk, IsOkAnd, is_ok, refl}

pub ok_iff : {A B E : Type 0} (Text : B → Type 0) (of : A → B) (r : Result A E) → IfOk r (λ it. Text (of it))
    → ((b : B) → Text b → IsOkAnd r (λ it. of it ≡ b)) → IsTrue (is_ok r) ↔ ((b : B) × Text b)
ok_iff Text of (Ok it) found seen = ((λ t. (of it, found)), (λ text. refl))
ok_iff Text of (Err e) found seen = ((λ t. absurd cc), (λ text. absurd (seen text.0 text.1)))
