-- What holds of values that may need a question: of the value where it is known, else of the question.
use Rattle.std.proofs.Common.{◌≡◌, List, [], ◌∷◌, ◌++◌, Option, Some, None, Ok, Err, All, ok_or, refl}
use Rattle.std.proofs.lemmas.List.Elements.{All-append, All-head, All-nil, All-tail}
use Rattle.dns_message.specs.declared.question.Question.{Question}
use Rattle.sip_selection.specs.Known.{Needing, after, made, joined}

abbrev pub Meets : {X : Type 0} → (X → Type 0) → (Question → Type 0) → Needing X → Type 0
Meets Q R (Ok x) = Q x
Meets Q R (Err question) = R question

module _ (R : Question → Type 0) where
  pub meets-more : {X : Type 0} (Q Q' : X → Type 0) (n : Needing X) → ((x : X) → Q x → Q' x) → Meets Q R n → Meets Q' R n
  meets-more Q Q' (Ok x) more is = more x is
  meets-more Q Q' (Err question) more is = is

  pub made-meets : {X Y : Type 0} (Q : Y → Type 0) (f : X → Y) (n : Needing X) → Meets (λ x. Q (f x)) R n → Meets Q R (made f n)
  made-meets Q f (Ok x) is = is
  made-meets Q f (Err question) is = is

  pub after-meets : {X Y : Type 0} (Q : Y → Type 0) (f : X → Needing Y) (n : Needing X) → Meets (λ x. Meets Q R (f x)) R n
      → Meets Q R (after f n)
  after-meets Q f (Ok x) is = is
  after-meets Q f (Err question) is = is

  pub found-meets : {X : Type 0} (found : Option X) (question : Question) → (found ≡ None → R question)
      → Meets (λ x. found ≡ Some x) R (ok_or found question)
  found-meets (Some x) question lacks = refl
  found-meets None question lacks = lacks refl

  pub joined-meets : {X Y : Type 0} (P : Y → Type 0) (f : X → Needing (List Y)) (xs : List X) → All (λ x. Meets (All P) R (f x)) xs
      → Meets (All P) R (joined f xs)
  joined-meets P f [] each = All-nil P
  joined-meets P f (x ∷ xs) each =
      after-meets (All P) (λ first. made (λ others. first ++ others) (joined f xs)) (f x)
      (meets-more (All P) (λ first. Meets (All P) R (made (λ others. first ++ others) (joined f xs))) (f x)
      (λ first is. made-meets (All P) (λ others. first ++ others) (joined f xs)
      (meets-more (All P) (λ others. All P (first ++ others)) (joined f xs) (λ others is'. All-append P first others is is')
      (joined-meets P f xs (All-tail (λ x. Meets (All P) R (f x)) x xs each))))
      (All-head (λ x. Meets (All P) R (f x)) x xs each))
