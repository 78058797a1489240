use Rattle.std.proofs.Common.{◌≡◌, Bool, true, false, List, [], ◌∷◌, ◌++◌, if◌then◌else◌, is_ok, sym, subst}
use Rattle.std.proofs.lemmas.List.Elements.{All-push}
use Rattle.std.specs.List.{All}
use Rattle.answer_cache.specs.Shared.{Belongs, SharedView}
use Rattle.try_states.proofs.seats.keep.Goals as goal

-- whether or not it was pushed
all-pushed : (X : Type 0) (P : X → Type 0) (xs ys : List X) (x : X) (pushed : Bool) → ys ≡ (if pushed then xs ++ x ∷ [] else xs) → All P xs
    → P x → All P ys
all-pushed X P xs ys x true is all here = let A : List X → Type 0 = λ l. All P l in subst A (sym is) (All-push P xs x all here)
all-pushed X P xs ys x false is all here = let A : List X → Type 0 = λ l. All P l in subst A (sym is) all

pub returns : goal.returns
returns c =
    all-pushed SharedView (Belongs c.args.cache.now) c.args.seats.now.items c.push.new.self.items c.args.seat
    (is_ok c.push.result) c.push.ensures.items c.requires.seats c.requires.seat
