-- What a step does to the cells.
use Rattle.std.proofs.Common.{◌≡◌, ◌≢◌, ℕ, zero, suc, ◌<◌, ◌≤◌, ◌==◌, Bool, true, false, List}
use Rattle.std.proofs.Common.{[], ◌∷◌, ◌++◌, length, refl, ap, sym, ◌∙◌, arith, set, get_or}
use Rattle.std.proofs.lemmas.List.{set-get_or, get_or-set_other}
use Rattle.std.proofs.lemmas.Bool.Decides.{nat_tests}
use prog.Atomic.{either}
use Rattle.logbook.specs.Pages.{Cell, cell}
use Rattle.answer_log.proofs.Logs.{Keeps}

pub cell-adds : (cs : List Cell) (k : ℕ) → cell (cs ++ (0, false) ∷ []) k ≡ cell cs k
cell-adds [] zero = refl
cell-adds [] (suc k) = refl
cell-adds (c ∷ cs) zero = refl
cell-adds (c ∷ cs) (suc k) = cell-adds cs k

pub home-in : (cs : List Cell) (k : ℕ) → (cell cs k).1 ≡ true → k < length cs
home-in [] k h = absurd (cc (h))
home-in (c ∷ cs) zero h = omega arith
home-in (c ∷ cs) (suc k) h = let r = home-in cs k h in omega arith

pub same-cell : (cs : List Cell) (k n : ℕ) → (cell cs k).1 ≡ true → n ≡ (cell cs k).0 → set cs k (n, true) ≡ cs
same-cell cs k n h e =
    let c : (n, true) ≡ get_or cs k (0, false) = λ i. (e i, sym h i) in
    ap (λ (v : Cell). set cs k v) c ∙ set-get_or cs k (0, false)

-- an exchange of 0 with 0 changes nothing
idle-when : (b : Bool) (n : ℕ) → (n == 0) ≡ b → either b 0 n ≡ n
idle-when true n is = let z : n ≡ 0 = grind (arith, nat_tests) in sym z
idle-when false n is = refl

pub idle : (n : ℕ) → either (n == 0) 0 n ≡ n
idle n = idle-when (n == 0) n refl

pub keep-else : (cs : List Cell) (k v l : ℕ) (c : Cell) → l ≢ k → cell cs l ≡ c → cell (set cs k (v, true)) l ≡ c
keep-else cs k v l c ne e = get_or-set_other cs k l (v, true) (0, false) ne ∙ e

pub keeps-low : (groups : ℕ) (cs : List Cell) (k v : ℕ) → k ≤ groups → Keeps groups cs (set cs k (v, true))
keeps-low groups cs k v low l w some e = keep-else cs k v l (w, true) (λ p. absurd (omega arith)) e

-- a cell that is out is none that is at home
pub apart : (cs : List Cell) (k l : ℕ) → (cell cs k).1 ≡ false → (cell cs l).1 ≡ true → l ≢ k
apart cs k l out home p = let e : (cell cs l).1 ≡ (cell cs k).1 = ap (λ j. (cell cs j).1) p in absurd (cc)

pub keeps-out : (groups : ℕ) (cs : List Cell) (k v : ℕ) → (cell cs k).1 ≡ false → Keeps groups cs (set cs k (v, true))
keeps-out groups cs k v out l w some e = keep-else cs k v l (w, true) (apart cs k l out (ap (λ (c : Cell). c.1) e)) e

pub keeps-trans : (groups : ℕ) (a b c : List Cell) → Keeps groups a b → Keeps groups b c → Keeps groups a c
keeps-trans groups a b c h k l v some e = k l v some (h l v some e)

pub keeps-adds : (groups : ℕ) (cs : List Cell) → Keeps groups cs (cs ++ (0, false) ∷ [])
keeps-adds groups cs l v some e = cell-adds cs l ∙ e
