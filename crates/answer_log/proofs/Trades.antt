-- The counts in trade: how they are made, cut, and raised at a step. Assumes `Logic`.
use Rattle.std.proofs.Common.{◌≡◌, ℕ, zero, suc, ◌+◌, ◌-◌, ◌<◌, Bool, true, false, List, [], ◌∷◌, set, sym, refl, ap, ◌∙◌, subst, arith}
use seplogic.Ra.Ura.{Ura}
use base.Fraction.{full_share}
use base.Share.{quarter, three_quarters}
use base.Logic.{SProp, ent, sep, wand, ex, all, upd, emp, id⊢, via, apply∗, all_e, upd_i}
use base.Fml.{Fml, ftrue}
use base.Shift.{Keyless}
use types.Logic.{Logic, sem}
use types.Owned.{basic}
use types.Keyed.{entries_new, entries_take, entry_keyless, entries_keyless}
use types.Kit.{‵, raw, ◌⊛◌, some, given, later, ◌$◌, ◌∵◌, !, qed, by, move, split, fjoin, fpack, pick, learn, show, frame, each, assume}
use types.Kit.{suffices, settle, done, use0, use1, use2, updating, await, now, rewrite}
use denote.Steps.{nothing}
use Rattle.std.specs.Prelude.{None}
use Rattle.logbook.specs.Pages.{Cell, cell}
use Rattle.logbook.specs.Kept.{halved, part, home, roster, pens_own, offer_owns}
use Rattle.logbook.proofs.Roster.{resets, joined, Reset, at_home}
use Rattle.answer_log.specs.declared.event.Event.{Event}
use Rattle.answer_log.specs.declared.event.Counted.{Counted}
use Rattle.answer_log.specs.declared.event.Event.TheVariants.{Opened}
use Rattle.answer_log.specs.Logs.{seat_of}
use Rattle.answer_log.specs.Counts.{counts, counts_from, first_name, holding, tally_owns, tallies_own, keeps_counts, gains_count, Counts}

module _ {M : Type 1} {𝓤 : Ura M} (𝓛 : Logic 𝓤) where
  open 𝓛 use {H}

  abbrev Pr : Type 2
  Pr = SProp 𝓤

  abbrev ◌⊢◌ : Pr → Pr → Type 1
  P ⊢ Q = ent 𝓤 P Q

  abbrev ◌∗◌ : Pr → Pr → Pr
  P ∗ Q = sep 𝓤 P Q

  abbrev ◌-∗◌ : Pr → Pr → Pr
  P -∗ Q = wand 𝓤 P Q

  abbrev ⟦◌⟧ : Fml → Pr
  ⟦ P ⟧ = sem 𝓛 P

  infix 26 ◌⊢◌
  infixr 35 ◌∗◌
  infixr 30 ◌-∗◌
  -- a row of counts of 0, and the seats' parts of it
  rowed : (δ n k : ℕ) → ⟦ roster δ k [] ⟧ ⊢ upd 𝓤 (⟦ roster δ k (counts_from k n []) ⟧ ∗ ⟦ pens_own δ k n ⟧)
  rowed δ zero k = qed 𝓛 (‵ (roster δ k []) ∷ []) ∵ suffices ! _ (upd_i 𝓤 (⟦ roster δ k [] ⟧ ∗ emp 𝓤)) $ nothing ! $ move ! (1 ∷ 0 ∷ []) $
      done !
  rowed δ (suc n) k = let more : List Cell = counts_from (suc k) n [] in let Z : Pr =
      ⟦ roster δ k ((0, true) ∷ more) ⟧ ∗ ⟦ pens_own δ k (suc n) ⟧ in qed 𝓛 (‵ (roster δ k []) ∷ []) ∵
      use1 𝓛 (‵ (part δ k full_share 0) ⊛ ‵ (roster δ (suc k) [])) (entries_take halved 𝓛 δ k (λ _. (full_share, 0))) $ split ! $
      use1 𝓛 (raw (upd 𝓤 (⟦ part δ k quarter 0 ⟧ ∗ ⟦ part δ k three_quarters 0 ⟧))) (resets 𝓛 δ k 0 0) $
      settle 𝓛 Z (‵ (part δ k quarter 0) ⊛ ‵ (part δ k three_quarters 0)) $ split ! $ move ! (2 ∷ []) $
      use1 𝓛 (raw (upd 𝓤 (⟦ roster δ (suc k) more ⟧ ∗ ⟦ pens_own δ (suc k) n ⟧))) (rowed δ n (suc k)) $
      settle 𝓛 Z (‵ (roster δ (suc k) more) ⊛ ‵ (pens_own δ (suc k) n)) $ split ! $
      suffices ! _ (upd_i 𝓤 Z) $ move ! (2 ∷ 1 ∷ []) $ fjoin ! $ move ! (2 ∷ 1 ∷ []) $ fjoin ! $ done !

  abbrev pub Begun : ℕ → ℕ → ℕ → Pr
  Begun seats groups δ = ⟦ keeps_counts (δ ∷ []) (Opened seats groups ∷ []) ⟧ ∗ ⟦ tallies_own δ 0 64 ⟧

  pub begins : (seats groups : ℕ) → emp 𝓤 ⊢ H.⇛ (ex 𝓤 (Begun seats groups))
  begins seats groups = qed 𝓛 [] ∵ updating ! $
      use0 𝓛 (later (some (λ (δ : ℕ). ‵ (roster δ 0 [])))) (via 𝓤 _ (entries_new halved 𝓛 0 (λ _. (full_share, 0))) (basic 𝓛 _)) $
      await ! tt $ pick ! (λ δ.
      use1 𝓛 (later (‵ (roster δ 0 (counts_from 0 64 [])) ⊛ ‵ (pens_own δ 0 64))) (via 𝓤 _ (rowed δ 64 0) (basic 𝓛 _)) $ await ! tt $
      now ! $ show ! (Begun seats groups) δ $ done !)

  -- the first seat's count leaves the row
  pub one_tally : (δ k n : ℕ) → 0 < n → ⟦ tallies_own δ k n ⟧ ⊢ ⟦ tally_owns true δ k 0 ⟧ ∗ ⟦ tallies_own δ (k + 1) (n - 1) ⟧
  one_tally δ k zero h = absurd (omega arith)
  one_tally δ k (suc n) h = let on : suc k ≡ k + 1 = omega arith in let less : n ≡ suc n - 1 = omega arith in
      subst (λ (t : ℕ × ℕ). ⟦ tallies_own δ k (suc n) ⟧ ⊢ ⟦ tally_owns true δ k 0 ⟧ ∗ ⟦ tallies_own δ t.0 t.1 ⟧) (λ i. (on i, less i))
      (id⊢ 𝓤 _)

  module _ (δ n : ℕ) (ask : Event) where
    abbrev Trade : List Event × List Event × Counted → Pr
    Trade z = ⟦ keeps_counts (δ ∷ []) z.0 ⟧ -∗ upd 𝓤 (⟦ keeps_counts (δ ∷ []) z.1 ⟧
        ∗ ⟦ gains_count (δ ∷ []) (holding (seat_of ask) n) z.2 ⟧)

    -- the count that the seat holds is the one that the rule has, and the two move as one
    traded : (xs ys : List Event) (r : Counted) → Counts ask xs ys r
        → ⟦ roster δ 0 (counts xs) ⟧ ∗ ⟦ part δ (seat_of ask) quarter n ⟧
        ⊢ upd 𝓤 (⟦ roster δ 0 (counts ys) ⟧ ∗ ⟦ gains_count (δ ∷ []) (holding (seat_of ask) n) r ⟧)
    traded xs ys r m = let s : ℕ = (seat_of ask) in let cs : List Cell = counts xs in let v : ℕ = (cell cs s).0 in let L : Fml =
        part δ s quarter r.after in let R : Fml = part δ s three_quarters r.after in
        let Z : Pr = ⟦ roster δ 0 (counts ys) ⟧ ∗ ⟦ gains_count (δ ∷ []) (holding (seat_of ask) n) r ⟧ in
        qed 𝓛 (‵ (roster δ 0 cs) ∷ ‵ (part δ s quarter n) ∷ []) ∵
        use1 𝓛 (‵ (part δ s three_quarters v) ⊛ raw (all 𝓤 (Reset 𝓛 δ 0 cs s s)))
        (at_home 𝓛 δ cs 0 s s (omega arith) m.seat (ap (λ (c : Cell). c.1) m.here)) $ split ! $ move ! (2 ∷ 0 ∷ []) $
        use2 𝓛 (given (n ≡ v) (‵ (part δ s full_share n))) (joined 𝓛 δ s n v) $ learn ! (λ same.
        use1 𝓛 (raw (upd 𝓤 (⟦ L ⟧ ∗ ⟦ R ⟧))) (resets 𝓛 δ s n r.after) $ settle 𝓛 Z (‵ L ⊛ ‵ R) $ split ! $ suffices ! _ (upd_i 𝓤 Z) $
        move ! (2 ∷ []) $
        use1 𝓛 (raw (Reset 𝓛 δ 0 cs s s r.after)) (all_e 𝓤 (Reset 𝓛 δ 0 cs s s) r.after) $ move ! (2 ∷ 0 ∷ []) $
        use2 𝓛 (‵ (roster δ 0 (set cs s (r.after, true)))) (apply∗ 𝓤 ⟦ R ⟧ ⟦ roster δ 0 (set cs s (r.after, true)) ⟧) $
        rewrite ! 0 (λ (l : List Cell). ‵ (roster δ 0 l)) (sym m.moved) refl $ frame ! $
        nothing ! $ fpack ! (n ≡ r.before) (λ _. ftrue) (same ∙ ap (λ (c : Cell). c.0) m.here) $ move ! (1 ∷ 0 ∷ []) $ fjoin ! $ done !)

    own_offered : ⟦ tally_owns true δ (seat_of ask) n ⟧ ⊢ ⟦ offer_owns (keeps_counts (δ ∷ [])) (Counts ask)
        (gains_count (δ ∷ []) (holding (seat_of ask) n)) None ⟧
    own_offered = qed 𝓛 (‵ (part δ (seat_of ask) quarter n) ∷ []) ∵
        each ! (λ (z : List Event × List Event × Counted). all 𝓤 (λ (_ : Counts ask z.0 z.1 z.2). Trade z))
        (λ z. each ! (λ (_ : Counts ask z.0 z.1 z.2). Trade z) (λ m.
        assume ! (‵ (roster δ 0 (counts z.0))) $ by ! (traded z.0 z.1 z.2 m)))

    pub offered : (s : ℕ) (y : Bool) → y ≡ true → (seat_of ask) ≡ s
        → ⟦ tally_owns y δ s n ⟧ ⊢ ⟦ offer_owns (keeps_counts (δ ∷ [])) (Counts ask) (gains_count (δ ∷ []) (holding s n)) None ⟧
    offered s y held e = subst (λ (t : Bool × ℕ). ⟦ tally_owns t.0 δ t.1 n ⟧ ⊢ ⟦ offer_owns (keeps_counts (δ ∷ [])) (Counts ask)
        (gains_count (δ ∷ []) (holding t.1 n)) None ⟧) (λ i. (sym held i, e i)) own_offered

home_keyless : (δ k n : ℕ) (y : Bool) → Keyless (home δ k n y)
home_keyless δ k n true = entry_keyless halved δ k _
home_keyless δ k n false = tt

roster_keyless : (δ k : ℕ) (cs : List Cell) → Keyless (roster δ k cs)
roster_keyless δ k [] = entries_keyless halved δ k (λ _. (full_share, 0))
roster_keyless δ k (c ∷ cs) = (home_keyless δ k c.0 c.1, roster_keyless δ (suc k) cs)

-- any thread may run a trade
pub counts_calm : (names : List ℕ) (log : List Event) → Keyless (keeps_counts names log)
counts_calm names log = roster_keyless (first_name names) 0 (counts log)

pub tally_keyless : (y : Bool) (δ s n : ℕ) → Keyless (tally_owns y δ s n)
tally_keyless true δ s n = entry_keyless halved δ s _
tally_keyless false δ s n = tt
