-- Where pointers lead, past all further pointers.
use Rattle.std.proofs.Common.{◌≡◌, ℕ, ◌+◌, ◌*◌, ◌<◌, ◌≤◌, List, [], ◌∷◌, ◌++◌, length, inl, inr, refl, sym, ◌∙◌, arith}
use Rattle.std.proofs.lemmas.Bool.Decides.{leb_tells}
use Rattle.std.proofs.lemmas.List.{length_push, get_or_push, get_or_append_left}
use Rattle.dns_name.specs.Offsets.{LabelsAt, pointer}
use Rattle.dns_name.specs.Pieces.{PointerPiece}
use Rattle.dns_name.specs.Landings.{Lands, IsLanding, AreLandings, LeadsTo, LeadsNowhere}
use Rattle.dns_name.specs.declared.landing.Landing.{Landing}
use Rattle.dns_name.proofs.Runs.{ends_later, from_pointer}

-- ---- one pointer

module _ (message : List ℕ) (p target : ℕ) (piece : PointerPiece message p target) where
  abbrev lead : ℕ
  lead = 256 * piece.high + piece.low

  -- it leads to what stands at its target
  pub lands_first : target < p → Lands message p target p
  lands_first before = record {
    within = omega arith;
    before = before;
    forth = λ labels end at le.
        pointer piece.high piece.low end piece.first piece.second (omega (arith, piece.leads)) (rw piece.leads at at) le refl;
    back = λ labels end at.
        let h = from_pointer message p p piece.high piece.low piece.first piece.second at in
        (h.4, h.0, rw piece.leads h.2, h.3);
  }

  -- it leads where the pointer at its target does
  pub lands_next : (there limit : ℕ) → target + 2 ≤ p → Lands message target there limit → Lands message p there limit
  lands_next there limit before next = record {
    within = omega (arith, next.within);
    before = next.before;
    forth = λ labels end at le.
        let here = rw piece.leads at (next.forth labels end at le) in
        pointer piece.high piece.low (lead + 2) piece.first piece.second (omega (arith, piece.leads)) here
        (omega (arith, piece.leads)) refl;
    back = λ labels end at.
        let h = from_pointer message p p piece.high piece.low piece.first piece.second at in
        let here : LabelsAt message target target labels h.0 = rw piece.leads h.2 in
        let k = next.back labels h.0 here in
        (h.4, k.1, k.2, k.3);
  }

-- ---- those of a message

pub AreLandings-push : (message : List ℕ) (landings : List Landing) (landing : Landing) (n : ℕ) → AreLandings message landings
    → length landings ≡ n → IsLanding message n landing → AreLandings message (landings ++ landing ∷ [])
AreLandings-push message landings landing n known size is = λ offset other lt.
    elim (leb_tells n offset) [
      | inl h ↦ let same : offset ≡ n = omega (arith, lt, length_push landings landing, size, h.1) in
          rw (get_or_push landings landing other offset (size ∙ sym same), same) is
      | inr h ↦ let before : offset < length landings = omega (arith, size, h.1) in
          rw (get_or_append_left landings (landing ∷ []) other offset before) (known offset other before)
    ]

-- ---- what a reader finds

module _ (message : List ℕ) (target start : ℕ) where
  pub leads_there : target < start → LeadsTo message target start target start
  leads_there before = record {
    within = omega arith;
    before = before;
    forth = λ labels end at le. (end, at, le);
    back = λ labels end at le. (end, at, le);
  }

  pub leads_on : (there limit : ℕ) → target + 2 ≤ start → Lands message target there limit → LeadsTo message target start there limit
  leads_on there limit before lands = record {
    within = omega (arith, lands.within);
    before = lands.before;
    forth = λ labels end at le. (target + 2, lands.forth labels end at le, before);
    back = λ labels end at le.
        let k = lands.back labels end at in
        (k.1, k.2, k.3);
  }

  pub nowhere_late : start ≤ target → LeadsNowhere message target start
  nowhere_late late labels end at = omega (arith, late, ends_later message at)

  pub nowhere_near : (there limit : ℕ) → start < target + 2 → Lands message target there limit → LeadsNowhere message target start
  nowhere_near there limit near lands labels end at = omega (arith, near, (lands.back labels end at).0)
