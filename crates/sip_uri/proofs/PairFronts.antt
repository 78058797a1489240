-- A name and its value in front of a text are what stands before a mark, parted at `=`.
use Rattle.std.proofs.Common.{◌≡◌, ℕ, Bool, true, false, ◌&&◌, List, [], ◌∷◌, ◌++◌, Option, Some, None, if◌then◌else◌, refl, ap, ◌∙◌, inl, inr, arith, eqb}
use Rattle.std.specs.Char.{is_ascii_hexdigit}
use Rattle.std.proofs.lemmas.Bool.{cases_Bool}
use Rattle.std.proofs.lemmas.Bool.Decides.{nat_tests}
use Rattle.std.proofs.lemmas.List.{append-nil}
use Rattle.std.proofs.lemmas.Option.{same_Some}
use Rattle.ip_text.specs.Parts.{before, behind, behind_front}
use Rattle.ip_text.proofs.Cutting.{lacks, at_first}
use Rattle.sip_uri.specs.Readers.Pairs.{IsMark, behind_end, are_runs}
use Rattle.sip_uri.specs.Readers.Runs.{is_run, behind_escaped, RunEnds}
use Rattle.sip_uri.proofs.RunFronts.{run_append}
use Rattle.sip_uri.proofs.RunSteps.{no_escape}
use Rattle.sip_uri.proofs.RunTexts.{run_read, run_lacks}

-- what lacks an octet, in front of a text
past : (octet : ℕ) (front rest : List ℕ) → lacks octet front ≡ true
    → (before octet (front ++ rest) ≡ front ++ before octet rest) × (behind octet (front ++ rest) ≡ behind octet rest)
past octet [] rest e = (refl, refl)
past octet (x ∷ front) rest e =
    elim (cases_Bool (eqb x octet)) [
      | inl is ↦ (let no : false ≡ true = rw is at e in absurd cc)
      | inr no' ↦ (let k = past octet front rest (rw no' at e) in rw no' (ap (λ (t : List ℕ). x ∷ t) k.0, k.1))
    ]

no_some : {A B : Type 0} (b : Bool) (x : A) (y : B) → (if b then Some x else None) ≡ None
    → ◌≡◌ {A = Option B} (if b then Some y else None) None
no_some true x y e = absurd cc
no_some false x y e = refl

-- what is no escaped octet is none where the text ends earlier
still_none : (octet x : ℕ) (text : List ℕ) → behind_escaped (x ∷ text) ≡ None → behind_escaped (x ∷ before octet text) ≡ None
still_none octet x [] none = refl
still_none octet x (high ∷ []) none =
    elim (cases_Bool (eqb high octet)) [
      | inl is ↦ rw is refl
      | inr no' ↦ rw no' refl
    ]
still_none octet x (high ∷ low ∷ text) none =
    elim (cases_Bool (eqb high octet)) [
      | inl is ↦ rw is refl
      | inr no' ↦ elim (cases_Bool (eqb low octet)) [
        | inl is ↦ rw no' (rw is refl)
        | inr none' ↦ rw no' (rw none'
            (no_some (eqb x 37 && is_ascii_hexdigit high && is_ascii_hexdigit low) text (before octet text) none))
      ]
    ]

-- what follows a run, and does not end the part
pub no_run : (class : ℕ → Bool) (octet : ℕ) (run : List ℕ) (x : ℕ) (text : List ℕ) → is_run class run ≡ true → RunEnds class (x ∷ text)
    → is_run class (run ++ x ∷ before octet text) ≡ false
no_run class octet run x text is ends =
    run_append class 0 run (x ∷ before octet text) is
    ∙ no_escape class (x ∷ before octet text) ends.0 (omega arith) (still_none octet x text ends.1)

no_front : (x : ℕ) (text : List ℕ) → behind_front 61 (x ∷ text) ≡ None → eqb x 61 ≡ false
no_front x text none =
    elim (cases_Bool (eqb x 61)) [
      | inl is ↦ (let no : Some text ≡ None = rw is at none in absurd cc)
      | inr no' ↦ no'
    ]

pub front_there : (text rest : List ℕ) → behind_front 61 text ≡ Some rest → text ≡ 61 ∷ rest
front_there [] rest e = absurd cc
front_there (x ∷ text) rest e =
    elim (cases_Bool (eqb x 61)) [
      | inl is ↦ (
          let same : x ≡ 61 = grind (arith, nat_tests) in
          let found : text ≡ rest = same_Some text rest (rw is at e) in
          cc)
      | inr no' ↦ (let no : None ≡ Some rest = rw no' at e in absurd cc)
    ]

pub end_found : (mark : ℕ) (rest : List ℕ) (found : Option (List ℕ)) → behind_end mark rest ≡ Some found
    → (before mark rest ≡ []) × (behind mark rest ≡ found)
end_found mark [] found e = (refl, same_Some None found e)
end_found mark (x ∷ rest) found e =
    elim (cases_Bool (eqb x mark)) [
      | inl same ↦ rw same (refl, same_Some (Some rest) found (rw same at e))
      | inr other ↦ (let no : ◌≡◌ {A = Option (Option (List ℕ))} None (Some found) = rw other at e in absurd cc)
    ]

-- what ends a run, and is no mark
pub record Stops (class : ℕ → Bool) (mark : ℕ) (rest : List ℕ) : Type 0 where
  pub octet : ℕ
  pub more : List ℕ
  pub rest_is : rest ≡ octet ∷ more
  pub front : before mark rest ≡ octet ∷ before mark more
  pub ends : RunEnds class (octet ∷ more)

pub stops : (class : ℕ → Bool) (mark : ℕ) (rest : List ℕ) → behind_end mark rest ≡ None → RunEnds class rest
    → Stops class mark rest
stops class mark [] e ends = absurd (let no : ◌≡◌ {A = Option (Option (List ℕ))} (Some None) None = e in cc)
stops class mark (x ∷ rest) e ends =
    elim (cases_Bool (eqb x mark)) [
      | inl same ↦ (let no : ◌≡◌ {A = Option (Option (List ℕ))} (Some (Some rest)) None = rw same at e in absurd cc)
      | inr other ↦ record { octet = x; more = rest; rest_is = refl; front = rw other refl; ends = ends }
    ]

module _ (class : ℕ → Bool) (mark : ℕ) (other : class mark ≡ false) (digit : is_ascii_hexdigit mark ≡ false)
    (percent : eqb 37 mark ≡ false) where
  pub before_mark : (run rest : List ℕ) → is_run class run ≡ true
      → (before mark (run ++ rest) ≡ run ++ before mark rest) × (behind mark (run ++ rest) ≡ behind mark rest)
  before_mark run rest good = past mark run rest (run_lacks class mark other digit percent run (run_read class run good))

module _ (class : ℕ → Bool) (mark : ℕ) (is : IsMark class mark) where
  at_mark : (run rest : List ℕ) → is_run class run ≡ true
      → (before mark (run ++ rest) ≡ run ++ before mark rest) × (behind mark (run ++ rest) ≡ behind mark rest)
  at_mark = before_mark class mark is.other is.digit is.percent

  no_equals : (run : List ℕ) → is_run class run ≡ true → lacks 61 run ≡ true
  no_equals run good = run_lacks class 61 is.equals refl refl run (run_read class run good)

  module _ (text name rest : List ℕ) (joined : name ++ rest ≡ text) (named : is_run class name ≡ true) where
    text_front : before mark text ≡ name ++ before mark rest
    text_front = rw (← joined) (at_mark name rest named).0

    text_behind : behind mark text ≡ behind mark rest
    text_behind = rw (← joined) (at_mark name rest named).1

    module _ (found : Option (List ℕ)) (e : behind_end mark rest ≡ Some found) where
      pub bare_front : before mark text ≡ name
      bare_front = text_front ∙ ap (λ (t : List ℕ). name ++ t) (end_found mark rest found e).0 ∙ append-nil name

      bare_parts : (before 61 (name ++ []) ≡ name ++ []) × (behind 61 (name ++ []) ≡ None)
      bare_parts = past 61 name [] (no_equals name named)

      pub bare_name : before 61 (before mark text) ≡ name
      bare_name = ap (before 61) bare_front ∙ rw append-nil at bare_parts.0

      pub bare_value : behind 61 (before mark text) ≡ None
      bare_value = ap (behind 61) bare_front ∙ rw append-nil at bare_parts.1

      pub bare_behind : behind mark text ≡ found
      bare_behind = text_behind ∙ (end_found mark rest found e).1

      pub bare_runs : are_runs class (before mark text) ≡ true
      bare_runs = rw (bare_name, bare_value, named) refl

    pub bare_bad : behind_front 61 rest ≡ None → behind_end mark rest ≡ None → RunEnds class rest
        → are_runs class (before mark text) ≡ false
    bare_bad none e ends =
        let it = stops class mark rest e ends in
        let equals : eqb it.octet 61 ≡ false = no_front it.octet it.more (rw it.rest_is at none) in
        let parted : before 61 (before mark text) ≡ name ++ it.octet ∷ before 61 (before mark it.more) =
        ap (before 61) (text_front ∙ ap (λ (t : List ℕ). name ++ t) it.front)
        ∙ (past 61 name (it.octet ∷ before mark it.more) (no_equals name named)).0
        ∙ rw equals refl in
        let bad = no_run class 61 name it.octet (before mark it.more) named (it.ends.0, still_none mark it.octet it.more it.ends.1) in
        rw (parted, bad) refl

  module _ (text name valued value rest : List ℕ) (joined : name ++ 61 ∷ valued ≡ text) (named : is_run class name ≡ true)
      (with_value : value ++ rest ≡ valued) (good : is_run class value ≡ true) where
    value_front : before mark valued ≡ value ++ before mark rest
    value_front = rw (← with_value) (at_mark value rest good).0

    valued_front : before mark text ≡ name ++ 61 ∷ before mark valued
    valued_front = text_front text name (61 ∷ valued) joined named ∙ rw is.apart refl

    valued_parts : (before 61 (before mark text) ≡ name) × (behind 61 (before mark text) ≡ Some (before mark valued))
    valued_parts = rw valued_front (at_first 61 name (before mark valued) (no_equals name named))

    pub valued_name : before 61 (before mark text) ≡ name
    valued_name = valued_parts.0

    module _ (found : Option (List ℕ)) (e : behind_end mark rest ≡ Some found) where
      whole : before mark valued ≡ value
      whole = value_front ∙ ap (λ (t : List ℕ). value ++ t) (end_found mark rest found e).0 ∙ append-nil value

      pub valued_value : behind 61 (before mark text) ≡ Some value
      valued_value = valued_parts.1 ∙ ap (λ (t : List ℕ). Some t) whole

      pub valued_behind : behind mark text ≡ found
      valued_behind =
          text_behind text name (61 ∷ valued) joined named
          ∙ rw is.apart (rw (← with_value) (at_mark value rest good).1) ∙ (end_found mark rest found e).1

      pub valued_runs : are_runs class (before mark text) ≡ true
      valued_runs = rw (valued_parts.0, valued_value, named, good) refl

    pub valued_bad : behind_end mark rest ≡ None → RunEnds class rest → are_runs class (before mark text) ≡ false
    valued_bad e ends =
        let it = stops class mark rest e ends in
        let bad : is_run class (before mark valued) ≡ false =
        ap (is_run class) (value_front ∙ ap (λ (t : List ℕ). value ++ t) it.front)
        ∙ no_run class mark value it.octet it.more good it.ends in
        rw (valued_parts.0, valued_parts.1, named, bad) refl
