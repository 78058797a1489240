-- A user in front of a text, and the password behind it, are what stands before and behind `:`.
use Rattle.std.proofs.Common.{◌≡◌, ℕ, Bool, false, true, not, ◌&&◌, eqb, length, sym, List, ◌++◌, Option, Some, None, refl, ap, ◌∙◌}
use Rattle.std.proofs.lemmas.List.{append-nil}
use Rattle.ip_text.specs.Parts.{before, behind}
use Rattle.sip_uri.specs.Classes.{is_user_octet}
use Rattle.sip_uri.specs.Readers.Pairs.{behind_end}
use Rattle.sip_uri.specs.Readers.Runs.{is_run, is_some_run, RunEnds}
use Rattle.sip_uri.specs.Readers.Uris.{is_userinfo, is_password}
use Rattle.sip_uri.proofs.PairFronts.{before_mark, end_found, no_run, stops}
use Rattle.sip_uri.proofs.ParamRuns.{no_some_run}

pub and_true : (b : Bool) → b && true ≡ b
and_true true = refl
and_true false = refl

pub user_is : (user : List ℕ) → is_run is_user_octet user ≡ true → (empty : Bool) → empty ≡ eqb (length user) 0
    → is_some_run is_user_octet user ≡ not empty
user_is user is empty e = rw is (and_true (not (eqb (length user) 0))) ∙ ap not (sym e)

module _ (text user rest : List ℕ) (joined : user ++ rest ≡ text) (is : is_run is_user_octet user ≡ true) where
  parts : (before 58 text ≡ user ++ before 58 rest) × (behind 58 text ≡ behind 58 rest)
  parts = rw (← joined) (before_mark is_user_octet 58 refl refl refl user rest is)

  pub user_found : (found : Option (List ℕ)) → behind_end 58 rest ≡ Some found
      → is_some_run is_user_octet user && is_password found ≡ is_userinfo text
  user_found found e =
      let front : before 58 text ≡ user =
      parts.0 ∙ ap (λ (t : List ℕ). user ++ t) (end_found 58 rest found e).0 ∙ append-nil user in
      let back : behind 58 text ≡ found = parts.1 ∙ (end_found 58 rest found e).1 in
      rw (front, back) refl

  pub user_bad : behind_end 58 rest ≡ None → RunEnds is_user_octet rest → false ≡ is_userinfo text
  user_bad e ends =
      let it = stops is_user_octet 58 rest e ends in
      let bad : is_run is_user_octet (before 58 text) ≡ false =
      ap (is_run is_user_octet) (parts.0 ∙ ap (λ (t : List ℕ). user ++ t) it.front)
      ∙ no_run is_user_octet 58 user it.octet it.more is it.ends in
      rw (no_some_run is_user_octet (before 58 text) bad) refl
