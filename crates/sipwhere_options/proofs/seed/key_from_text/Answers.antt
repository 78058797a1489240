use Rattle.std.proofs.Common.{◌≡◌, ℕ, List, rules, refl, sym, ap, ◌∙◌}
use Rattle.std.specs.Prelude.{Result, Ok, Err, MatchResult}
use Rattle.hex.specs.declared.error.FromHexError.{FromHexError}
use Rattle.sipwhere_options.specs.CommandLine.{in_front_of_zeros}
use Rattle.sipwhere_options.proofs.seed.key_from_text.Goals as goal

-- what a decoder says of octets that it made or did not make
abbrev Decodes : Result (List ℕ) FromHexError → Result (Unit {0}) FromHexError → List ℕ → Type 0
Decodes answer result key = MatchResult answer (λ octets. (result ≡ Ok tt) × (key ≡ octets)) (λ error. result ≡ Err error)

-- where it made some, they are the answer
made : (answer : Result (List ℕ) FromHexError) (result : Result (Unit {0}) FromHexError) (key : List ℕ) (it : Unit {0})
    → Decodes answer result key → result ≡ Ok it → answer ≡ Ok key
made (Ok octets) result key it told is = ap Ok (sym told.1)
made (Err error) result key it told is = absurd (cc (sym told ∙ is))

pub returns-in-Ok-clause-found : goal.returns-in-Ok-clause-found
returns-in-Ok-clause-found c =
    let digits : c.as_slice.result.now ≡ in_front_of_zeros c.args.text.now =
    c.as_slice.ensures ∙ (rw (c.copy_from_slice.ensures.after, c.as_bytes-given.ensures.value) refl) in
    record {
      least = search rules;
      most = search rules;
      digits = made _ _ _ _ (rw digits at c.decode_to_slice.ensures.value) c.in-Ok.is;
    }

pub returns-in-Err-clause-none : goal.returns-in-Err-clause-none
returns-in-Err-clause-none c = λ key seed.
    let digits : c.as_slice.result.now ≡ in_front_of_zeros c.args.text.now =
    c.as_slice.ensures ∙ (rw (c.copy_from_slice.ensures.after, c.as_bytes-given.ensures.value) refl) in
    let told = rw seed.digits at (rw digits at c.decode_to_slice.ensures.value) in
    absurd (cc (sym c.in-Err.is ∙ told.0))
