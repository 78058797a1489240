use Rattle.std.proofs.Common.{◌≡◌, ◌⊎◌, inl, inr, ℕ, List, Bor, map, subst, refl, sym}
use Rattle.std.specs.Prelude.{codes}
use Rattle.std.specs.List.{AllZip, Any}
use Rattle.clap.specs.declared.parser.matches.ArgMatches.{ArgMatches}
use Rattle.sipwhere_options.specs.CommandLine.{IsFault, words_of}
use Rattle.sipwhere_options.specs.Flags.{SpellsNothing}
use Rattle.sipwhere_options.specs.Servers.{ServerText}
use Rattle.sipwhere_options.specs.declared.options.OptionFault.{OptionFault}
use Rattle.sipwhere_options.specs.declared.options.OptionFault.TheVariants as fault
use Rattle.sipwhere_options.proofs.Words.{if_ok, if_err, of_texts, some_of_texts, words_are}
use Rattle.sipwhere_options.proofs.options.servers_in.Goals as goal

-- why words are refused, of the words of the option
refused : (matches : ArgMatches) (words : List (Bor (List ℕ))) (it : OptionFault)
    → map (λ word. word.now) words ≡ words_of matches (codes "server")
    → (it ≡ fault.Memory) ⊎ ((it ≡ fault.Server) × Any (λ word. SpellsNothing ServerText word.now) words) → IsFault matches it
refused matches words it are (inl is) = subst (IsFault matches) (sym is) tt
refused matches words it are (inr (is, some)) =
    subst (IsFault matches) (sym is) (subst (Any (SpellsNothing ServerText)) are (some_of_texts (SpellsNothing ServerText) words some))

pub returns-clause-read : goal.returns-clause-read
returns-clause-read c =
    let words = c.unwrap_or.result.now in
    let are : map (λ word. word.now) words ≡ words_of c.args.matches.now (codes "server") =
    rw c.unwrap_or.ensures (words_are c.get_strs.result _ _ refl c.get_strs.ensures) in
    if_ok _ _ c.servers_of.result
    (λ them h. subst (λ texts. AllZip ServerText texts them.items) are (of_texts ServerText words them.items h))
    c.servers_of.ensures.read

pub returns-clause-refused : goal.returns-clause-refused
returns-clause-refused c =
    let words = c.unwrap_or.result.now in
    let are : map (λ word. word.now) words ≡ words_of c.args.matches.now (codes "server") =
    rw c.unwrap_or.ensures (words_are c.get_strs.result _ _ refl c.get_strs.ensures) in
    if_err _ _ c.servers_of.result (λ it h. refused c.args.matches.now words it are h) c.servers_of.ensures.refused
