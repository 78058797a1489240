use Rattle.std.proofs.Common.{[], ◌∷◌, Result, Ok, Err, OnOk, refl, sym, ap, ◌∙◌}
use Rattle.std.specs.List.{filter_map}
use Rattle.resolver_file.specs.ResolverLines.{option_fact, words_of}
use Rattle.resolver_file.specs.Views.{form_value}
use Rattle.resolver_file.specs.declared.resolver_fact.Fact.TheVariants.{Fault}
use Rattle.resolver_file.proofs.file.ResolverFile.take_line.Goals as goal

on-ok : {T E : Type 0} (result : Result T E) (P : Type 0) → P → OnOk result P
on-ok (Ok value) P it = it
on-ok (Err refusal) P it = tt

pub returns-in-Server-clause-said : goal.returns-in-Server-clause-said
returns-in-Server-clause-said c =
    on-ok c.take_fact.result _ (
      c.server_fact.result ∷ [],
      rw (sym c.line_form.ensures ∙ ap form_value c.in-Server.is) (c.server_fact.result, refl, c.server_fact.ensures.said),
    )

pub returns-in-Options-clause-said : goal.returns-in-Options-clause-said
returns-in-Options-clause-said c =
    on-ok c.take_options.result _ (
      filter_map option_fact (words_of c.in-Options.text.now),
      rw (sym c.line_form.ensures ∙ ap form_value c.in-Options.is) refl,
    )

pub returns-in-Faulty-clause-said : goal.returns-in-Faulty-clause-said
returns-in-Faulty-clause-said c =
    on-ok c.take_fact-in-Faulty.result _ (
      Fault c.in-Faulty.fault ∷ [],
      rw (sym c.line_form.ensures ∙ ap form_value c.in-Faulty.is) refl,
    )
