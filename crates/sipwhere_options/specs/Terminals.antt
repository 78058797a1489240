-- What a person reads.
use Rattle.std.specs.Prelude.{Bool, ◌&&◌, ◌||◌, not, if◌then◌else◌}
use Rattle.sip_report.specs.declared.address.AddressForm.{AddressForm}
use Rattle.sip_report.specs.declared.address.AddressForm.TheVariants.{Full, Short}
use Rattle.sip_report.specs.declared.report.Report.{Report}
use Rattle.sip_report.specs.declared.report.Report.TheVariants.{Lines, Json, Check, Metrics}
use Rattle.sipwhere_options.specs.declared.terminals.Terminals.{Terminals}

-- the form of addresses: short where it is asked for, or where lines go to a terminal
abbrev pub form_for : Bool → Report → Terminals → AddressForm
form_for short Lines terminals = if short || terminals.output then Short else Full
form_for short Json terminals = if short then Short else Full
form_for short Check terminals = if short then Short else Full
form_for short Metrics terminals = if short then Short else Full

-- progress is shown on the terminal: what became of texts goes elsewhere
abbrev pub shows_progress : Terminals → Bool
shows_progress terminals = terminals.errors && not terminals.output
