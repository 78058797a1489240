-- What is next for a request, seen as where it goes.
use Rattle.sip_selection.specs.Choice.{Resolution, targets, refused, need}
use Rattle.sip_selection.specs.declared.selection.Next.{Next}
use Rattle.sip_selection.specs.declared.selection.Next.TheVariants.{Ask, Targets, Refused}

-- what a locator does next, seen as where the request goes
abbrev pub next_of : Next → Resolution
next_of (Ask question) = need question.now
next_of (Targets list) = targets list.now
next_of (Refused reason) = refused reason
