-- The refusal of a line, from that of a name, and what is so of lines that are refused.
use Rattle.std.specs.Prelude.{ℕ, ◌<◌, List, length, Contains}
use Rattle.dns_message.specs.declared.resource.Record.{Record}
use Rattle.dns_name.specs.declared.refusal.NameRefusal.{NameRefusal}
use Rattle.dns_name.specs.declared.refusal.NameRefusal.TheVariants as name
use Rattle.dns_zone.specs.Lines.{IsEntryLine, IsFirstBad, LinesSay}
use Rattle.dns_zone.specs.declared.refusal.LineRefusal.{LineRefusal}
use Rattle.dns_zone.specs.declared.refusal.LineRefusal.TheVariants as line
use Rattle.dns_zone.specs.declared.refusal.ZoneRefusal.{ZoneRefusal}
use Rattle.dns_zone.specs.declared.refusal.ZoneRefusal.TheVariants as zone

abbrev pub line_of_name : NameRefusal → LineRefusal
line_of_name name.Memory = line.Memory
line_of_name _ = line.Bad

-- what holds of lines that are refused, by the refusal
abbrev pub RefusedFor : ZoneRefusal → List (List ℕ) → Type 0
RefusedFor (zone.BadLine number) lines = IsFirstBad lines number
RefusedFor zone.TooMany lines = (records : List Record) × LinesSay lines records
    × (4096 < length records)
-- memory is wanted for records alone
RefusedFor zone.Memory lines = (line : List ℕ) × Contains lines line × IsEntryLine line
