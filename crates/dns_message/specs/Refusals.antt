-- The refusal of a whole, from that of a part.
use Rattle.std.specs.Prelude.{◌≡◌, ◌⊎◌}
use Rattle.dns_name.specs.declared.refusal.NameReadRefusal.{NameReadRefusal}
use Rattle.dns_name.specs.declared.refusal.NameReadRefusal.TheVariants as name
use Rattle.dns_message.specs.declared.refusal.Part.{Part}
use Rattle.dns_message.specs.declared.refusal.EntryRefusal.{EntryRefusal}
use Rattle.dns_message.specs.declared.refusal.EntryRefusal.TheVariants as entry
use Rattle.dns_message.specs.declared.refusal.MessageRefusal.{MessageRefusal}
use Rattle.dns_message.specs.declared.refusal.MessageRefusal.TheVariants as message

abbrev pub refusal_of_name : NameReadRefusal → EntryRefusal
refusal_of_name name.Malformed = entry.Malformed
refusal_of_name name.Memory = entry.Memory

abbrev pub refusal_of_part : EntryRefusal → Part → MessageRefusal
refusal_of_part entry.Malformed part = message.Malformed part
refusal_of_part entry.Memory part = message.Memory

-- what stops the reading of a part
abbrev pub IsOfPart : MessageRefusal → Part → Type 0
IsOfPart refusal part = (refusal ≡ message.Memory) ⊎ (refusal ≡ message.Malformed part)
