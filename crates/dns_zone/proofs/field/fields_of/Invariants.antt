use Rattle.std.proofs.Common.{◌≡◌, length, take}
use Rattle.std.specs.Prelude.{◌==◌}
use Rattle.std.specs.List.{filter, slice_split}
use Rattle.dns_zone.specs.Lines.{is_field}
use Rattle.dns_zone.specs.Views.{texts}
use Rattle.dns_zone.proofs.field.fields_of.Given as goal

abbrev pub invariant-loop-field : goal.invariant-loop-field
invariant-loop-field l = record {
  can_next : goal.iterator-loop-field.can_next l.field-iterator;
  is_finite : goal.iterator-loop-field.is_finite l.field-iterator;
  fields : texts l.fields.items ≡ filter is_field (take (length l.yielded) (slice_split (λ octet. octet == 32) l.line));
}
