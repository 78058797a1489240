use Rattle.std.proofs.Common.{◌≡◌, ◌<◌, List, ℕ, true, false, Some, None, length, refl, sym, ap, arith, ◌∙◌, slice_index}
use Rattle.std.proofs.lemmas.Bool.Decides.{nat_tests}
use Rattle.sip_uri.specs.Hosts.{is_label_octet}
use Rattle.ip_text.specs.Parts.{before, behind, behind_front}
use Rattle.sip_uri.specs.Readers.Hostnames.{is_label}
use Rattle.sip_uri.specs.ViaClasses.{row, behind_row}
use Rattle.std.specs.Char.{is_ascii_alphabetic}
use Rattle.ip_text.proofs.Cutting.{length_behind}
use Rattle.sip_uri.proofs.ViaRows.{row_all}
use Rattle.sip_uri.proofs.Hostnames.{whole_row, row_dot, other_row, bad_row, last_label, goes_on, bad_label}
use Rattle.sip_uri.proofs.hostname.are_labels.Goals as goal
use Rattle.sip_uri.proofs.hostname.are_labels.Goals.{After-is_empty, In-Some}

pub is_label-requires : goal.is_label-requires
is_label-requires c = rw c.cut.ensures.front (row_all is_label_octet c.loop-label.rest.now)

pub returns-then-not-is_label : goal.returns-then-not-is_label
returns-then-not-is_label c =
    let bad : is_label (row is_label_octet c.loop-label.rest.now) ≡ false =
    rw c.cut.ensures.front at (sym c.is_label.ensures ∙ c.if-not-is_label.true) in
    sym (bad_label c.args.text.now c.loop-label.rest.now c.loop-label.invariant (bad_row c.loop-label.rest.now bad))

good : (c : After-is_empty) → is_label (row is_label_octet c.loop-label.rest.now) ≡ true
good c = rw c.cut.ensures.front at (sym c.is_label.ensures ∙ c.if-not-is_label.false)

pub returns-then-is_empty : goal.returns-then-is_empty
returns-then-is_empty c =
    let rest : List ℕ = c.loop-label.rest.now in
    let long : length c.cut.result.1.now ≡ length (behind_row is_label_octet rest) = ap length c.cut.ensures.back in
    let is : length c.cut.result.1.now ≡ 0 = grind (arith, nat_tests, c.if-is_empty.true, c.is_empty.ensures) in
    let k = whole_row is_label_octet refl rest (omega arith) in
    let good' : is_label (before 46 rest) ≡ true = rw k.0 (good (goal.at.returns-then-is_empty c).After-is_empty) in
    let first : c.is_ascii_alphabetic.result ≡ is_ascii_alphabetic (slice_index (before 46 rest) 0) =
    rw k.0 (rw c.cut.ensures.front at c.is_ascii_alphabetic.ensures.value) in
    sym (rw good' at (last_label c.args.text.now rest c.loop-label.invariant k.1) ∙ sym first)

pub returns-in-None : goal.returns-in-None
returns-in-None c =
    let rest : List ℕ = c.loop-label.rest.now in
    let long : length c.cut.result.1.now ≡ length (behind_row is_label_octet rest) = ap length c.cut.ensures.back in
    let is : 0 < length c.cut.result.1.now = grind (arith, nat_tests, c.if-is_empty.false, c.is_empty.ensures) in
    let none : behind_front 46 (behind_row is_label_octet rest) ≡ None =
    rw (c.in-None.is, c.cut.ensures.back) at (sym c.behind_front.ensures) in
    sym (bad_label c.args.text.now rest c.loop-label.invariant (other_row rest (omega arith) none))

dotted : (c : In-Some) → (before 46 c.loop-label.rest.now ≡ row is_label_octet c.loop-label.rest.now)
    × (behind 46 c.loop-label.rest.now ≡ Some c.in-Some.behind.now)
dotted c =
    let some : behind_front 46 (behind_row is_label_octet c.loop-label.rest.now) ≡ Some c.in-Some.behind.now =
    rw (c.in-Some.is, c.cut.ensures.back) at (sym c.behind_front.ensures) in
    row_dot is_label_octet refl c.loop-label.rest.now c.in-Some.behind.now some

pub loop-label-smaller : goal.loop-label-smaller
loop-label-smaller c = length_behind 46 c.loop-label.rest.now c.in-Some.behind.now (dotted (goal.at.loop-label-smaller c).In-Some).1

pub loop-label-preserved : goal.loop-label-preserved
loop-label-preserved c =
    let k = dotted (goal.at.loop-label-preserved c).In-Some in
    let good' : is_label (before 46 c.loop-label.rest.now) ≡ true = rw k.0 (good (goal.at.loop-label-preserved c).After-is_empty) in
    goes_on c.args.text.now c.loop-label.rest.now c.loop-label.invariant c.in-Some.behind.now k.1 good'
