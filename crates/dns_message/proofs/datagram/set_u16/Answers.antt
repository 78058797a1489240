use Rattle.std.proofs.Common.{◌≡◌, ℕ, suc, ◌+◌, List, [], ◌∷◌, ◌++◌, length, slice_set, slice_index_or, refl, ap, ◌∙◌, add-one}
use Rattle.std.specs.Int.{w16, to_be_bytes}
use Rattle.std.proofs.Math.ListN.{length-set}
use Rattle.arrayvec.proofs.ArrayVecLemmas.{items-with_items}
use Rattle.dns_message.specs.Written.{two_octets}
use Rattle.dns_message.proofs.datagram.set_u16.Goals as goal

-- the octets with these two at one offset and the next
abbrev with_two : List ℕ → ℕ → ℕ → List ℕ → List ℕ
with_two octets offset next two = slice_set (slice_set octets offset (slice_index_or two 0 0)) next (slice_index_or two 1 0)

with_two-is : (front back : List ℕ) (number : ℕ)
    → with_two (front ++ two_octets 0 ++ back) (length front) (suc (length front)) (to_be_bytes w16 number)
    ≡ front ++ two_octets number ++ back
unfolding two_octets
with_two-is [] back number = refl
with_two-is (x ∷ xs) back number = ap (λ l. x ∷ l) (with_two-is xs back number)

pub returns : goal.returns
returns c front back e old =
    let octets = with_two c.as_mut_slice-octets.result.now c.args.offset (c.args.offset + 1) c.to_be_bytes.result in
    let size : length octets ≡ length c.args.out.now.items = simp length-set (ap length c.as_mut_slice-octets.ensures.value) in
    items-with_items (record { items = c.args.out.now.items }) octets size
    ∙ rw (c.as_mut_slice-octets.ensures.value, old, ← e, c.to_be_bytes.ensures, add-one) (with_two-is front back c.args.number)
