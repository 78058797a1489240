use Rattle.std.proofs.Common.{◌≡◌, ◌∷◌, ◌++◌, []}
use Rattle.std.specs.String.{string_bytes}
use Rattle.ip_text.proofs.GroupSteps.{colon_is_ascii, group_written}
use Rattle.ip_text.proofs.address.push_groups.Goals as goal

pub loop-rest-preserved-in_ok-push : goal.loop-rest-preserved-in_ok-push
loop-rest-preserved-in_ok-push c =
    let colon : string_bytes c.push.new.self ≡ string_bytes c.push_hexadecimal.new.text ++ 58 ∷ [] =
    rw (c.in_ok-push.ensures.ascii colon_is_ascii) at c.in_ok-push.ensures.bytes in
    group_written c.loop-rest.rest.now c.in-len2-up.len_at_least c.if-not-is_empty.ensures (string_bytes c.loop-rest.text)
    (string_bytes c.push_hexadecimal.new.text) (string_bytes c.push.new.self) _ c.from.result c.from-in-len2-up.result
    c.from.ensures c.from-in-len2-up.ensures c.in_ok-push_hexadecimal.ensures colon c.loop-rest.invariant
