-- Sums that go round.
use Rattle.std.proofs.Common.{◌≡◌, ℕ, ◌+◌, ◌-◌, ◌%◌, ◌<◌, ◌≤◌, sym, ◌∙◌, arith}
use Rattle.std.proofs.Math.Nat.{mod-lt, mod-eq_of_lt, mod-eq-sub-mod, mod-add-mod, add-mod-mod}
use Rattle.dns_transport.specs.ServerOrders.{server_at}

-- of a sum only what each part leaves counts
of-rests : (first sends servers : ℕ) → (first + sends) % servers ≡ (first % servers + sends % servers) % servers
of-rests first sends servers = sym (mod-add-mod first servers (sends % servers) ∙ add-mod-mod first sends servers)

pub below-round : (first sends servers : ℕ) → first % servers + sends % servers < servers
    → first % servers + sends % servers ≡ server_at first sends servers
below-round first sends servers less = sym (of-rests first sends servers ∙ mod-eq_of_lt less)

pub behind-round : (first sends servers : ℕ) → 0 < servers → servers ≤ first % servers + sends % servers
    → first % servers + sends % servers ≡ server_at first sends servers + servers
behind-round first sends servers some more =
    let rests = first % servers + sends % servers in
    let f : first % servers < servers = mod-lt first some in
    let s : sends % servers < servers = mod-lt sends some in
    let less : rests - servers < servers = omega (arith, f, s, more) in
    let is : server_at first sends servers ≡ rests - servers =
    of-rests first sends servers ∙ mod-eq-sub-mod more ∙ mod-eq_of_lt less in
    omega (arith, is, more)
