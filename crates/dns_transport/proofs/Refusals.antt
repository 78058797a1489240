-- Servers that refused EDNS.
use Rattle.std.proofs.Common.{◌≡◌, ℕ, zero, suc, ◌<◌, ◌≤◌, true, List, [], ◌∷◌, length, get_or, slice_set, refl, ap, arith}
use Rattle.dns_transport.specs.Wires.{with_refusal}
use Rattle.dns_transport.specs.declared.server.Server.{Server}

-- the server at a place is noted
pub noted_there : (servers : List Server) (at : ℕ) (here : Server) → at < length servers → here ≡ get_or servers at here
    → slice_set servers at (record here { refused_edns = true }) ≡ with_refusal at servers
noted_there [] at here within is = absurd (omega arith)
noted_there (server ∷ others) zero here within is = ap (λ (it : Server). record it { refused_edns = true } ∷ others) is
noted_there (server ∷ others) (suc at) here within is =
    ap (λ (rest : List Server). server ∷ rest) (noted_there others at here (omega arith) is)

-- no server is at a place behind them
pub none_there : (servers : List Server) (at : ℕ) → length servers ≤ at → servers ≡ with_refusal at servers
none_there [] at behind = refl
none_there (server ∷ others) zero behind = absurd (omega arith)
none_there (server ∷ others) (suc at) behind = ap (λ (rest : List Server). server ∷ rest) (none_there others at (omega arith))
