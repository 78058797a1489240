-- What a wire over sockets hands on, and what it notes of servers.
use Rattle.std.specs.Prelude.{◌≡◌, ◌⊎◌, ℕ, zero, suc, true, List, [], ◌∷◌, None, IsSome}
use Rattle.dns_transport.specs.ReplyBits.{RefusesEdns}
use Rattle.dns_transport.specs.declared.query_form.QueryForm.{QueryForm}
use Rattle.dns_transport.specs.declared.server.Server.{Server}

-- a reply that is handed on: where EDNS is asked for, it is no refusal of EDNS
abbrev pub HandsOn : QueryForm → List ℕ → Type 0
HandsOn form octets = (form.edns ≡ None) ⊎ (RefusesEdns octets → ⊥)

-- a reply refuses EDNS where that is asked for
pub record Refuses (form : QueryForm) (octets : List ℕ) : Type 0 where
  pub asked : IsSome form.edns
  pub refuses : RefusesEdns octets

-- servers, of which the one at this place counts as one that refuses EDNS
abbrev pub with_refusal : ℕ → List Server → List Server
with_refusal at [] = []
with_refusal zero (server ∷ others) = record server { refused_edns = true } ∷ others
with_refusal (suc at) (server ∷ others) = server ∷ with_refusal at others

-- What is known of servers after this reply of the one at a place: it counts as one that refuses
-- EDNS only where the reply does so, and else all count as they did.
abbrev pub IsKnownAfter : QueryForm → ℕ → List ℕ → List Server → List Server → Type 0
IsKnownAfter form at reply old new =
    (new ≡ old) ⊎ (Refuses form reply × (new ≡ with_refusal at old))
