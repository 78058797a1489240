-- The slots of a caller's transports.
use Rattle.std.proofs.Common.{◌≡◌, ℕ, ◌+◌, ◌<◌, not, List, [], ◌∷◌, ◌++◌, get_or, length, take, Option, Some, None, refl, ap, ◌∙◌, ◌||◌}
use Rattle.std.proofs.lemmas.List.{take_more}
use Rattle.std.proofs.lemmas.List.Elements.{filter-append, filter_map-append}
use Rattle.std.specs.List.{list_any}
use Rattle.sip_uri.specs.declared.transport.Transport.{Transport}
use Rattle.sip_uri.specs.declared.transport.Transport.TheVariants.{Udp}
use Rattle.sip_uri.specs.Same.{same_transport}
use Rattle.sip_selection.specs.Callers.{held_in, holds, without_udp}

pub held : (slots : List (Option Transport)) (transport : Transport)
    → list_any (λ slot. holds slot transport) slots
    ≡ list_any (λ offered. same_transport offered transport) (held_in slots)
held [] transport = refl
held (None ∷ slots) transport = held slots transport
held (Some offered ∷ slots) transport = ap (λ rest. same_transport offered transport || rest) (held slots transport)

others-more : (slots : List (Option Transport)) (slot : Option Transport) → without_udp (held_in (slots ++ slot ∷ []))
    ≡ without_udp (held_in slots) ++ without_udp (held_in (slot ∷ []))
others-more slots slot =
    ap without_udp (filter_map-append (λ it. it) slots (slot ∷ []))
    ∙ filter-append (λ transport. not (same_transport transport Udp)) (held_in slots) (held_in (slot ∷ []))

-- what a slot holds without UDP stands behind what the slots in front of it hold
pub others-next : (slots : List (Option Transport)) (at : ℕ) (found : Option Transport) (others : List Transport) (count : ℕ)
    → at < length slots → held_in (found ∷ []) ≡ without_udp (held_in (get_or slots at None ∷ []))
    → take count others ≡ without_udp (held_in (take at slots))
    → take count others ++ held_in (found ∷ []) ≡ without_udp (held_in (take (at + 1) slots))
others-next slots at found others count inside is before =
    rw (take_more slots at None inside, before, is, others-more (take at slots) (get_or slots at None)) refl
