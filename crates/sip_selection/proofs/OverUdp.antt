-- Targets over TCP, over UDP.
use Rattle.std.proofs.Common.{◌≡◌, ℕ, ◌+◌, ◌<◌, List, [], ◌∷◌, ◌++◌, get_or, length, take, Option, Some, None, option_to_list, refl, ap, ◌∙◌}
use Rattle.std.specs.List.{filter_map}
use Rattle.std.proofs.lemmas.List.{take_more}
use Rattle.std.proofs.lemmas.List.Elements.{filter_map-append}
use Rattle.sip_selection.specs.Fallbacks.{over_udp}
use Rattle.sip_selection.specs.declared.target.Target.{Target}

of-one : (x : Target) (it : Option Target) → it ≡ over_udp x → filter_map over_udp (x ∷ []) ≡ option_to_list it
of-one x None is = rw (← is) refl
of-one x (Some target) is = rw (← is) refl

pub one-more : (l : List Target) (k : ℕ) (d : Target) (it : Option Target) → k < length l → it ≡ over_udp (get_or l k d)
    → filter_map over_udp (take (k + 1) l) ≡ filter_map over_udp (take k l) ++ option_to_list it
one-more l k d it lt is =
    ap (filter_map over_udp) (take_more l k d lt) ∙ filter_map-append over_udp (take k l) (get_or l k d ∷ [])
    ∙ ap (λ more. filter_map over_udp (take k l) ++ more) (of-one (get_or l k d) it is)
