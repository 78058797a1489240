-- A choice to which no answer was given: where its transport is known, it goes on.
use Rattle.std.proofs.Common.{ℕ, List, [], ◌∷◌, Option, Some, None, Ok, Bool}
use Rattle.std.specs.Prelude.{Result, Err}
use Rattle.std.specs.Result.{OnErr}
use Rattle.sip_uri.specs.declared.transport.Transport.{Transport}
use Rattle.sip_selection.specs.Callers.{CapsValue, kinds_of}
use Rattle.sip_selection.specs.Choice.{IsNotRefused, resolved, to_name, by_offers, to_service}
use Rattle.sip_selection.specs.Known.{after, made}
use Rattle.sip_selection.specs.Requests.{default_port}
use Rattle.sip_selection.specs.Services.{targets_of, offer_named, service_at}
use Rattle.sip_selection.specs.declared.caps.Families.{Families}
use Rattle.sip_selection.specs.declared.caps.Families.TheVariants.{V4, V6, V4ThenV6, V6ThenV4}

pub whatever-came : {T E P : Type 0} (result : Result T E) → P → OnErr result P
whatever-came (Ok value) is = tt
whatever-came (Err error) is = is

pub err-each : {T E P Q : Type 0} → (P → Q) → (result : Result T E) → OnErr result P → OnErr result Q
err-each each (Ok value) is = tt
err-each each (Err error) is = each is

kinds-asked : (families : Families) (fixed : Bool) (name : List (List ℕ)) (port : ℕ) (transport : Transport)
    → IsNotRefused (resolved (made Ok (targets_of [] (kinds_of families) fixed transport port name)))
kinds-asked V4 fixed name port transport = tt
kinds-asked V6 fixed name port transport = tt
kinds-asked V4ThenV6 fixed name port transport = tt
kinds-asked V6ThenV4 fixed name port transport = tt

pub name-asked : (caps : CapsValue) (name : List (List ℕ)) (port : ℕ) (transport : Transport)
    → IsNotRefused (resolved (to_name caps [] name port transport))
name-asked caps name port transport = kinds-asked caps.families caps.is_fixed name port transport

named_service-named : (caps : CapsValue) (words : List ℕ) (name : List (List ℕ)) (transport : Transport)
    (named_service : Option (List (List ℕ)))
    → IsNotRefused (resolved (after (by_offers caps [] name (Ok transport))
    (after (λ offer. made (λ others. offer ∷ others) (Ok []))
    (offer_named [] (kinds_of caps.families) caps.is_fixed words transport 0 named_service))))
named_service-named caps words name transport None = name-asked caps name (default_port transport) transport
named_service-named caps words name transport (Some named_service) = tt

pub named_service-asked : (caps : CapsValue) (words : List ℕ) (name : List (List ℕ)) (transport : Transport)
    → IsNotRefused (resolved (to_service caps words [] name (Ok transport)))
named_service-asked caps words name transport = named_service-named caps words name transport (service_at name transport).name
