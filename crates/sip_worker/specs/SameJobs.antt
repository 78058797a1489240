-- Equality of jobs: that of their parts.
pub mod Decided
use Rattle.std.specs.Prelude.{Bool, true, false, ◌&&◌, nat_eq}
use Rattle.std.specs.Bool.{beq}
use Rattle.std.specs.Cmp.Lexicographic.{pointwise}
use Rattle.sip_uri.specs.Same.{same_transport, same_uri, same_via}
use Rattle.sip_selection.specs.Callers.{CapsValue}
use Rattle.sip_selection.specs.declared.caps.Families.{Families}
use Rattle.sip_selection.specs.declared.caps.Families.TheVariants.{V4, V6, V4ThenV6, V6ThenV4}
use Rattle.sip_selection.specs.declared.request.Request.{Request}
use Rattle.sip_selection.specs.declared.request.Request.TheVariants.{Uri, Via}
use Rattle.sip_worker.specs.declared.job.Job.{Job}

-- two requests are the same: of one kind, and the same in each part
abbrev pub same_request : Request → Request → Bool
same_request (Uri uri) (Uri other) = same_uri uri other
same_request (Uri uri) (Via other) = false
same_request (Via via) (Uri other) = false
same_request (Via via) (Via other) = same_via via other

-- two choices of address families are the same
abbrev pub same_families : Families → Families → Bool
same_families V4 V4 = true
same_families V6 V6 = true
same_families V4ThenV6 V4ThenV6 = true
same_families V6ThenV4 V6ThenV4 = true
same_families families other = false

-- two callers can do the same: the transports, in the same order, and the families of addresses;
-- both for requests that are too large for UDP, or for any; and both in the fixed order or neither
abbrev pub same_caps : CapsValue → CapsValue → Bool
same_caps caps other =
    pointwise same_transport caps.transports other.transports
    && same_families caps.families other.families && beq caps.is_large other.is_large
    && beq caps.is_fixed other.is_fixed

-- two jobs are the same in each part: number, request, what the caller can use, and random words
abbrev pub same_job : Job → Job → Bool
same_job job other =
    nat_eq job.number other.number && same_request job.request other.request
    && same_caps job.caps other.caps && pointwise nat_eq job.words.0 other.words.0
