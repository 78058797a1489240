-- Jobs are the same exactly where they are equal. These are proofs, and no definitions to read:
-- they stand here because the laws of `==` cite them.
use Rattle.std.proofs.Common.{◌≡◌, Bool, true, false, ◌&&◌, refl, ap}
use Rattle.std.specs.Prelude.{nat_eq}
use Rattle.std.specs.Bool.{Decides, beq}
use Rattle.std.specs.Cmp.{booleans_Decides, unsigned_Decides}
use Rattle.std.specs.Cmp.Lexicographic.{pointwise, pointwise_decides, bytes_decides}
use Rattle.sip_uri.specs.Same.{same_transport}
use Rattle.sip_uri.specs.Same.Decided.{spoken_decides, uri_decides, via_decides}
use Rattle.sip_uri.specs.declared.transport.Transport.{Transport}
use Rattle.sip_uri.specs.declared.transport.Spoken.TheVariants.{Known}
use Rattle.sip_selection.specs.Callers.{CapsValue}
use Rattle.sip_selection.specs.declared.caps.Families.{Families}
use Rattle.sip_selection.specs.declared.caps.Families.TheVariants.{V4, V6, V4ThenV6, V6ThenV4}
use Rattle.sip_selection.specs.declared.request.Request.{Request}
use Rattle.sip_selection.specs.declared.request.Request.TheVariants.{Uri, Via}
use Rattle.sip_worker.specs.SameJobs.{same_caps, same_families, same_job, same_request}
use Rattle.sip_worker.specs.declared.job.Job.{Job}

transport_decides : (transport other : Transport)
    → Decides (same_transport transport other) (transport ≡ other)
transport_decides transport other =
    let k = spoken_decides (Known transport) (Known other) in (
      λ e. let same : Known transport ≡ Known other = k.0 e in cc,
      λ e. k.1 (ap (λ (t : Transport). Known t) e),
    )

pub request_decides : (request other : Request)
    → Decides (same_request request other) (request ≡ other)
request_decides (Uri uri) (Uri other) =
    let k = uri_decides uri other in (λ e. cc (k.0 e), λ e. k.1 cc)
request_decides (Uri uri) (Via other) = (λ e. absurd cc, λ e. absurd cc)
request_decides (Via via) (Uri other) = (λ e. absurd cc, λ e. absurd cc)
request_decides (Via via) (Via other) =
    let k = via_decides via other in (λ e. cc (k.0 e), λ e. k.1 cc)

families_decides : (families other : Families)
    → Decides (same_families families other) (families ≡ other)
families_decides V4 V4 = (λ e. refl, λ e. refl)
families_decides V4 V6 = (λ e. absurd cc, λ e. absurd cc)
families_decides V4 V4ThenV6 = (λ e. absurd cc, λ e. absurd cc)
families_decides V4 V6ThenV4 = (λ e. absurd cc, λ e. absurd cc)
families_decides V6 V4 = (λ e. absurd cc, λ e. absurd cc)
families_decides V6 V6 = (λ e. refl, λ e. refl)
families_decides V6 V4ThenV6 = (λ e. absurd cc, λ e. absurd cc)
families_decides V6 V6ThenV4 = (λ e. absurd cc, λ e. absurd cc)
families_decides V4ThenV6 V4 = (λ e. absurd cc, λ e. absurd cc)
families_decides V4ThenV6 V6 = (λ e. absurd cc, λ e. absurd cc)
families_decides V4ThenV6 V4ThenV6 = (λ e. refl, λ e. refl)
families_decides V4ThenV6 V6ThenV4 = (λ e. absurd cc, λ e. absurd cc)
families_decides V6ThenV4 V4 = (λ e. absurd cc, λ e. absurd cc)
families_decides V6ThenV4 V6 = (λ e. absurd cc, λ e. absurd cc)
families_decides V6ThenV4 V4ThenV6 = (λ e. absurd cc, λ e. absurd cc)
families_decides V6ThenV4 V6ThenV4 = (λ e. refl, λ e. refl)

both : {A B : Type 0} (r s : Bool) → Decides r A → Decides s B → Decides (r && s) (A × B)
both true true one two = (λ e. (one.0 refl, two.0 refl), λ e. refl)
both true false one two = (λ e. absurd cc, λ e. two.1 e.1)
both false s one two = (λ e. absurd cc, λ e. one.1 e.0)

pub caps_decides : (caps other : CapsValue) → Decides (same_caps caps other) (caps ≡ other)
caps_decides caps other =
    let k = both (pointwise same_transport caps.transports other.transports
    && same_families caps.families other.families && beq caps.is_large other.is_large)
    (beq caps.is_fixed other.is_fixed)
    (both (pointwise same_transport caps.transports other.transports
    && same_families caps.families other.families) (beq caps.is_large other.is_large)
    (both (pointwise same_transport caps.transports other.transports)
    (same_families caps.families other.families)
    (pointwise_decides transport_decides caps.transports other.transports)
    (families_decides caps.families other.families))
    (booleans_Decides caps.is_large other.is_large))
    (booleans_Decides caps.is_fixed other.is_fixed) in (
      λ e. let p = k.0 e in
          λ i. record {
            transports = p.0.0.0 i;
            families = p.0.0.1 i;
            is_large = p.0.1 i;
            is_fixed = p.1 i;
          },
      λ e. k.1 (
        (
          (ap (λ (c : CapsValue). c.transports) e, ap (λ (c : CapsValue). c.families) e),
          ap (λ (c : CapsValue). c.is_large) e,
        ),
        ap (λ (c : CapsValue). c.is_fixed) e,
      ),
    )

pub job_decides : (job other : Job) → Decides (same_job job other) (job ≡ other)
job_decides job other =
    let k = both (nat_eq job.number other.number && same_request job.request other.request
    && same_caps job.caps other.caps) (pointwise nat_eq job.words.0 other.words.0)
    (both (nat_eq job.number other.number && same_request job.request other.request)
    (same_caps job.caps other.caps)
    (both (nat_eq job.number other.number) (same_request job.request other.request)
    (unsigned_Decides job.number other.number) (request_decides job.request other.request))
    (caps_decides job.caps other.caps))
    (bytes_decides job.words.0 other.words.0) in (
      λ e. let p = k.0 e in λ i. record {
        number = p.0.0.0 i;
        request = p.0.0.1 i;
        caps = p.0.1 i;
        words = record { 0 = p.1 i };
      },
      λ e. k.1 (
        (
          (ap (λ (j : Job). j.number) e, ap (λ (j : Job). j.request) e),
          ap (λ (j : Job). j.caps) e,
        ),
        ap (λ (j : Job). j.words.0) e,
      ),
    )
