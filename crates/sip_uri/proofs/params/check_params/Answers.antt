use Rattle.std.proofs.Common.{◌≡◌, ◌<◌, List, ℕ, length, take, true, false, Some, None, sym, ap, ◌∙◌}
use Rattle.std.proofs.Math.ListN.{length-set}
use Rattle.std.specs.Option.{option_map, option_or}
use Rattle.ip_text.specs.Parts.{before, behind, parted}
use Rattle.sip_uri.specs.Readers.Params.{name_of, is_param, stands_in, value_so_far, transport_name, maddr_of}
use Rattle.ip_text.proofs.Cutting.{length_behind}
use Rattle.sip_uri.specs.Readers.Hosts.{IsHostPart}
use Rattle.sip_uri.specs.Views.{host_of}
use Rattle.sip_uri.specs.Classes.{is_param_octet}
use Rattle.sip_uri.specs.Readers.Pairs.{is_value_run}
use Rattle.sip_uri.specs.Readers.Runs.{is_run}
use Rattle.sip_uri.proofs.DomainTexts.{both_of}
use Rattle.sip_uri.proofs.MaddrSteps.{maddr_whole, maddr_more, map_or, either_some}
use Rattle.sip_uri.proofs.ParamRuns.{no_param}
use Rattle.sip_uri.proofs.ParamSteps.{bad_here, repeated_here, none_bad, checked_more, taken_more, marked_more, kept_whole, kept_more, transport_valued}
use Rattle.sip_uri.proofs.params.check_params.Goals as goal
use Rattle.sip_uri.proofs.params.check_params.Goals.{After-is_repeated, In-Some-behind, In-None}

pub returns-in_default-clause-fault : goal.returns-in_default-clause-fault
returns-in_default-clause-fault c =
    sym (bad_here c.args.params.now c.loop-name.rest.now c.loop-name.count c.loop-name.invariant.checked
    (no_param (before 59 c.loop-name.rest.now) c.in_default.ensures))

pub is_param-requires-clause-value : goal.is_param-requires-clause-value
is_param-requires-clause-value c =
    rw c.in-Some.ensures.value
    (both_of (is_run is_param_octet (name_of (before 59 c.loop-name.rest.now)))
    (is_value_run is_param_octet (behind 61 (before 59 c.loop-name.rest.now))) c.in-Some.ensures.runs).1

pub is_repeated-requires : goal.is_repeated-requires
is_repeated-requires c = c.loop-name.invariant.marked

pub returns-then-not-is_param-clause-fault : goal.returns-then-not-is_param-clause-fault
returns-then-not-is_param-clause-fault c =
    let bad : is_param (before 59 c.loop-name.rest.now) ≡ false =
    rw (c.in-Some.ensures.name, c.in-Some.ensures.value) at
    (sym c.is_param.ensures ∙ c.if-not-is_param.true) in
    sym (bad_here c.args.params.now c.loop-name.rest.now c.loop-name.count c.loop-name.invariant.checked bad)

good : (c : After-is_repeated) → is_param (before 59 c.loop-name.rest.now) ≡ true
good c =
    rw (c.in-Some.ensures.name, c.in-Some.ensures.value) at
    (sym c.is_param.ensures ∙ c.if-not-is_param.false)

repeated : (c : After-is_repeated)
    → c.is_repeated.result ≡ stands_in (take c.loop-name.count (parted 59 c.args.params.now)) (before 59 c.loop-name.rest.now)
repeated c = rw c.in-Some.ensures.name at c.is_repeated.ensures

pub returns-then-is_repeated-clause-fault : goal.returns-then-is_repeated-clause-fault
returns-then-is_repeated-clause-fault c =
    let at = (goal.at.returns-then-is_repeated-clause-fault c).After-is_repeated in
    sym (repeated_here c.args.params.now c.loop-name.rest.now c.loop-name.count c.loop-name.invariant.checked
    (good at) (sym (repeated at) ∙ c.if-is_repeated.true))

pub returns-in-None-clause-fault : goal.returns-in-None-clause-fault
returns-in-None-clause-fault c =
    let at = (goal.at.returns-in-None-clause-fault c).After-is_repeated in
    let none : behind 59 c.loop-name.rest.now ≡ None = rw c.in-None.is at (sym c.in-Some.ensures.behind) in
    sym (none_bad c.args.params.now c.loop-name.rest.now c.loop-name.count c.loop-name.invariant.checked
    (good at) (sym (repeated at) ∙ c.if-is_repeated.false) none)

-- the values so far, with that of this parameter
transport_is : (c : In-None) → option_map (λ text. text.now) c.value_so_far-transport.result
    ≡ value_so_far (option_map (λ text. text.now) c.loop-name.transport) transport_name (name_of (before 59 c.loop-name.rest.now))
    (behind 61 (before 59 c.loop-name.rest.now))
transport_is c =
    rw (c.in-Some.ensures.name, c.in-Some.ensures.value) at
    c.value_so_far-transport.ensures

pub returns-in-None-clause-transport : goal.returns-in-None-clause-transport
returns-in-None-clause-transport c =
    let none : behind 59 c.loop-name.rest.now ≡ None = rw c.in-None.is at (sym c.in-Some.ensures.behind) in
    transport_is c
    ∙ kept_whole c.args.params.now transport_name c.loop-name.rest.now (option_map (λ text. text.now) c.loop-name.transport)
    c.loop-name.invariant.transport none

host_is : (c : In-None) → option_map host_of c.or-maddr.result
    ≡ option_or (option_map host_of c.loop-name.maddr)
    (maddr_of (name_of (before 59 c.loop-name.rest.now)) (behind 61 (before 59 c.loop-name.rest.now)))
host_is c =
    let here : option_map host_of c.maddr_of-host.result
    ≡ maddr_of (name_of (before 59 c.loop-name.rest.now)) (behind 61 (before 59 c.loop-name.rest.now)) =
    rw (c.in-Some.ensures.name, c.in-Some.ensures.value) at
    c.maddr_of-host.ensures.host in
    ap (option_map host_of) c.or-maddr.ensures ∙ map_or host_of c.loop-name.maddr c.maddr_of-host.result
    ∙ ap (option_or (option_map host_of c.loop-name.maddr)) here

pub returns-in-None-clause-maddr : goal.returns-in-None-clause-maddr
returns-in-None-clause-maddr c =
    let none : behind 59 c.loop-name.rest.now ≡ None = rw c.in-None.is at (sym c.in-Some.ensures.behind) in
    host_is c
    ∙ maddr_whole c.args.params.now c.loop-name.rest.now (option_map host_of c.loop-name.maddr)
    c.loop-name.invariant.maddr none

shorter : (c : In-Some-behind) → (behind 59 c.loop-name.rest.now ≡ Some c.in-Some-behind.behind.now)
    × (length c.in-Some-behind.behind.now < length c.loop-name.rest.now)
shorter c =
    let some : behind 59 c.loop-name.rest.now ≡ Some c.in-Some-behind.behind.now =
    rw c.in-Some-behind.is at (sym c.in-Some.ensures.behind) in
    (some, length_behind 59 c.loop-name.rest.now c.in-Some-behind.behind.now some)

pub loop-name-smaller : goal.loop-name-smaller
loop-name-smaller c = (shorter (goal.at.loop-name-smaller c).In-Some-behind).1

pub loop-name-preserved : goal.loop-name-preserved
loop-name-preserved c =
    let at = goal.at.loop-name-preserved c in
    let l = c.loop-name in
    let params : List ℕ = c.args.params.now in
    let rest : List ℕ = l.rest.now in
    let k = shorter at.In-Some-behind in
    let is = good at.After-is_repeated in
    let marked = marked_more l.lengths (take l.count (parted 59 params)) (before 59 rest) l.invariant.size l.invariant.marked in
    let transport = kept_more params transport_name rest (option_map (λ text. text.now) l.transport) l.invariant.transport
    (transport_valued (before 59 rest) is) c.in-Some-behind.behind.now k.0 in
    let maddr = maddr_more params rest (option_map host_of l.maddr) l.invariant.maddr is c.in-Some-behind.behind.now k.0 in
    let here : option_map host_of c.maddr_of-host.result ≡ maddr_of (name_of (before 59 rest)) (behind 61 (before 59 rest)) =
    rw (c.in-Some.ensures.name, c.in-Some.ensures.value) at
    c.maddr_of-host.ensures.host in
    record {
      checked = checked_more params rest l.count l.invariant.checked is (sym (repeated at.After-is_repeated) ∙ c.if-is_repeated.false)
          c.in-Some-behind.behind.now k.0 k.1;
      size = rw length-set l.invariant.size;
      marked = rw (
        taken_more params rest l.count l.invariant.checked c.in-Some-behind.behind.now k.0,
        c.in-Some.ensures.name,
      ) marked;
      transport = rw (
        c.value_so_far-transport.ensures,
        c.in-Some.ensures.name,
        c.in-Some.ensures.value,
      ) transport;
      maddr = rw (c.or-maddr.ensures, map_or host_of l.maddr c.maddr_of-host.result, here) maddr;
      hostname = rw c.or-maddr.ensures
          (either_some IsHostPart l.maddr c.maddr_of-host.result l.invariant.hostname c.maddr_of-host.ensures.hostname);
    }
