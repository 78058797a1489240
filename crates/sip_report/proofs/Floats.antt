-- What is written of a text has no float.
use Rattle.std.proofs.Common.{◌≡◌, ◌||◌, ℕ, Bool, true, false, true≢false, codes, List, [], ◌∷◌, map, Ordering, Less, Equal, Greater, nat_cmp, refl}
use Rattle.std.specs.Cmp.Lexicographic.{slice_cmp}
use Rattle.std.specs.Net.Text.{socket_text}
use Rattle.std.specs.Ordering.{match_ordering}
use Rattle.std.specs.Prelude.{Option, Some, None}
use Rattle.std.specs.declared.net.SocketAddr.{SocketAddr}
use Rattle.dns_answers.specs.declared.refusal.ReplyRefusal.TheVariants as refusal
use Rattle.serde_json.specs.View.{items_of}
use Rattle.serde_json.specs.Data.{Data, Members, null, boolean, array, member, no_members, number, object, put, string}
use Rattle.serde_json.specs.Written.{has_float, items_have_float, members_have_float}
use Rattle.sip_resolver.specs.declared.outcome.Outcome.TheVariants as outcome
use Rattle.sip_selection.specs.declared.target.Target.{Target}
use Rattle.sip_ping.specs.declared.answer.Answer.TheVariants as answer
use Rattle.sip_tries.specs.declared.found.Found.{Found}
use Rattle.sip_tries.specs.declared.found.Found.TheVariants as found
use Rattle.sip_tries.specs.declared.found.TargetTry.{TargetTry}
use Rattle.sip_uri.specs.declared.transport.Transport.{Transport}
use Rattle.sip_uri.specs.declared.transport.Transport.TheVariants.{Udp, Tcp, Sctp, Tls}
use Rattle.sip_report.specs.Hosts.{host_words}
use Rattle.sip_report.specs.Jsons.{found_data, line_outcome_data, place_data, target_data, try_data, verified, number_data, with_member, with_server, with_ttl}
use Rattle.sip_report.specs.declared.address.AddressForm.{AddressForm}
use Rattle.sip_report.specs.declared.line_outcome.LineOutcome.{LineOutcome}
use Rattle.sip_report.specs.declared.line_outcome.LineOutcome.TheVariants as line_outcome

-- ---- one member more

both_false : (a b : Bool) → (a || b) ≡ false → (a ≡ false) × (b ≡ false)
both_false true b e = absurd (true≢false e)
both_false false b e = (refl, e)

none_in_order : (order : Ordering) (before at behind : Members) → members_have_float before ≡ false
    → members_have_float at ≡ false → members_have_float behind ≡ false
    → members_have_float (match_ordering order before at behind) ≡ false
none_in_order Less before at behind first second third = first
none_in_order Equal before at behind first second third = second
none_in_order Greater before at behind first second third = third

none_in_put : (key : List ℕ) (one : Data) (members : Members) → has_float one ≡ false → members_have_float members ≡ false
    → members_have_float (put key one members) ≡ false
none_in_put key one no_members single none = rw single refl
none_in_put key one (member other data' members) single none =
    let parts = both_false (has_float data') (members_have_float members) none in
    none_in_order (slice_cmp nat_cmp key other) (member key one (member other data' members))
    (member other one members) (member other data' (put key one members)) (rw single none) (rw single parts.1)
    (rw parts.0 (none_in_put key one members single parts.1))

none_in_member : (key : List ℕ) (one it : Data) → has_float one ≡ false → has_float it ≡ false
    → has_float (with_member key one it) ≡ false
none_in_member key one (object members) single none = none_in_put key one members single none
none_in_member key one (array items) single none = none
none_in_member key one (string other) single none = none
none_in_member key one (number value) single none = none
none_in_member key one (boolean value) single none = none
none_in_member key one null single none = none

none_in_verified : (verify : List ℕ) (transport : Transport) (it : Data) → has_float it ≡ false
    → has_float (verified verify transport it) ≡ false
none_in_verified verify Tls it none = none_in_member (codes "verify") (string verify) it refl none
none_in_verified verify Udp it none = none
none_in_verified verify Tcp it none = none
none_in_verified verify Sctp it none = none

-- ---- targets

none_in_targets : (form : AddressForm) (verify : List ℕ) (targets : List Target)
    → items_have_float (items_of (map (target_data form verify) targets)) ≡ false
none_in_targets form verify [] = refl
none_in_targets form verify (target ∷ targets) =
    rw (none_in_verified verify target.transport (place_data form target) refl) (none_in_targets form verify targets)

none_in_found : (form : AddressForm) (target : Target) (it : Found) → has_float (found_data form target it) ≡ false
none_in_found form target (found.Asked (answer.Replied reply)) = refl
none_in_found form target (found.Asked answer.Silent) = refl
none_in_found form target (found.Asked answer.Refused) = refl
none_in_found form target (found.Asked answer.Unreadable) = refl
none_in_found form target found.Untried = refl

none_in_tries : (form : AddressForm) (verify : List ℕ) (tries : List TargetTry)
    → items_have_float (items_of (map (try_data form verify) tries)) ≡ false
none_in_tries form verify [] = refl
none_in_tries form verify (it ∷ tries) =
    let none = none_in_found form it.target it.found in
    rw (none_in_verified verify it.target.transport (found_data form it.target it.found) none) (none_in_tries form verify tries)

pub none : (form : AddressForm) (text : List ℕ) (took : ℕ) (it : LineOutcome)
    → has_float (line_outcome_data form text took it) ≡ false
none form text took (line_outcome.Became (outcome.Targets list)) =
    rw (none_in_targets form (host_words form list.certificate_host) list.targets) refl
none form text took (line_outcome.Became (outcome.Refused reason)) = refl
none form text took (line_outcome.Became (outcome.NoAnswer question)) = refl
none form text took (line_outcome.Became (outcome.NoServer question)) = refl
none form text took (line_outcome.Became (outcome.BadReply question refusal.NotReply)) = refl
none form text took (line_outcome.Became (outcome.BadReply question refusal.OtherQuestion)) = refl
none form text took (line_outcome.Became (outcome.BadReply question refusal.Truncated)) = refl
none form text took (line_outcome.Became (outcome.BadReply question (refusal.ServerFault rcode))) = refl
none form text took (line_outcome.Became (outcome.BadReply question refusal.Memory)) = refl
none form text took (line_outcome.Became outcome.Memory) = refl
none form text took (line_outcome.Tried tries) =
    let verify = host_words form tries.certificate_host in
    rw (none_in_targets form verify tries.targets.items, none_in_tries form verify tries.tries.items) refl
none form text took (line_outcome.NoSuchName name) = refl
none form text took line_outcome.TimeOver = refl
none form text took (line_outcome.Bad fault) = refl
none form text took line_outcome.NotText = refl
none form text took line_outcome.Memory = refl

-- ---- with the account of a text

none_in_ttl : (life : Option ℕ) (it : Data) → has_float it ≡ false → has_float (with_ttl life it) ≡ false
none_in_ttl None it none = none
none_in_ttl (Some life) it none = none_in_member (codes "ttl") (number_data life) it refl none

none_in_server : (server : Option SocketAddr) (it : Data) → has_float it ≡ false → has_float (with_server server it) ≡ false
none_in_server None it none = none
none_in_server (Some server) it none = none_in_member (codes "server") (string (socket_text server)) it refl none

pub none_in_all : (form : AddressForm) (text : List ℕ) (took : ℕ) (it : LineOutcome) (life : Option ℕ) (server : Option SocketAddr)
    → has_float (with_server server (with_ttl life (line_outcome_data form text took it))) ≡ false
none_in_all form text took it life server =
    let data' = line_outcome_data form text took it in
    none_in_server server (with_ttl life data') (none_in_ttl life data' (none form text took it))
