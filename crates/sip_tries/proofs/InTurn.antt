-- Targets that are tried in turn, by what each try tells.
use Rattle.std.proofs.Common.{◌≡◌, ◌≢◌, ℕ, ◌+◌, ◌<◌, ◌≤◌, true, false, List, [], ◌∷◌, ◌++◌, length, take, get_or, map, refl, sym, ap, subst, ◌∙◌, append-nil, arith}
use Rattle.std.specs.Prelude.{nat_lt, Option, Some, None, ⊤}
use Rattle.std.specs.Option.{option_or}
use Rattle.std.proofs.lemmas.Bool.Decides.{nat_tests}
use Rattle.std.proofs.lemmas.List.{length-map, map-append, take_all, take_more, length-take}
use Rattle.sip_options.specs.declared.transport.Transport.{Transport as Over}
use Rattle.sip_ping.specs.declared.answer.Answer.{Answer}
use Rattle.sip_selection.specs.Trials.{failures_in, is_answered, progress_by, tried_by}
use Rattle.sip_selection.specs.declared.failover.Event.{Event}
use Rattle.sip_selection.specs.declared.failover.Event.TheVariants.{Failed, Responded}
use Rattle.sip_selection.specs.declared.failover.Progress.TheVariants.{Trying, Answered, Exhausted}
use Rattle.sip_selection.specs.declared.target.Target.{Target}
use Rattle.sip_tries.specs.Turns.{AreAsked, AreTriedUntilThere, IsAsked, event_of, events_of, first_time, is_response, is_there, targets_of, time_of}
use Rattle.sip_tries.specs.declared.found.TargetTry.{TargetTry}

-- no server is there
abbrev pub NoneThere : List TargetTry → Type 0
NoneThere [] = ⊤
NoneThere (it ∷ tries) = (is_there it.found ≡ false) × NoneThere tries

yes_lt : (a b : ℕ) → a < b → nat_lt a b ≡ true
yes_lt a b lt = grind (arith, nat_tests)

no_lt : (a b : ℕ) → b ≤ a → nat_lt a b ≡ false
no_lt a b le = grind (arith, nat_tests)

-- ---- events of which none is a response, and then others

failed-first : (event : Event) (events : List Event) → is_response event ≡ false
    → (failures_in (event ∷ events) ≡ failures_in events + 1) × (is_answered (event ∷ events) ≡ is_answered events)
failed-first (Failed failure) events is = (refl, refl)
failed-first Responded events is = absurd (cc (is))

responded-first : (event : Event) (events : List Event) → is_response event ≡ true
    → (failures_in (event ∷ events) ≡ 0) × (is_answered (event ∷ events) ≡ true)
responded-first (Failed failure) events is = absurd (cc (is))
responded-first Responded events is = (refl, refl)

failed-before : (tries : List TargetTry) (events : List Event) → NoneThere tries
    → (failures_in (events_of tries ++ events) ≡ length tries + failures_in events)
    × (is_answered (events_of tries ++ events) ≡ is_answered events)
failed-before [] events none =
    let count : failures_in events ≡ length {A = TargetTry} [] + failures_in events = grind arith in
    (count, refl)
failed-before (it ∷ tries) events none =
    let first = failed-first (event_of it.found) (events_of tries ++ events) none.0 in
    let rest = failed-before tries events none.1 in
    let count : failures_in (events_of (it ∷ tries) ++ events) ≡ length (it ∷ tries) + failures_in events =
    omega (arith, first.0, rest.0) in
    (count, first.1 ∙ rest.1)

-- ---- one try more

pub turn-more : (targets : List Target) (tries : List TargetTry) (one : TargetTry) (index : ℕ) (d : Target) → index < length targets
    → targets_of tries ≡ take index targets → one.target ≡ get_or targets index d
    → targets_of (tries ++ one ∷ []) ≡ take (index + 1) targets
turn-more targets tries one index d inside turn at =
    map-append (λ (it : TargetTry). it.target) tries (one ∷ [])
    ∙ ap (λ l. l ++ one.target ∷ []) turn
    ∙ ap (λ x. take index targets ++ x ∷ []) at
    ∙ sym (take_more targets index d inside)

-- ---- where the tries end

not_trying : (targets : List Target) (events : List Event) → is_answered events ≡ true → failures_in events < length targets
    → progress_by targets events ≢ Trying
not_trying targets events is lt = rw (yes_lt (failures_in events) (length targets) lt, is) (λ same. absurd (cc (same)))

exhausted : (targets : List Target) (events : List Event) → length targets ≤ failures_in events → progress_by targets events ≢ Trying
exhausted targets events le = rw (no_lt (failures_in events) (length targets) le) (λ same. absurd (cc (same)))

-- none was there, and no target is left
pub in-turn-all : (targets : List Target) (tries : List TargetTry) → targets_of tries ≡ targets → NoneThere tries
    → AreTriedUntilThere targets tries
in-turn-all targets tries turn none =
    let events : List Event = events_of tries in
    let same : events ++ [] ≡ events = append-nil events in
    let all = failed-before tries [] none in
    let count : failures_in events ≡ length tries = subst (λ l. failures_in l ≡ length tries + 0) same all.0 ∙ omega arith in
    let sizes : length tries ≡ length targets = sym (length-map tries (λ (it : TargetTry). it.target)) ∙ ap length turn in
    record {
      in_turn = turn ∙ sym (take_all (failures_in events + 1) targets (omega (arith, count, sizes)));
      ended = exhausted targets events (omega (arith, count, sizes));
    }

-- the one that was tried last was there
pub in-turn-there : (targets : List Target) (tries : List TargetTry) (one : TargetTry) (index : ℕ) (d : Target)
    → index < length targets → targets_of tries ≡ take index targets → NoneThere tries
    → one.target ≡ get_or targets index d → is_there one.found ≡ true
    → AreTriedUntilThere targets (tries ++ one ∷ [])
in-turn-there targets tries one index d inside turn none at there =
    let last : List Event = event_of one.found ∷ [] in
    let events : events_of (tries ++ one ∷ []) ≡ events_of tries ++ last =
    map-append (λ (it : TargetTry). event_of it.found) tries (one ∷ []) in
    let all = failed-before tries last none in
    let one_there = responded-first (event_of one.found) [] there in
    let sizes : length tries ≡ index =
    sym (length-map tries (λ (it : TargetTry). it.target)) ∙ ap length turn ∙ grind (arith, length-take, inside) in
    let count : failures_in (events_of tries ++ last) ≡ index = omega (arith, all.0, one_there.0, sizes) in
    let answered : is_answered (events_of tries ++ last) ≡ true = all.1 ∙ one_there.1 in
    let here : targets_of (tries ++ one ∷ []) ≡ take (index + 1) targets = turn-more targets tries one index d inside turn at in
    record {
      in_turn = rw (events, count) here;
      ended = rw events (not_trying targets (events_of tries ++ last) answered (rw count inside));
    }

pub none-more : (tries : List TargetTry) (one : TargetTry) → NoneThere tries → is_there one.found ≡ false
    → NoneThere (tries ++ one ∷ [])
none-more [] one none not_there = (not_there, tt)
none-more (it ∷ tries) one none not_there = (none.0, none-more tries one none.1 not_there)

pub asked-more : {P : Type 0} (asks : P → Over → Target → Answer → P → Type 0) (first : P) (tries : List TargetTry) (between : P)
    (one : TargetTry) (last : P) → AreAsked asks first tries between → IsAsked asks between one last
    → AreAsked asks first (tries ++ one ∷ []) last
asked-more asks first [] between one last same asked = (last, subst (λ p. IsAsked asks p one last) same asked, refl)
asked-more asks first (it ∷ tries) between one last before asked =
    (before.0, before.1, asked-more asks before.0 tries between one last before.2 asked)

-- ---- the first server that is there

or-assoc : (a b c : Option ℕ) → option_or (option_or a b) c ≡ option_or a (option_or b c)
or-assoc None b c = refl
or-assoc (Some time) b c = refl

first-more : (tries : List TargetTry) (one : TargetTry)
    → first_time (tries ++ one ∷ []) ≡ option_or (first_time tries) (time_of one.found)
first-more [] one = or-none (time_of one.found) where
  or-none : (a : Option ℕ) → option_or a None ≡ a
  or-none None = refl
  or-none (Some time) = refl
first-more (it ∷ tries) one =
    ap (option_or (time_of it.found)) (first-more tries one) ∙ sym (or-assoc (time_of it.found) (first_time tries) (time_of one.found))

pub first-at : (tries : List TargetTry) (i : ℕ) (d : TargetTry) → i < length tries
    → first_time (take (i + 1) tries) ≡ option_or (first_time (take i tries)) (time_of (get_or tries i d).found)
first-at tries i d inside = ap first_time (take_more tries i d inside) ∙ first-more (take i tries) (get_or tries i d)
