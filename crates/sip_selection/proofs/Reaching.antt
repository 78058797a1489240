-- Targets that are pushed as far as a loop has come.
use Rattle.std.proofs.Common.{◌≡◌, ℕ, ◌+◌, ◌<◌, false, List, [], ◌∷◌, ◌++◌, length, map, drop, get_or, None, Some, Ok, Err, slice_get, refl, sym, true≢false, ap, subst, ◌∙◌, append_assoc}
use Rattle.std.specs.Bool.{IsTrue}
use Rattle.std.proofs.lemmas.List.{append-nil, drop_more}
use Rattle.dns_answers.specs.Values.{AnswerValue}
use Rattle.dns_message.specs.declared.kind.Kind.{Kind}
use Rattle.dns_message.specs.declared.kind.Kind.TheVariants.{A}
use Rattle.dns_message.specs.declared.question.Question.{Question}
use Rattle.dns_message.specs.declared.srv.SrvRecord.{SrvRecord}
use Rattle.sip_uri.specs.declared.transport.Transport.{Transport}
use Rattle.srv_choice.specs.Outcomes.{is_root}
use Rattle.sip_selection.specs.Callers.{kinds_of}
use Rattle.sip_selection.specs.FixedOrders.{addresses_by}
use Rattle.sip_selection.specs.Known.{Given, Needing, after, made, joined, answer_to}
use Rattle.sip_selection.specs.Services.{index_targets, target_at}
use Rattle.sip_selection.specs.Stages.{Extends, Reaches, kinds_left, server_left, index_left, indexes_left, servers_left}
use Rattle.sip_selection.specs.declared.caps.Caps.{Caps}
use Rattle.sip_selection.specs.declared.target.Target.{Target}
use Rattle.sip_selection.proofs.Needings.{twice-in-front}

pub extends-itself : (given : List Given) → Extends given given
extends-itself given = λ question answer is. is

made-itself : {X : Type 0} (n : Needing X) → n ≡ made (λ x. x) n
made-itself (Ok x) = refl
made-itself (Err question) = refl

module _ {Index : Type 0} (given : List Given) (left : List Given → Index → Needing (List Target)) (from : Index)
    (before : List Target) where
  pub record Came (at : Index) (now : List Target) : Type 0 where
    pub found : List Target
    pub are : now ≡ before ++ found
    pub is : (all : List Given) → Extends given all → left all from ≡ made (λ more. found ++ more) (left all at)

  pub came-first : Came from before
  came-first = record {
    found = [];
    are = sym (append-nil before);
    is = λ all extends. made-itself (left all from);
  }

  pub came-more : (at next : Index) (now then more : List Target) → Came at now → then ≡ now ++ more
      → ((all : List Given) → Extends given all → left all at ≡ made (λ others. more ++ others) (left all next)) → Came next then
  came-more at next now then more came grown onward = record {
    found = came.found ++ more;
    are = grown ∙ ap (λ (l : List Target). l ++ more) came.are ∙ append_assoc before came.found more;
    is = λ all extends. came.is all extends ∙ ap (made (λ others. came.found ++ others)) (onward all extends)
        ∙ twice-in-front came.found more (left all next);
  }

  -- a stop at a question
  pub came-stop : (at : Index) (now : List Target) (question : Question) → Came at now → left given at ≡ Err question
      → (found : List Target) × (now ≡ before ++ found) × Reaches given left from (Some (at, question)) found
  came-stop at now question came stops = (came.found, came.are, (came.is, stops))

-- ---- the kinds of a name

module _ (caps : Caps) (transport : Transport) (port : ℕ) (name : List (List ℕ)) (kinds : List Kind) (at : ℕ) where
  abbrev said : AnswerValue → List Target
  said answer = map (target_at transport port) (addresses_by caps.is_fixed answer.records)

  abbrev asked : Kind
  asked = get_or kinds at A

  module _ (are : kinds ≡ kinds_of caps.families) (within : at < length kinds) where
    kinds-are : drop at (kinds_of caps.families) ≡ asked ∷ drop (at + 1) (kinds_of caps.families)
    kinds-are = subst (λ (k : List Kind). drop at k ≡ asked ∷ drop (at + 1) k) are (drop_more kinds at A within)

    pub kind-more : (given : List Given) (answer : AnswerValue) → answer_to given (record { name = name; kind = asked }) ≡ Ok answer
        → (all : List Given) → Extends given all
        → kinds_left caps all transport port name at
        ≡ made (λ others. said answer ++ others) (kinds_left caps all transport port name (at + 1))
    kind-more given answer known all extends = rw (kinds-are, extends (record { name = name; kind = asked }) answer known) refl

    pub kind-stops : (given : List Given) (question : Question)
        → answer_to given (record { name = name; kind = asked }) ≡ Err question
        → kinds_left caps given transport port name at ≡ Err question
    kind-stops given question unknown = rw (kinds-are, unknown) refl

-- ---- a server

abbrev Left : Type 0
Left = List Given → ℕ → Needing (List Target)

pub named-is : (name : List (List ℕ)) → (name ≡ [] → IsTrue false) → is_root name ≡ false
named-is [] named = absurd (true≢false (sym (named refl)))
named-is (label ∷ labels) named = refl

pub server-kinds : (caps : Caps) (transport : Transport) (server : SrvRecord) → is_root server.target ≡ false
    → ◌≡◌ {A = Left} (λ all. server_left caps all transport server) (λ all. kinds_left caps all transport server.port server.target)
server-kinds caps transport server named = λ j all from. same all from j
  where
    same : (all : List Given) (from : ℕ)
        → server_left caps all transport server from ≡ kinds_left caps all transport server.port server.target from
    same all from = rw named refl

pub index-server : (caps : Caps) (transport : Transport) (servers : List SrvRecord) (index : ℕ) (server : SrvRecord)
    → slice_get servers index ≡ Some server
    → ◌≡◌ {A = Left} (λ all. index_left caps all transport servers index) (λ all. server_left caps all transport server)
index-server caps transport servers index server there = λ j all from. same all from j
  where
    same : (all : List Given) (from : ℕ) → index_left caps all transport servers index from ≡ server_left caps all transport server from
    same all from = rw there refl

-- ---- the servers in an order

module _ (caps : Caps) (transport : Transport) (servers : List SrvRecord) where
  abbrev targets_at : List Given → ℕ → Needing (List Target)
  targets_at all = index_targets all (kinds_of caps.families) caps.is_fixed transport servers

  -- before its first kind, a server is whole
  pub all-left : (all : List Given) (indexes : List ℕ) → indexes_left caps all transport servers indexes 0 ≡ joined (targets_at all) indexes
  all-left all [] = refl
  all-left all (index ∷ indexes) = refl

  module _ (indexes : List ℕ) (at kind index : ℕ) (within : at < length indexes) (is : index ≡ get_or indexes at 0) where
    indexes-are : drop at indexes ≡ index ∷ drop (at + 1) indexes
    indexes-are = drop_more indexes at 0 within ∙ ap (λ (p : ℕ). p ∷ drop (at + 1) indexes) (sym is)

    abbrev rest : List Given → Needing (List Target)
    rest all = joined (targets_at all) (drop (at + 1) indexes)

    in-front : (found : List Target) (others here : Needing (List Target))
        → after (λ more. made (λ others. more ++ others) others) (made (λ more. found ++ more) here)
        ≡ made (λ more. found ++ more) (after (λ more. made (λ others. more ++ others) others) here)
    in-front found (Ok others) (Ok here) = ap Ok (append_assoc found here others)
    in-front found (Err question) (Ok here) = refl
    in-front found others (Err question) = refl

    -- a question stops it
    pub server-part : (given : List Given) (stop : ℕ) (question : Question) (found : List Target)
        → Reaches given (λ all. index_left caps all transport servers index) kind (Some (stop, question)) found
        → (all : List Given) → Extends given all
        → servers_left caps all transport servers indexes (record { server = at; kind = kind })
        ≡ made (λ others. found ++ others) (servers_left caps all transport servers indexes (record { server = at; kind = stop }))
    server-part given stop question found part all extends =
        rw (indexes-are, part.0 all extends) (in-front found (rest all) (index_left caps all transport servers index stop))

    pub server-stops : (given : List Given) (stop : ℕ) (question : Question) (found : List Target)
        → Reaches given (λ all. index_left caps all transport servers index) kind (Some (stop, question)) found
        → servers_left caps given transport servers indexes (record { server = at; kind = stop }) ≡ Err question
    server-stops given stop question found part = rw (indexes-are, part.1) refl

    pub index-stops : (given : List Given) (question : Question) → index_left caps given transport servers index kind ≡ Err question
        → servers_left caps given transport servers indexes (record { server = at; kind = kind }) ≡ Err question
    index-stops given question unknown = rw (indexes-are, unknown) refl

    -- all its addresses are there
    pub server-done : (given : List Given) (found : List Target)
        → Reaches given (λ all. index_left caps all transport servers index) kind None found
        → (all : List Given) → Extends given all
        → servers_left caps all transport servers indexes (record { server = at; kind = kind })
        ≡ made (λ others. found ++ others) (servers_left caps all transport servers indexes (record { server = at + 1; kind = 0 }))
    server-done given found part all extends =
        rw (indexes-are, part all extends, all-left all (drop (at + 1) indexes)) refl
