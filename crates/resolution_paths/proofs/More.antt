-- Lists that gain more, one step after the other.
use Rattle.std.proofs.Common.{◌≡◌, ℕ, ◌+◌, ◌<◌, Bool, true, false, List, [], ◌∷◌, ◌++◌, length, get_or, take, Option, Some, None, refl, sym, subst, ◌∙◌, ap, append_assoc}
use Rattle.std.proofs.lemmas.List.{append-nil, take_more}
use Rattle.std.specs.Prelude.{is_none, is_some, not}
use Rattle.dns_answers.specs.Values.{AnswerValue}
use Rattle.dns_message.specs.declared.naptr.NaptrRecord.{NaptrRecord}
use Rattle.dns_message.specs.declared.question.Question.{Question}
use Rattle.dns_message.specs.declared.srv.SrvRecord.{SrvRecord}
use Rattle.sip_selection.specs.Requests.{port_of, spoken_of, target_of}
use Rattle.sip_selection.specs.declared.request.Request.{Request}
use Rattle.sip_uri.specs.declared.host.Host.{Host}
use Rattle.sip_uri.specs.declared.host.Host.TheVariants as host
use Rattle.sip_uri.specs.declared.transport.Transport.{Transport}
use Rattle.resolution_paths.specs.Paths.{Adds, ArePaths, ArePathsAt, ArePathsOf, ByServer, IsOne, Joined, none, more}
use Rattle.resolution_paths.specs.declared.path.ResolutionPath.{ResolutionPath}

-- one list behind the others
pub Joined-push : {X Y : Type 0} (gives : X → List Y → Type 0) (xs : List X) (ys : List Y) (x : X) (last : List Y)
    → Joined gives xs ys → gives x last → Joined gives (xs ++ x ∷ []) (ys ++ last)
Joined-push gives _ _ x last none is = subst (Joined gives (x ∷ [])) (append-nil last) (more is none)
Joined-push gives _ _ x last (more {first = first} {others = others} one all) is =
    subst (Joined gives _) (sym (append_assoc first others last)) (more one (Joined-push gives _ others x last all is))

-- the lists of two
pub Joined-pair : {X Y : Type 0} (gives : X → List Y → Type 0) (x y : X) (first second : List Y) → gives x first → gives y second
    → Joined gives (x ∷ y ∷ []) (first ++ second)
Joined-pair gives x y first second one other =
    more one (subst (Joined gives (y ∷ [])) (append-nil second) (more other none))

-- what is added to nothing is the whole
pub adds-whole : {X : Type 0} (Are : List X → Type 0) (old new : List X) → old ≡ [] → Adds Are old new → Are new
adds-whole Are old new empty adds = subst Are (sym (adds.behind ∙ ap (λ it. it ++ adds.added) empty)) adds.are

-- an item is added
pub adds-one : {X : Type 0} (Is : X → Type 0) (old new : List X) (item : X) → new ≡ old ++ item ∷ [] → Is item
    → Adds (IsOne Is) old new
adds-one Is old new item behind is = record {
  added = item ∷ [];
  behind = behind;
  are = record { item = item; only = refl; is = is };
}

-- nothing is added
pub adds-none : {X : Type 0} (Are : List X → Type 0) (old : List X) → Are [] → Adds Are old old
adds-none Are old are = record { added = []; behind = sym (append-nil old); are = are }

-- one list is added behind another
pub adds-both : {X : Type 0} (Are Were Both : List X → Type 0) (old middle new : List X)
    → ((first second : List X) → Were first → Are second → Both (first ++ second))
    → Adds Were old middle → Adds Are middle new → Adds Both old new
adds-both Are Were Both old middle new both first second = record {
  added = first.added ++ second.added;
  behind = second.behind ∙ ap (λ it. it ++ second.added) first.behind ∙ append_assoc old first.added second.added;
  are = both first.added second.added first.are second.are;
}

-- what a further one gives is added behind what the others gave
pub adds-further : {X Y : Type 0} (gives : X → List Y → Type 0) (xs : List X) (index : ℕ) (x : X) (old middle new : List Y)
    → index < length xs
    → Adds (Joined gives (take index xs)) old middle → Adds (gives (get_or xs index x)) middle new
    → Adds (Joined gives (take (index + 1) xs)) old new
adds-further gives xs index x old middle new inside first second =
    subst (λ it. Adds (Joined gives it) old new) (sym (take_more xs index x inside))
    (adds-both (gives (get_or xs index x)) (Joined gives (take index xs)) (Joined gives (take index xs ++ get_or xs index x ∷ []))
    old middle new
    (λ ys last all is. Joined-push gives (take index xs) ys (get_or xs index x) last all is) first second)

module _ (said : Question → Option AnswerValue → Type 0) where
  -- a path by an SRV record, by what the record was made of
  pub adds-server : (transport : Transport) (service made : List (List ℕ)) (rule by : Option NaptrRecord) (life : ℕ)
      (server copy : SrvRecord) (old new : List ResolutionPath)
      → made ≡ service → by ≡ rule → copy ≡ server
      → Adds (ByServer said transport made by life copy) old new
      → Adds (ByServer said transport service rule life server) old new
  adds-server transport service made rule by life server copy old new same_service same_rule same_server adds =
      rw (← same_service, ← same_rule, ← same_server) adds

  -- the paths of a domain are those of a request that asks for it
  pub of-request : (request : Request) (domain : List (List ℕ)) (services rules : Bool) (paths : List ResolutionPath)
      → target_of request ≡ host.Domain domain
      → services ≡ is_none (port_of request) → rules ≡ is_none (spoken_of request)
      → ArePaths said domain services rules paths → ArePathsOf said request paths
  of-request request domain services rules paths named portless unspoken are =
      subst (λ it. ArePathsAt said it (is_none (port_of request)) (is_none (spoken_of request)) paths) (sym named)
      (rw (← portless, ← unspoken) are)

  -- a request for an address has no path
  pub no-paths : (request : Request) (it : Host) (paths : List ResolutionPath) → target_of request ≡ it
      → ((domain : List (List ℕ)) → it ≡ host.Domain domain → ⊥) → paths ≡ [] → ArePathsOf said request paths
  no-paths request (host.Domain domain) paths named other are = absurd (other domain refl)
  no-paths request (host.V4 octets) paths named other are =
      subst (λ it. ArePathsAt said it (is_none (port_of request)) (is_none (spoken_of request)) paths) (sym named) are
  no-paths request (host.V6 octets) paths named other are =
      subst (λ it. ArePathsAt said it (is_none (port_of request)) (is_none (spoken_of request)) paths) (sym named) are

-- the test whether nothing is there, by what it is that is there
pub none-of : {X : Type 0} (it same : Option X) (test : Bool) → is_some it ≡ not test → it ≡ same → test ≡ is_none same
none-of None same true is eq = rw (← eq) refl
none-of None same false is eq = absurd (cc (is))
none-of (Some x) same true is eq = absurd (cc (is))
none-of (Some x) same false is eq = rw (← eq) refl
