-- What moves over a stream, call by call.
use Rattle.std.proofs.Common.{◌≡◌, ℕ, zero, suc, List, [], ◌∷◌, ◌++◌, ◌+◌, Option, Some, None, refl, sym, ap, ◌∙◌, arith, rules, take, drop}
use Rattle.std.specs.Io.KnownBytes.{Appends, Consumes, Keeps}
use Rattle.std.proofs.lemmas.List.{append-nil, append_assoc, take-append-drop}
use Rattle.std.proofs.Math.Seq.{drop-nil}
use Rattle.dns_transport.specs.Frames.{Reads, Writes}

-- ---- nothing moves

keeps_itself : (known : Option (List ℕ)) → Keeps known known
keeps_itself None = tt
keeps_itself (Some xs) = refl

appends_nothing : (old new : Option (List ℕ)) → Keeps old new → Appends old new []
appends_nothing None new keeps = tt
appends_nothing (Some xs) None keeps = absurd keeps
appends_nothing (Some xs) (Some ys) keeps = keeps ∙ sym (append-nil xs)

pub writes_nothing : (old new : Option (List ℕ)) (left : List ℕ) → Keeps old new → Writes old new left left
writes_nothing old new left keeps = record { octets = []; appends = appends_nothing old new keeps; left = refl }

pub writes_same : (known : Option (List ℕ)) (left : List ℕ) → Writes known known left left
writes_same known left = writes_nothing known known left (keeps_itself known)

consumes_nothing : (old new : Option (List ℕ)) → Keeps old new → Consumes old new []
consumes_nothing None new keeps = tt
consumes_nothing (Some xs) None keeps = absurd keeps
consumes_nothing (Some xs) (Some ys) keeps = sym keeps

pub reads_nothing : (old new : Option (List ℕ)) (untaken : List ℕ) → Keeps old new → Reads old new untaken untaken
reads_nothing old new untaken keeps = record {
  octets = [];
  consumes = consumes_nothing old new keeps;
  behind = sym (append-nil untaken);
}

pub reads_same : (known : Option (List ℕ)) (untaken : List ℕ) → Reads known known untaken untaken
reads_same known untaken = reads_nothing known known untaken (keeps_itself known)

-- ---- one call after another

appends_then : (one other last : Option (List ℕ)) (first second : List ℕ) → Appends one other first
    → Appends other last second → Appends one last (first ++ second)
appends_then None other last first second a b = tt
appends_then (Some xs) None last first second a b = absurd a
appends_then (Some xs) (Some ys) None first second a b = absurd b
appends_then (Some xs) (Some ys) (Some zs) first second a b =
    b ∙ ap (λ it. it ++ second) a ∙ append_assoc xs first second

pub writes_then : (one other last : Option (List ℕ)) (before between after : List ℕ) → Writes one other before between
    → Writes other last between after → Writes one last before after
writes_then one other last before between after a b = record {
  octets = a.octets ++ b.octets;
  appends = appends_then one other last a.octets b.octets a.appends b.appends;
  left = a.left ∙ ap (λ it. a.octets ++ it) b.left ∙ sym (append_assoc a.octets b.octets after);
}

consumes_then : (one other last : Option (List ℕ)) (first second : List ℕ) → Consumes one other first
    → Consumes other last second → Consumes one last (first ++ second)
consumes_then None other last first second a b = tt
consumes_then (Some xs) None last first second a b = absurd a
consumes_then (Some xs) (Some ys) None first second a b = absurd b
consumes_then (Some xs) (Some ys) (Some zs) first second a b =
    a ∙ ap (λ it. first ++ it) b ∙ sym (append_assoc first second zs)

pub reads_then : (one other last : Option (List ℕ)) (before between after : List ℕ) → Reads one other before between
    → Reads other last between after → Reads one last before after
reads_then one other last before between after a b = record {
  octets = a.octets ++ b.octets;
  consumes = consumes_then one other last a.octets b.octets a.consumes b.consumes;
  behind = b.behind ∙ ap (λ it. it ++ b.octets) a.behind ∙ append_assoc before a.octets b.octets;
}

-- ---- a part of what is to be written goes

drop_more : (sent count : ℕ) (octets : List ℕ) → drop count (drop sent octets) ≡ drop (sent + count) octets
drop_more zero count octets = let same : count ≡ zero + count = omega arith in ap (λ it. drop it octets) same
drop_more (suc sent) count [] = drop-nil count ∙ sym (drop-nil (suc sent + count))
drop_more (suc sent) count (x ∷ octets) =
    let same : suc (sent + count) ≡ suc sent + count = omega arith in
    drop_more sent count octets ∙ ap (λ it. drop it (x ∷ octets)) same

pub writes_part : (old new : Option (List ℕ)) (left : List ℕ) (sent count : ℕ) (octets : List ℕ)
    → drop sent octets ≡ left → Appends old new (take count left) → Writes old new left (drop (sent + count) octets)
writes_part old new left sent count octets is appends = record {
  octets = take count left;
  appends = appends;
  left = sym (take-append-drop count left)
      ∙ ap (λ it. take count left ++ it) (ap (λ it. drop count it) (sym is) ∙ drop_more sent count octets);
}
