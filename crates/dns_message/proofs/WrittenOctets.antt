-- The octets of parts as they are written: how many there are.
use Rattle.std.proofs.Common.{◌≡◌, ℕ, ◌+◌, ◌<◌, ◌≤◌, List, [], ◌∷◌, ◌++◌, length, take, get_or, ◌*◌, refl, sym, ap, ◌∙◌, arith, length-append}
use Rattle.std.specs.List.{AllByRecursion, flat_map}
use Rattle.std.proofs.lemmas.Grind.{common_steps, take_at_read}
use Rattle.std.proofs.lemmas.List.{flat_map_more, length-take}
use Rattle.std.proofs.lemmas.List.Folds.{length-flat_map-take}
use Rattle.dns_name.specs.Labels.{wire_of}
use Rattle.dns_message.specs.Fits.{QuestionFits}
use Rattle.dns_message.specs.Written.{two_octets, four_octets, string_octets, srv_octets, naptr_octets, soa_octets, rdata_octets, question_octets, record_octets, header_octets, count_octets, plain}
use Rattle.dns_message.specs.declared.header.Header.{Header}
use Rattle.dns_message.specs.declared.message.Message.{Message}
use Rattle.dns_message.specs.declared.naptr.NaptrRecord.{NaptrRecord}
use Rattle.dns_message.specs.declared.question.Asked.{Asked}
use Rattle.dns_message.specs.declared.resource.Record.{Record}
use Rattle.dns_message.specs.declared.soa.SoaRecord.{SoaRecord}
use Rattle.dns_message.specs.declared.srv.SrvRecord.{SrvRecord}

pub length-two_octets : (n : ℕ) → length (two_octets n) ≡ 2
unfolding two_octets
length-two_octets n = refl

pub length-four_octets : (n : ℕ) → length (four_octets n) ≡ 4
unfolding four_octets
length-four_octets n = refl

pub length-string_octets : (string : List ℕ) → length (string_octets string) ≡ 1 + length string
unfolding string_octets
length-string_octets string = omega arith

pub length-srv_octets : (server : SrvRecord) → length (srv_octets server) ≡ 6 + length (wire_of server.target)
unfolding srv_octets
length-srv_octets server = simp (length-append, length-two_octets) (omega arith)

pub length-naptr_octets : (rule : NaptrRecord)
    → length (naptr_octets rule) ≡ 7 + length rule.flags + length rule.services + length rule.regexp + length (wire_of rule.replacement)
unfolding naptr_octets
length-naptr_octets rule = simp (length-append, length-two_octets, length-string_octets) (omega arith)

pub length-soa_octets : (authority : SoaRecord)
    → length (soa_octets authority) ≡ length (wire_of authority.mname) + length (wire_of authority.rname) + 20
unfolding soa_octets
length-soa_octets authority = simp (length-append, length-four_octets) (omega arith)

pub length-question_octets : (asked : Asked) → length (question_octets asked) ≡ length (wire_of asked.name) + 4
unfolding question_octets
length-question_octets asked = simp (length-append, length-two_octets) (omega arith)

pub length-record_octets : (entry : Record)
    → length (record_octets entry) ≡ length (wire_of entry.owner) + 10 + length (rdata_octets entry.rdata)
unfolding record_octets
length-record_octets entry = simp (length-append, length-two_octets, length-four_octets) (omega arith)

pub length-header_octets : (header : Header) → length (header_octets header) ≡ 4
unfolding header_octets
length-header_octets header = simp (length-append, length-two_octets)

pub length-count_octets : (questions answers authority additional : ℕ) → length (count_octets questions answers authority additional) ≡ 8
unfolding count_octets
length-count_octets questions answers authority additional = simp (length-append, length-two_octets)

-- there are no fewer octets than parts
pub length-flat_map-least : {X : Type 0} (octets_of : X → List ℕ) → ((x : X) → 0 < length (octets_of x)) → (xs : List X)
    → length xs ≤ length (flat_map octets_of xs)
length-flat_map-least octets_of some [] = omega arith
length-flat_map-least octets_of some (x ∷ xs) =
    omega (arith, some x, length-append (octets_of x) (flat_map octets_of xs), length-flat_map-least octets_of some xs)

pub length-plain : (message : Message)
    → length (plain message) ≡ 12 + length (flat_map question_octets message.questions) + length (flat_map record_octets message.answers)
    + length (flat_map record_octets message.authority) + length (flat_map record_octets message.additional)
unfolding plain
length-plain message = simp (length-append, length-header_octets, length-count_octets) (omega arith)

-- ---- one part more

take-next : {X : Type 0} (xs : List X) (i : ℕ) (x : X) → i < length xs → x ≡ get_or xs i x → take (i + 1) xs ≡ take i xs ++ x ∷ []
take-next xs i x lt is = (take_at_read xs i x lt).1 ∙ ap (λ y. take i xs ++ y ∷ []) (sym is)

-- the octets of the parts before the next one, and those of that one behind them
pub octets-next : {X : Type 0} (octets_of : X → List ℕ) (front before after : List ℕ) (xs : List X) (i : ℕ) (x : X) → i < length xs
    → x ≡ get_or xs i x
    → before ≡ front ++ flat_map octets_of (take i xs) → after ≡ before ++ octets_of x
    → after ≡ front ++ flat_map octets_of (take (i + 1) xs)
octets-next octets_of front before after xs i x lt is so_far more =
    more ∙ ap (λ l. l ++ octets_of x) so_far ∙ flat_map_more octets_of front (take i xs) x ∙ ap
    (λ l. front ++ flat_map octets_of l) (sym (take-next xs i x lt is))

all-push : {X : Type 0} (P : X → Type 0) (xs : List X) (x : X) → AllByRecursion P xs → P x → AllByRecursion P (xs ++ x ∷ [])
all-push P [] x all here = (here, tt)
all-push P (y ∷ ys) x all here = (all.0, all-push P ys x all.1 here)

pub all-next : {X : Type 0} (P : X → Type 0) (xs : List X) (i : ℕ) (x : X) → i < length xs → x ≡ get_or xs i x
    → AllByRecursion P (take i xs) → P x → AllByRecursion P (take (i + 1) xs)
all-next P xs i x lt is all here = rw (take-next xs i x lt is) (all-push P (take i xs) x all here)

-- where there is no room for one part behind those before it, there is none for all
pub too_long-item : {X : Type 0} (octets_of : X → List ℕ) (front before : List ℕ) (xs : List X) (i : ℕ) (x : X) → i < length xs
    → x ≡ get_or xs i x → before ≡ front ++ flat_map octets_of (take i xs) → 512 < length before + length (octets_of x)
    → 512 < length front + length (flat_map octets_of xs)
too_long-item octets_of front before xs i x lt is so_far long =
    omega (
      arith,
      length-flat_map-take octets_of xs i x lt,
      ap (λ y. length (octets_of y)) is,
      ap length so_far,
      length-append front (flat_map octets_of (take i xs)),
    )

-- each question has at most 259 octets
pub questions_short : (questions : List Asked) → AllByRecursion QuestionFits questions
    → length (flat_map question_octets questions) ≤ 259 * length questions
questions_short [] each = omega arith
questions_short (asked ∷ others) each =
    omega (
      arith,
      length-append (question_octets asked) (flat_map question_octets others),
      length-question_octets asked,
      each.0.name.short,
      questions_short others each.1,
    )

-- so where there is no room for one of them, there are that many
pub few-item : (front before : List ℕ) (questions : List Asked) (i : ℕ) (asked : Asked) → i < length questions
    → before ≡ front ++ flat_map question_octets (take i questions) → AllByRecursion QuestionFits (take i questions)
    → QuestionFits asked → 512 < length before + length (question_octets asked)
    → 512 < length front + 259 * length questions
few-item front before questions i asked lt so_far fit fits long =
    omega (
      arith,
      questions_short (take i questions) fit,
      length-take i questions,
      ap length so_far,
      length-append front (flat_map question_octets (take i questions)),
      length-question_octets asked,
      fits.name.short,
    )

-- ---- a message has no fewer octets than questions or records

one_or_more-question : (asked : Asked) → 0 < length (question_octets asked)
one_or_more-question asked = omega (arith, length-question_octets asked)

one_or_more-record : (entry : Record) → 0 < length (record_octets entry)
one_or_more-record entry = omega (arith, length-record_octets entry)

pub questions-le : (message : Message) → length message.questions ≤ length (plain message)
questions-le message = omega (arith, length-plain message, length-flat_map-least question_octets one_or_more-question message.questions)

pub answers-le : (message : Message) → length message.answers ≤ length (plain message)
answers-le message = omega (arith, length-plain message, length-flat_map-least record_octets one_or_more-record message.answers)

pub authority-le : (message : Message) → length message.authority ≤ length (plain message)
authority-le message = omega (arith, length-plain message, length-flat_map-least record_octets one_or_more-record message.authority)

pub additional-le : (message : Message) → length message.additional ≤ length (plain message)
additional-le message = omega (arith, length-plain message, length-flat_map-least record_octets one_or_more-record message.additional)

-- what shows that a message has more octets than a count can say
pub ruleset counts = (questions-le, answers-le, authority-le, additional-le)

-- what shows that a part has no room
pub ruleset room = (common_steps, length-two_octets, length-header_octets, length-count_octets, length-plain)
