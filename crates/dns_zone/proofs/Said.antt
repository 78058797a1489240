-- What lines say, one after the other.
use Rattle.std.proofs.Common.{◌≡◌, ℕ, suc, ◌<◌, ◌≤◌, ◌+◌, false, List, [], ◌∷◌, ◌++◌, length, min, take, drop, get_or, Option, Some, None, inl, inr, refl, sym, ap, subst, ◌∙◌, append_assoc, arith, true≢false}
use Rattle.std.specs.Prelude.{◌==◌, Contains}
use Rattle.std.proofs.lemmas.List.Elements.{Contains-get_or}
use Rattle.std.specs.List.{enumerate_from}
use Rattle.std.proofs.lemmas.List.FromFn.{get_or-enumerate_from, length-enumerate_from}
use Rattle.std.proofs.lemmas.List.{append-nil, drop_all, drop_more, length_push, length-take-le, take-append-drop, take_all, take_more}
use Rattle.dns_message.specs.declared.resource.Record.{Record}
use Rattle.dns_zone.specs.Lines.{Holds, IsEntryLine, IsFirstBad, LineSays, LinesSay, RecordFields, fields_of, is_comment}
use Rattle.dns_zone.specs.Zones.{Owned}

-- a line that is not empty has octets
pub some_octets : (line : List ℕ) → false ≡ (length line == 0) → line ≡ [] → ⊥
some_octets line some none = true≢false (sym (some ∙ ap (λ (octets : List ℕ). length octets == 0) none))

-- a line with octets that is no comment says a record
pub line_said : (line : List ℕ) (fields : List (List ℕ)) → is_comment line ≡ false → (line ≡ [] → ⊥) → fields_of line ≡ fields
    → (said : Option Record) → LineSays line said → (entry : Record) × (said ≡ Some entry) × RecordFields fields entry
line_said line fields plain some are None (inl comment) = absurd (true≢false (sym comment ∙ plain))
line_said line fields plain some are None (inr empty) = absurd (some empty)
line_said line fields plain some are (Some entry) is = (entry, refl, subst (λ (f : List (List ℕ)). RecordFields f entry) are is.1)

-- a line that says a record is to say one
pub says_entry : (line : List ℕ) (entry : Record) → LineSays line (Some entry) → IsEntryLine line
says_entry line entry says = record { plain = says.0; some = λ none. let no = sym says.1.are ∙ none in absurd cc }

-- such a line among others
pub among : (all : List (List ℕ)) (count : ℕ) (line : List ℕ) → count < length all → line ≡ get_or all count line → IsEntryLine line
    → (line' : List ℕ) × Contains all line' × IsEntryLine line'
among all count line within is entry = (line, subst (Contains all) (sym is) (Contains-get_or all count line within), entry)

-- ---- lines that were read up to a place

-- one line more, which says no record
says_none : (front : List (List ℕ)) (line : List ℕ) (records : List Record) → LinesSay front records → LineSays line None
    → LinesSay (front ++ line ∷ []) records
says_none [] line records says none = inl (none, says)
says_none (first ∷ front) line records (inl says) none = inl (says.0, says_none front line records says.1 none)
says_none (first ∷ front) line records (inr says) none = inr (says.0, says.1, says.2, says.3, says_none front line says.1 says.4 none)

-- or one
says_some : (front : List (List ℕ)) (line : List ℕ) (records : List Record) (entry : Record) → LinesSay front records
    → LineSays line (Some entry) → LinesSay (front ++ line ∷ []) (records ++ entry ∷ [])
says_some [] line records entry says some = inr (entry, [], ap (λ (l : List Record). l ++ entry ∷ []) says, some, refl)
says_some (first ∷ front) line records entry (inl says) some = inl (says.0, says_some front line records entry says.1 some)
says_some (first ∷ front) line records entry (inr says) some =
    inr (
      says.0,
      says.1 ++ entry ∷ [],
      ap (λ (l : List Record). l ++ entry ∷ []) says.2,
      says.3,
      says_some front line says.1 entry says.4 some,
    )

module _ (all : List (List ℕ)) where
  -- So many lines were read. All that the lines together may say begins with what these say. Up to the limit the zone has it.
  pub record Building (count kept : ℕ) (zone : List Owned) : Type 0 where
    pub records : List Record
    pub says : LinesSay (take count all) records
    pub back : (others : List Record) → LinesSay all others
        → (rest : List Record) × (others ≡ records ++ rest) × LinesSay (drop count all) rest
    pub counted : kept ≡ min (length records) 4097
    pub holds : kept ≤ 4096 → Holds zone records

  pub begun : (zone : List Owned) → zone ≡ [] → Building 0 0 zone
  begun zone none =
      record { records = []; says = refl; back = λ others is. (others, refl, is); counted = refl; holds = λ few name. rw none refl }

  module _ (count : ℕ) (line : List ℕ) (within : count < length all) (is : line ≡ get_or all count line) where
    ahead : drop count all ≡ line ∷ drop (count + 1) all
    ahead = drop_more all count line within ∙ ap (λ (l : List ℕ). l ∷ drop (count + 1) all) (sym is)

    behind : take (count + 1) all ≡ take count all ++ line ∷ []
    behind = take_more all count line within ∙ ap (λ (l : List ℕ). take count all ++ l ∷ []) (sym is)

    module _ (kept : ℕ) (zone : List Owned) (so_far : Building count kept zone) where
      back_none : ((said : Option Record) → LineSays line said → None ≡ said) → (others rest : List Record)
          → others ≡ so_far.records ++ rest
          → LinesSay (line ∷ drop (count + 1) all) rest → (rest' : List Record) × (others ≡ so_far.records ++ rest')
          × LinesSay (drop (count + 1) all) rest'
      back_none only others rest e (inl says) = (rest, e, says.1)
      back_none only others rest e (inr says) = let no = only (Some says.0) says.3 in absurd cc

      pub passes : LineSays line None → ((said : Option Record) → LineSays line said → None ≡ said) → Building (count + 1) kept zone
      passes none only = record {
        records = so_far.records;
        says = rw behind (says_none (take count all) line so_far.records so_far.says none);
        back = λ others says.
            let k = so_far.back others says in
            back_none only others k.0 k.1 (rw ahead at k.2);
        counted = so_far.counted;
        holds = so_far.holds;
      }

      back_some : (entry : Record) → ((said : Option Record) → LineSays line said → Some entry ≡ said) → (others rest : List Record)
          → others ≡ so_far.records ++ rest
          → LinesSay (line ∷ drop (count + 1) all) rest → (rest' : List Record) × (others ≡ (so_far.records ++ entry ∷ []) ++ rest')
          × LinesSay (drop (count + 1) all) rest'
      back_some entry only others rest e (inl says) = let no = only None says.0 in absurd cc
      back_some entry only others rest e (inr says) =
          let same : Some entry ≡ Some says.0 = only (Some says.0) says.3 in
          let this : entry ≡ says.0 = cc in
          let whole : others ≡ so_far.records ++ entry ∷ says.1 =
          e ∙ ap (λ (l : List Record). so_far.records ++ l) (says.2 ∙ ap (λ (r : Record). r ∷ says.1) (sym this)) in
          (says.1, whole ∙ sym (append_assoc so_far.records (entry ∷ []) says.1), says.4)

      pub takes : (entry : Record) (kept' : ℕ) (zone' : List Owned) → LineSays line (Some entry)
          → ((said : Option Record) → LineSays line said → Some entry ≡ said)
          → kept' ≡ min (kept + 1) 4097 → (kept < 4096 → (records : List Record) → Holds zone records → Holds zone' (records ++ entry ∷ []))
          → Building (count + 1) kept' zone'
      takes entry kept' zone' some only counts held = record {
        records = so_far.records ++ entry ∷ [];
        says = rw behind (says_some (take count all) line so_far.records entry so_far.says some);
        back = λ others says.
            let k = so_far.back others says in
            back_some entry only others k.0 k.1 (rw ahead at k.2);
        counted = omega (arith, counts, so_far.counted, length_push so_far.records entry);
        holds = λ few. held (omega (arith, few, counts)) so_far.records (so_far.holds (omega (arith, few, counts)));
      }

      pub stops : ((said : Option Record) → LineSays line said → ⊥) → IsFirstBad all (count + 1)
      stops never = record {
        front = take count all;
        line = line;
        back = drop (count + 1) all;
        stands = sym (take-append-drop count all) ∙ ap (λ (l : List (List ℕ)). take count all ++ l) ahead;
        number_is = omega (arith, length-take-le count all (omega (arith, within)));
        records = so_far.records;
        good = so_far.says;
        bad = never;
      }

      never_by : ((said : Option Record) → LineSays line said → ⊥) → (rest : List Record) → LinesSay (line ∷ drop (count + 1) all) rest → ⊥
      never_by never rest (inl says) = never None says.0
      never_by never rest (inr says) = never (Some says.0) says.3

      pub says_nothing : ((said : Option Record) → LineSays line said → ⊥) → (others : List Record) → LinesSay all others → ⊥
      says_nothing never others says =
          let k = so_far.back others says in
          never_by never k.0 (rw ahead at k.2)

  module _ (count kept : ℕ) (zone : List Owned) (so_far : Building count kept zone) (whole : count ≡ length all) where
    pub all_said : LinesSay all so_far.records
    all_said = rw (take_all count all (omega (arith, whole))) at so_far.says

    nothing_left : (rest : List Record) → LinesSay (drop count all) rest → rest ≡ []
    nothing_left rest says = rw (drop_all count all (omega (arith, whole))) at says

    pub are_all : (others : List Record) → LinesSay all others → others ≡ so_far.records
    are_all others says =
        let k = so_far.back others says in
        k.1 ∙ ap (λ (l : List Record). so_far.records ++ l) (nothing_left k.0 k.2) ∙ append-nil so_far.records

-- the line with its number
pub numbered : (all : List (List ℕ)) (count at : ℕ) (line : List ℕ) → count < length (enumerate_from 0 all)
    → ◌≡◌ {A = ℕ × List ℕ} (at, line) (get_or (enumerate_from 0 all) count (at, line))
    → (at ≡ count) × (count < length all) × (line ≡ get_or all count line)
numbered all count at line within is =
    let within' : count < length all = omega (arith, within, length-enumerate_from 0 all) in
    let there : ◌≡◌ {A = ℕ × List ℕ} (at, line) (0 + count, get_or all count line) =
    is ∙ get_or-enumerate_from 0 all count (at, line) within' in
    (omega (arith, ap (λ (p : ℕ × List ℕ). p.0) there), within', ap (λ (p : ℕ × List ℕ). p.1) there)

-- ---- the first bad line

-- the first line says something, and so do the others
parts_say : (line : List ℕ) (others : List (List ℕ)) (records : List Record) → LinesSay (line ∷ others) records
    → ((said : Option Record) × LineSays line said) × ((rest : List Record) × LinesSay others rest)
parts_say line others records (inl says) = ((None, says.0), (records, says.1))
parts_say line others records (inr says) = ((Some says.0, says.3), (says.1, says.4))

-- and so does a line behind others
line_says : (front back : List (List ℕ)) (line : List ℕ) (records : List Record) → LinesSay (front ++ line ∷ back) records
    → (said : Option Record) × LineSays line said
line_says [] back line records says = (parts_say line back records says).0
line_says (first ∷ front) back line records says =
    let rest = (parts_say first (front ++ line ∷ back) records says).1 in
    line_says front back line rest.0 rest.1

-- where lines say records, none is bad
pub none_bad : (all : List (List ℕ)) (records : List Record) (number : ℕ) → LinesSay all records → IsFirstBad all number → ⊥
none_bad all records number says is =
    let said = line_says is.front is.back is.line records (rw is.stands at says) in
    is.bad said.0 said.1

same_place : (front other : List (List ℕ)) (line line' : List ℕ) (back back' : List (List ℕ)) (records records' : List Record)
    → front ++ line ∷ back ≡ other ++ line' ∷ back' → LinesSay front records → LinesSay other records'
    → ((said : Option Record) → LineSays line said → ⊥) → ((said : Option Record) → LineSays line' said → ⊥) → length front ≡ length other
same_place [] [] line line' back back' records records' e says says' bad bad' = refl
same_place [] (first ∷ other) line line' back back' records records' e says says' bad bad' =
    let said = (parts_say first other records' says').0 in
    let same : line ≡ first = cc in
    absurd (bad said.0 (subst (λ (l : List ℕ). LineSays l said.0) (sym same) said.1))
same_place (first ∷ front) [] line line' back back' records records' e says says' bad bad' =
    let said = (parts_say first front records says).0 in
    let same : first ≡ line' = cc in
    absurd (bad' said.0 (subst (λ (l : List ℕ). LineSays l said.0) same said.1))
same_place (first ∷ front) (first' ∷ other) line line' back back' records records' e says says' bad bad' =
    let rest = (parts_say first front records says).1 in
    let rest' = (parts_say first' other records' says').1 in
    let tails : front ++ line ∷ back ≡ other ++ line' ∷ back' = cc in
    ap suc (same_place front other line line' back back' rest.0 rest'.0 tails rest.1 rest'.1 bad bad')

-- there is one first bad line
pub one_first_bad : (all : List (List ℕ)) (number number' : ℕ) → IsFirstBad all number → IsFirstBad all number' → number ≡ number'
one_first_bad all number number' is is' =
    let same = same_place is.front is'.front is.line is'.line is.back is'.back is.records is'.records
    (sym is.stands ∙ is'.stands) is.good is'.good is.bad is'.bad in
    omega (arith, same, is.number_is, is'.number_is)
