-- Where pointers lead, past all further pointers (RFC 1035 4.1.4).
use Rattle.std.specs.Prelude.{◌≡◌, ◌≢◌, ℕ, ◌+◌, ◌<◌, ◌≤◌, List, length, get_or}
use Rattle.dns_name.specs.Offsets.{LabelsAt}
use Rattle.dns_name.specs.declared.landing.Landing.{Landing}

-- The labels of the pointer at an offset are those of a run that begins at `there` and ends at
-- `limit` or before.
pub record Lands (message : List ℕ) (offset there limit : ℕ) : Type 0 where
  pub within : limit ≤ offset
  pub before : there < limit
  pub forth : (labels : List (List ℕ)) (end : ℕ) → LabelsAt message there there labels end
      → end ≤ limit
      → LabelsAt message offset offset labels (offset + 2)
  pub back : (labels : List (List ℕ)) (end : ℕ) → LabelsAt message offset offset labels end
      → (end ≡ offset + 2)
      × (last : ℕ) × LabelsAt message there there labels last × (last ≤ limit)

-- where this is known of the pointer at an offset, it is so
abbrev pub IsLanding : List ℕ → ℕ → Landing → Type 0
IsLanding message offset landing = landing.limit ≢ 0
    → Lands message offset landing.offset landing.limit

-- it is so for each of the first offsets
abbrev pub AreLandings : List ℕ → List Landing → Type 0
AreLandings message landings = (offset : ℕ) (other : Landing) → offset < length landings
    → IsLanding message offset (get_or landings offset other)

-- The labels of a run that begins at a target, and ends at `start` or before, are those of a run
-- that begins at `there` and ends at `limit` or before.
pub record LeadsTo (message : List ℕ) (target start there limit : ℕ) : Type 0 where
  pub within : limit ≤ start
  pub before : there < limit
  pub forth : (labels : List (List ℕ)) (end : ℕ) → LabelsAt message there there labels end
      → end ≤ limit
      → (last : ℕ) × LabelsAt message target target labels last × (last ≤ start)
  pub back : (labels : List (List ℕ)) (end : ℕ) → LabelsAt message target target labels end
      → end ≤ start
      → (last : ℕ) × LabelsAt message there there labels last × (last ≤ limit)

-- no run of labels begins at a target and ends at `start` or before
abbrev pub LeadsNowhere : List ℕ → ℕ → ℕ → Type 0
LeadsNowhere message target start = (labels : List (List ℕ)) (end : ℕ)
    → LabelsAt message target target labels end → start < end
