-- How many events of each seat a log has, and who holds these counts.
use Rattle.std.specs.Prelude.{◌≡◌, ℕ, zero, suc, ◌<◌, ◌==◌, Bool, true, false, List, [], ◌∷◌}
use Rattle.std.specs.Prelude.{length}
use base.Fml.{Fml, ftrue, fsep}
use base.Share.{quarter}
use Rattle.logbook.specs.Pages.{Cell, cell}
use Rattle.logbook.specs.Kept.{fact, part, roster, pens_own}
use Rattle.std.specs.Prelude.{slice_set}
use Rattle.answer_log.specs.declared.event.Event.{Event}
use Rattle.answer_log.specs.declared.event.Event.TheVariants.{Asks, Named, Opened, Placed}
use Rattle.answer_log.specs.declared.event.Counted.{Counted}
use Rattle.answer_log.specs.Logs.{seat_of}

-- a number, or one more where the condition holds
abbrev pub plus_if : Bool → ℕ → ℕ
plus_if true n = suc n
plus_if false n = n

-- how many events of a seat a log has
abbrev pub count : ℕ → List Event → ℕ
count s [] = 0
count s (e ∷ log) = plus_if ((seat_of e) == s) (count s log)

-- The counts of n seats from k on, each in the form of a cell
abbrev pub counts_from : ℕ → ℕ → List Event → List Cell
counts_from k zero log = []
counts_from k (suc n) log = (count k log, true) ∷ counts_from (suc k) n log

-- how many events of each of 64 seats a log has, each in the form of a cell
abbrev pub counts : List Event → List Cell
counts log = counts_from 0 64 log

-- the first of these names, which is that of the counts
abbrev pub first_name : List ℕ → ℕ
first_name [] = 0
first_name (n ∷ ns) = n

abbrev pub first_seat : List Event → ℕ
first_seat [] = 0
first_seat (e ∷ es) = seat_of e

abbrev pub number_in : Event → ℕ
number_in (Opened seats groups) = 0
number_in (Asks s n) = n
number_in (Named n x l) = 0
number_in (Placed n x l) = 0

abbrev pub first_count : List Event → ℕ
first_count [] = 0
first_count (e ∷ es) = number_in e

abbrev pub holding : ℕ → ℕ → List Event
holding s n = Asks s n ∷ []

-- A seat holds a quarter of its count, the rule three quarters of each
abbrev pub tally_owns : Bool → ℕ → ℕ → ℕ → Fml
tally_owns true δ s n = part δ s quarter n
tally_owns false δ s n = ftrue

-- a quarter of each of the counts of n seats from s on, which are all 0: what is held for seats
-- until it is dealt out
abbrev pub tallies_own : ℕ → ℕ → ℕ → Fml
tallies_own δ s n = pens_own δ s n

-- what the rule holds of the counts: three quarters of each
abbrev pub keeps_counts : List ℕ → List Event → Fml
keeps_counts names log = roster (first_name names) 0 (counts log)

abbrev pub gains_count : List ℕ → List Event → Counted → Fml
gains_count names about r =
    fsep (tally_owns true (first_name names) (first_seat about) r.after)
    (fact (first_count about ≡ r.before))

-- The step found the asking seat at one count and leaves it at another, and the other seats as they
-- were
pub record Counts (ask : Event) (old new : List Event) (r : Counted) : Type 0 where
  pub seat : (seat_of ask) < length (counts old)
  pub here : cell (counts old) (seat_of ask) ≡ (r.before, true)
  pub moved : counts new ≡ slice_set (counts old) (seat_of ask) (r.after, true)
