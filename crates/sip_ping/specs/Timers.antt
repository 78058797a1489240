-- When a request is sent again over UDP (RFC 3261 17.1.2.2), in milliseconds.
use Rattle.std.specs.Prelude.{ℕ, zero, suc, ◌+◌, ◌≤◌, ◌<◌, min, List, [], ◌∷◌, length, ⊤}

-- the first wait (RFC 3261 17.1.1.1)
abbrev pub t1 : ℕ
t1 = 500

-- the longest wait (RFC 3261 17.1.1.1)
abbrev pub t2 : ℕ
t2 = 4000

-- what Timer E is set to after one that was set to this, as long as no provisional reply came
abbrev pub next_wait : ℕ → ℕ
next_wait wait = min (wait + wait) t2

-- what Timer E is set to when the request is sent again for the so many-th time
abbrev pub wait_after : ℕ → ℕ
wait_after zero = t1
wait_after (suc count) = next_wait (wait_after count)

-- when the request is sent, so many times after the first
abbrev pub send_time : ℕ → ℕ
send_time zero = 0
send_time (suc count) = send_time count + wait_after count

-- The schedule where no provisional reply comes: the times of so many sends, the latest first. In
-- turn they are 0, 500, 1500, 3500, 7500, 11500 and so on.
abbrev pub schedule : ℕ → List ℕ
schedule zero = []
schedule (suc count) = send_time count ∷ schedule count

-- times are not before others, one by one
abbrev pub AreNotBefore : List ℕ → List ℕ → Type 0
AreNotBefore [] [] = ⊤
AreNotBefore (due ∷ dues) (time ∷ times) = (due ≤ time) × AreNotBefore dues times
AreNotBefore [] (time ∷ times) = ⊥
AreNotBefore (due ∷ dues) [] = ⊥

-- all times are before a deadline
abbrev pub AreBefore : ℕ → List ℕ → Type 0
AreBefore deadline [] = ⊤
AreBefore deadline (time ∷ times) = (time < deadline) × AreBefore deadline times

-- Requests are sent no earlier than the schedule says, and no more often than it has times before
-- the deadline. The latest of them is the first in the list.
pub record AreScheduled (deadline : ℕ) (times : List ℕ) : Type 0 where
  pub late : AreNotBefore (schedule (length times)) times
  pub few : AreBefore deadline (schedule (length times))
