-- What calls cost, one after the other.
use Rattle.std.proofs.Common.{◌≡◌, ◌+◌, ◌-◌, ◌*◌, ◌<◌, ◌≤◌, ℕ, refl, sym, ◌∙◌, arith, subst}
use Rattle.answer_log.specs.Groups.{group_limit}
use Rattle.answer_log.specs.Handles.{IsHandle, IsSame}
use Rattle.answer_log.specs.Spending.{Spending, one_try}
use Rattle.answer_log.specs.declared.handle.Handle.{Handle}
use Rattle.answer_cache.specs.Nodes.{Costs}

pub free : (spent : Spending) → Costs spent spent 0 0
free spent = record { along = omega arith; before = omega arith; tried = omega arith; missed = omega arith }

pub free-of : (spent : Spending) (links : ℕ) → Costs spent spent links 0
free-of spent links = record { along = omega arith; before = omega arith; tried = omega arith; missed = omega arith }

pub with_links : (old new : Spending) (links : ℕ) → Costs old new 0 0 → Costs old new links 0
with_links old new links it = record { along = let a = it.along in omega arith; before = it.before; tried = it.tried; missed = it.missed }

-- one link
pub first : (old new : Spending) (links most : ℕ) → most ≡ links + 1 → Costs old new 1 0 → Costs old new most 0
first old new links most is it = record {
  along = let a = it.along in omega arith;
  before = it.before;
  tried = it.tried;
  missed = it.missed;
}

-- one link, and then more
pub first_and : (old mid new : Spending) (links most : ℕ) → most ≡ links + 1 → Costs old mid 1 0 → Costs mid new links 0
    → Costs old new most 0
first_and old mid new links most is one two = record {
  along = let a = one.along in let b = two.along in omega arith;
  before = let a = one.before in let b = two.before in omega arith;
  tried = let a = one.tried in let b = two.tried in omega arith;
  missed = let a = one.missed in let b = two.missed in omega arith;
}

pub both : (old mid new : Spending) (links more tries again : ℕ) → Costs old mid links tries → Costs mid new more again
    → Costs old new (links + more) (tries + again)
both old mid new links more tries again one two = record {
  along = let a = one.along in let b = two.along in omega arith;
  before = let a = one.before in let b = two.before in omega arith;
  tried = let a = one.tried in let b = two.tried in omega arith;
  missed = let a = one.missed in let b = two.missed in omega arith;
}

pub within : (old new : Spending) (links most tries times : ℕ) → links ≤ most → tries ≤ times → Costs old new links tries
    → Costs old new most times
within old new links most tries times few some it = record {
  along = let a = it.along in omega arith;
  before = it.before;
  tried = let a = it.tried in omega arith;
  missed = it.missed;
}

pub same : (old mid new : Spending) (links tries : ℕ) → new ≡ mid → Costs old mid links tries → Costs old new links tries
same old mid new links tries is it = let C : Spending → Type 0 = λ spent. Costs old spent links tries in subst C (sym is) it

-- one try
pub tried : (old new : Spending) → new ≡ one_try old → Costs old new 0 1
tried old new is =
    let C : Spending → Type 0 = λ spent. Costs old spent 0 1 in
    subst C (sym is) (record { along = omega arith; before = omega arith; tried = omega arith; missed = omega arith })

pub more : (old new : Spending) → new ≡ one_try old → old.tries < new.tries
more old new is = let M : Spending → Type 0 = λ spent. old.tries < spent.tries in subst M (sym is) (omega arith)

-- up to sixteen tries
module _ (old mid : Spending) (n : ℕ) (low : 2 ≤ n) (high : n ≤ 17) (it : Costs old mid ((n - 2) * group_limit) (n - 1)) where
  pub all-tries : Costs old mid (15 * group_limit) 16
  all-tries = within old mid ((n - 2) * group_limit) (15 * group_limit) (n - 1) 16 (omega arith) (omega arith) it

  pub some-tries : (new : Spending) → n < 17 → Costs mid new group_limit 0 → Costs old new (15 * group_limit) 16
  some-tries new less more =
      within old new ((n - 2) * group_limit + group_limit) (15 * group_limit) (n - 1 + 0) 16 (omega arith) (omega arith)
      (both old mid new ((n - 2) * group_limit) group_limit (n - 1) 0 it more)

  pub last-try : (then new : Spending) → n < 17 → Costs mid then group_limit 0 → new ≡ one_try then → Costs old new (15 * group_limit) 16
  last-try then new less more is =
      within old new ((n - 2) * group_limit + group_limit + 0) (15 * group_limit) (n - 1 + 0 + 1) 16 (omega arith) (omega arith)
      (both old then new ((n - 2) * group_limit + group_limit) 0 (n - 1 + 0) 1
      (both old mid then ((n - 2) * group_limit) group_limit (n - 1) 0 it more) (tried then new is))

pub first-try : (old new : Spending) → new ≡ one_try old → Costs old new (15 * group_limit) 16
first-try old new is = within old new 0 (15 * group_limit) 1 16 (omega arith) (omega arith) (tried old new is)

-- a look, and then up to sixteen tries
pub look-alone : (old new : Spending) → Costs old new group_limit 0 → Costs old new (16 * group_limit) 16
look-alone old new it = within old new group_limit (16 * group_limit) 0 16 (omega arith) (omega arith) it

pub look-and_more : (old mid again new : Spending) → again ≡ mid → Costs old mid group_limit 0 → Costs again new (15 * group_limit) 16
    → Costs old new (16 * group_limit) 16
look-and_more old mid again new is one two =
    within old new (group_limit + 15 * group_limit) (16 * group_limit) (0 + 16) 16 (omega arith) (omega arith)
    (both old again new group_limit (15 * group_limit) 0 16 (same old mid again group_limit 0 is one) two)

pub same-itself : (handle : Handle) → IsHandle handle → IsSame handle handle
same-itself handle is = record { handle = is; number = refl; seats = refl; groups = refl; node_count = refl; book = refl }

-- the hand is the same after both
pub same-handle : (old mid new : Handle) → IsSame old mid → IsSame mid new → IsSame old new
same-handle old mid new one two = record {
  handle = two.handle;
  number = two.number ∙ one.number;
  seats = two.seats ∙ one.seats;
  groups = two.groups ∙ one.groups;
  node_count = two.node_count ∙ one.node_count;
  book = two.book ∙ one.book;
}
