-- Where a request goes, as far as a book has the answers.
use Rattle.std.specs.Prelude.{◌≡◌, ⊤, ℕ, List}
use Rattle.sip_selection.specs.Choice.{Resolution, targets, refused}
use Rattle.sip_selection.specs.Selections.{SelectionValue, now_of}
use Rattle.answer_log.specs.declared.store.Store.{Store}
use Rattle.sip_locator.specs.Gains.{IsAsking, IsNext}
use Rattle.sip_locator.specs.declared.locator.Located.{Located}
use Rattle.sip_locator.specs.declared.locator.Located.TheVariants.{Targets, Refused, Missing}

-- where the request goes, or the question that its locator asks
abbrev pub resolution_of : {Book : Type 0} → Located Book → Resolution
resolution_of (Targets list) = targets list.items
resolution_of (Refused reason) = refused reason
resolution_of (Missing locator) = now_of locator

-- a locator that is left has used these answers, and asks
abbrev pub IsLeft : {Book : Type 0} → SelectionValue → Located Book → Type 0
IsLeft new (Targets list) = ⊤
IsLeft new (Refused reason) = ⊤
IsLeft new (Missing locator) = (locator ≡ new) × IsAsking (now_of new)

-- the same as of a locator that began so and made one step
abbrev pub IsLocated : {Book : Type 0} → SelectionValue → List Store → List Store → ℕ
    → Located Book → Type 0
IsLocated old first last now located =
    (new : SelectionValue)
    × IsNext old new first last now (resolution_of located)
    × IsLeft new located
