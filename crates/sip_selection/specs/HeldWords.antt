-- The random words that a choice keeps while it waits.
use Rattle.std.specs.Prelude.{◌≡◌, ⊤, ℕ, List, Option, Some}
use Rattle.srv_choice.specs.Draws.{drawn}
use Rattle.srv_choice.specs.declared.words.Words.{Words}
use Rattle.sip_selection.specs.declared.held_words.HeldWords.{HeldWords}
use Rattle.sip_selection.specs.declared.held_words.HeldWords.TheVariants.{Given, Drawn}
use Rattle.sip_selection.specs.declared.stage.Step.{Step}
use Rattle.sip_selection.specs.declared.stage.Step.TheVariants.{Ask, Found, Refused}

-- the words that are kept
abbrev pub held_words : HeldWords → List ℕ
held_words (Given words boxed) = words.value.0
held_words (Drawn key number) = drawn key number

-- words that were given are in memory of their own
abbrev pub AreThere : HeldWords → Type 0
AreThere (Given words boxed) = boxed ≡ Some words.value
AreThere (Drawn key number) = ⊤

-- where a question is asked, the words are there
abbrev pub AreHeld : Step → HeldWords → Type 0
AreHeld (Ask question stage) held = AreThere held
AreHeld Found held = ⊤
AreHeld (Refused reason) held = ⊤

-- where a question is asked, these words are in memory of their own
abbrev pub AreBoxed : Step → Option Words → Words → Type 0
AreBoxed (Ask question stage) boxed words = boxed ≡ Some words
AreBoxed Found boxed words = ⊤
AreBoxed (Refused reason) boxed words = ⊤
