use Rattle.std.proofs.Common.{◌≡◌, ℕ, List, Option, Some, None, Result, Ok, Err, slice_get, sym, ap, ◌∙◌}
use Rattle.std.specs.Prelude.{IfOk}
use Rattle.dns_message.specs.Messages.{Begins}
use Rattle.dns_message.specs.declared.message.Message.{Message}
use Rattle.dns_message.specs.declared.question.Asked.{Asked}
use Rattle.dns_transport.specs.WireTries.{Asks}
use Rattle.dns_transport.proofs.try_log.asked_in.Goals as goal

-- the message in front asks what its first question does
asks-first : (query : List ℕ) (found : Message) → Begins query found → ((it : Message) → Begins query it → it ≡ found)
    → (asked : Option Asked) → asked ≡ slice_get found.questions 0 → Asks query asked
asks-first query found begins only None first =
    λ it there. ap (λ (message : Message). slice_get message.questions 0) (only it there) ∙ sym first
asks-first query found begins only (Some asked) first = (found, begins, sym first)

if-ok : {T E : Type 0} (P Q : T → Type 0) → ((it : T) → P it → Q it) → (result : Result T E) → IfOk result P → IfOk result Q
if-ok P Q then (Ok it) is = then it is
if-ok P Q then (Err fault) is = tt

pub returns-in-Some : goal.returns-in-Some
returns-in-Some c =
    let query = c.args.query.now in
    let found = c.in-Some.message in
    let begins : Begins query found = rw c.in-Some.is at c.in_ok-message.ensures.read in
    let only = λ (it : Message) (there : Begins query it).
    c.law_one_message_in_front.ensures query there.end begins.end it found there.spelled begins.spelled in
    if-ok (λ first. first ≡ slice_get found.questions 0) (Asks query) (asks-first query found begins only) c.first_of.result
    (rw c.as_slice.ensures at c.first_of.ensures)

pub returns-in-None : goal.returns-in-None
returns-in-None c =
    let none : (found : Message) → Begins c.args.query.now found → ⊥ = rw c.in-None.is at c.in_ok-message.ensures.read in
    λ it there. absurd (none it there)
