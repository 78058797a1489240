-- Which requests end by a call, and how.
use Rattle.std.specs.Prelude.{◌≡◌, ⊤, List, ◌++◌}
use Rattle.std.specs.List.{All}
use Rattle.dns_answers.specs.declared.refusal.ReplyRefusal.{ReplyRefusal}
use Rattle.dns_queries.specs.declared.incoming.Ending.{Ending}
use Rattle.dns_queries.specs.declared.incoming.Ending.TheVariants.{Answered, Faulty}
use Rattle.dns_message.specs.declared.question.Question.{Question}
use Rattle.sip_resolver.specs.Outcomes.{Ended}
use Rattle.sip_resolver.specs.declared.outcome.Outcome.{Outcome}
use Rattle.sip_resolver.specs.declared.outcome.Outcome.TheVariants.{Targets, Refused, NoAnswer, NoServer, BadReply, Memory}

-- the requests that had ended, and after them more whose outcomes are of this kind
pub record EndsMore (kind : Outcome → Type 0) (old new : List Ended) : Type 0 where
  pub more : List Ended
  pub after : new ≡ old ++ more
  pub are : All (λ ended. kind ended.outcome) more

-- an outcome is that memory was refused
abbrev pub IsMemory : Outcome → Type 0
IsMemory (Targets list) = ⊥
IsMemory (Refused reason) = ⊥
IsMemory (NoAnswer question) = ⊥
IsMemory (NoServer question) = ⊥
IsMemory (BadReply question refusal) = ⊥
IsMemory Memory = ⊤

-- an end of the choice, or want of memory
abbrev pub IsByChoice : Outcome → Type 0
IsByChoice (Targets list) = ⊤
IsByChoice (Refused reason) = ⊤
IsByChoice (NoAnswer question) = ⊥
IsByChoice (NoServer question) = ⊥
IsByChoice (BadReply question refusal) = ⊥
IsByChoice Memory = ⊤

-- an outcome is this fault of the reply to this question, or that memory was refused
abbrev pub IsByFault : Question → ReplyRefusal → Outcome → Type 0
IsByFault question refusal (Targets list) = ⊥
IsByFault question refusal (Refused reason) = ⊥
IsByFault question refusal (NoAnswer other) = ⊥
IsByFault question refusal (NoServer other) = ⊥
IsByFault question refusal (BadReply other fault) = (other ≡ question) × (fault ≡ refusal)
IsByFault question refusal Memory = ⊤

-- no answer to this question, or want of memory
abbrev pub IsBySilence : Question → Outcome → Type 0
IsBySilence question (Targets list) = ⊥
IsBySilence question (Refused reason) = ⊥
IsBySilence question (NoAnswer other) = other ≡ question
IsBySilence question (NoServer other) = ⊥
IsBySilence question (BadReply other fault) = ⊥
IsBySilence question Memory = ⊤

-- no server takes this question, or want of memory
abbrev pub IsByClosing : Question → Outcome → Type 0
IsByClosing question (Targets list) = ⊥
IsByClosing question (Refused reason) = ⊥
IsByClosing question (NoAnswer other) = ⊥
IsByClosing question (NoServer other) = other ≡ question
IsByClosing question (BadReply other fault) = ⊥
IsByClosing question Memory = ⊤

-- how a reply to this question may end a request: by its fault, or because memory is refused
abbrev pub IsByReply : Question → Ending → Outcome → Type 0
IsByReply question (Answered found) outcome = IsMemory outcome
IsByReply question (Faulty refusal) outcome = IsByFault question refusal outcome
