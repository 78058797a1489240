-- How what the code keeps is seen in the definitions.
use Rattle.std.specs.Prelude.{◌≡◌, ⊤, ℕ, List, Err, Option, None}
use Rattle.std.specs.Hash.FoldHasher as folding
use Rattle.dns_name.specs.Labels.{wire_of}
use Rattle.dns_message.specs.declared.question.Question.{Question}
use Rattle.dns_answers.specs.Values.{AnswerValue}
use Rattle.sip_selection.specs.Known.{Needing}
use Rattle.sip_selection.specs.declared.source.Stop.{Stop}
use Rattle.sip_selection.specs.declared.source.Stop.TheVariants.{Need, Memory}

-- the hash of a name: equal names have one hash
abbrev pub hash_of_name : List (List ℕ) → ℕ
hash_of_name name = folding.finish (folding.write folding.initial (wire_of name))

-- where a value needs a question, it stops there; memory can be refused anywhere
abbrev pub StopsAt : {X : Type 0} → Stop → Needing X → Type 0
StopsAt (Need question) value = value ≡ Err question
StopsAt Memory value = ⊤

-- where a value needs a question, this is said of it: that there is no answer
abbrev pub LacksAt : (Question → Option AnswerValue → Type 0) → Stop → Type 0
LacksAt says (Need question) = says question None
LacksAt says Memory = ⊤
