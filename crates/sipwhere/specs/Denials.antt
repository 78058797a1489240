-- Names that replies say do not exist (RFC 1035 4.1.1, RFC 2308 2.1).
use Rattle.std.specs.Prelude.{◌≡◌, ℕ, List, [], ◌∷◌}
use Rattle.dns_message.specs.Messages.{Begins}
use Rattle.dns_message.specs.declared.message.Message.{Message}
use Rattle.dns_message.specs.declared.question.Asked.{Asked}

-- A message says that a name does not exist: the question is of that name, the RCODE is 3, and no
-- CNAME record leads to another name, of which the RCODE would speak (RFC 6604 3).
pub record Denies (it : Message) (name : List (List ℕ)) : Type 0 where
  pub rcode : it.header.rcode ≡ 3
  pub asked : Asked
  pub only : it.questions ≡ asked ∷ []
  pub same : asked.name ≡ name
  pub no_chain : it.answers ≡ []

-- octets begin with a message that says so
pub record IsDenial (octets : List ℕ) (name : List (List ℕ)) : Type 0 where
  pub it : Message
  pub begins : Begins octets it
  pub denies : Denies it name

-- octets that a wire may give say that a name does not exist
pub record IsDenied (gives : List ℕ → Type 0) (name : List (List ℕ)) : Type 0 where
  pub octets : List ℕ
  pub given : gives octets
  pub denial : IsDenial octets name
