-- Questions on their way along chains of CNAME records that servers cut short (RFC 1034 5.2.2).
use Rattle.std.specs.Prelude.{◌≡◌, ℕ, true, List, [], ◌∷◌, Option, Some, None}
use Rattle.dns_answers.specs.CutChains.{AsksOn, IsWhole, is_reply_to, joined}
use Rattle.dns_message.specs.Messages.{Begins}
use Rattle.dns_message.specs.Written.{asked_of, plain, query_of}
use Rattle.dns_message.specs.declared.message.Message.{Message}
use Rattle.dns_message.specs.declared.question.Question.{Question}

-- ---- a chain that is open

-- octets are a message of this id, with this question alone
pub record Asks (octets : List ℕ) (id : ℕ) (question : Question) : Type 0 where
  pub message : Message
  pub begins : Begins octets message
  pub is_id : message.header.id ≡ id
  pub alone : message.questions ≡ asked_of question ∷ []

-- the query that began it, with its id and question, the replies so far, put together, how many
-- links these have, and the follow-up
pub record OpenValue : Type 0 where
  pub query : List ℕ
  pub id : ℕ
  pub question : Question
  pub so_far : Message
  pub links : ℕ
  pub follow_up : Question
  pub follow_up_query : List ℕ

-- the question that is asked next follows from what came, and its query has the id of the first one
pub record HasFollowUp (before : ℕ) (it : OpenValue) : Type 0 where
  pub asks : AsksOn it.question it.so_far before it.follow_up it.links
  pub octets : it.follow_up_query ≡ plain (query_of it.id it.follow_up)

-- a chain begins with a query whose reply is cut short
pub record Begun (query reply : List ℕ) (it : OpenValue) : Type 0 where
  pub octets : it.query ≡ query
  pub asks : Asks query it.id it.question
  pub read : Begins reply it.so_far
  pub goes_on : HasFollowUp 0 it

-- a reply to a query is not cut short
abbrev pub IsNotCut : List ℕ → List ℕ → Type 0
IsNotCut query reply = (id : ℕ) (question : Question) (message : Message) → Asks query id question
    → Begins reply message → IsWhole question message 0

-- a message is a reply to the question that is asked next
pub record IsNext (it : OpenValue) (reply : List ℕ) (message : Message) : Type 0 where
  pub read : Begins reply message
  pub is : is_reply_to it.follow_up message ≡ true

-- no message is one
abbrev pub IsStray : OpenValue → List ℕ → Type 0
IsStray it reply = (message : Message) → IsNext it reply message → ⊥

-- that reply is cut short, too
pub record FollowsUp (old : OpenValue) (reply : List ℕ) (new : OpenValue) : Type 0 where
  pub message : Message
  pub next : IsNext old reply message
  pub query : new.query ≡ old.query
  pub id : new.id ≡ old.id
  pub question : new.question ≡ old.question
  pub so_far : new.so_far ≡ joined old.so_far message
  pub goes_on : HasFollowUp old.links new

-- a chain ends: the replies, put together, are the reply to the first question
pub record EndsWith (it : OpenValue) (reply octets : List ℕ) : Type 0 where
  pub message : Message
  pub next : IsNext it reply message
  pub whole : IsWhole it.question (joined it.so_far message) it.links
  pub are : octets ≡ plain (joined it.so_far message)

-- ---- what is handed on

-- What is handed on for a reply: the reply as it came where no chain is open; else the replies of
-- the chain, put together, where it ends by this one.
abbrev pub IsHandedOn : Option OpenValue → List ℕ → List ℕ → Type 0
IsHandedOn None reply octets = octets ≡ reply
IsHandedOn (Some chain) reply octets = EndsWith chain reply octets
