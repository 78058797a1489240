-- What a message means to a question on its way along a chain. No public clause cites this module.
use Rattle.std.specs.Prelude.{◌≡◌, ℕ, ⊤, List}
use Rattle.dns_answers.specs.CutChains.{IsWhole}
use Rattle.dns_message.specs.Written.{plain}
use Rattle.dns_message.specs.declared.message.Message.{Message}
use Rattle.dns_message.specs.declared.question.Question.{Question}
use Rattle.dns_transport.specs.CnameChains.{EndsWith, FollowsUp, HasFollowUp, IsStray, OpenValue}
use Rattle.dns_transport.specs.declared.server_wire.Course.{Course}
use Rattle.dns_transport.specs.declared.server_wire.Course.TheVariants.{Open, Replied, Over, Closed}
use Rattle.dns_transport.specs.declared.open_chain.SoFar.{SoFar}
use Rattle.dns_transport.specs.declared.open_chain.Step.{Step}
use Rattle.dns_transport.specs.declared.open_chain.Step.TheVariants.{Stray, FollowUp, Ended}

-- what a message means to a chain that is open
abbrev pub Steps : OpenValue → List ℕ → Step → Type 0
Steps old reply (Stray same) = (same ≡ old) × IsStray old reply
Steps old reply (FollowUp new) = FollowsUp old reply new
Steps old reply (Ended octets) = EndsWith old reply octets.items

-- A chain goes on from the query that began it, with its id and question, and from the replies so
-- far, put together, with so many links.
pub record GoesOn (octets : List ℕ) (id : ℕ) (question : Question) (reply : Message) (links : ℕ)
    (new : OpenValue) : Type 0 where
  pub query : new.query ≡ octets
  pub is_id : new.id ≡ id
  pub asked : new.question ≡ question
  pub so_far : new.so_far ≡ reply
  pub goes_on : HasFollowUp links new

-- what came so far is the whole reply, of these octets
pub record IsWholeReply (so_far : SoFar) (octets : List ℕ) : Type 0 where
  pub whole : IsWhole so_far.query.question so_far.reply so_far.links
  pub are : octets ≡ plain so_far.reply

-- what came so far is followed up, or it is the whole reply
abbrev pub ComesTo : SoFar → Step → Type 0
ComesTo so_far (Stray same) = ⊥
ComesTo so_far (FollowUp new) =
    GoesOn so_far.octets.items so_far.query.id so_far.query.question so_far.reply so_far.links new
ComesTo so_far (Ended octets) = IsWholeReply so_far octets.items

-- what holds of the octets that are handed on for a query of the caller, if any are
abbrev pub IfReplied : Course → (List ℕ → Type 0) → Type 0
IfReplied Open holds = ⊤
IfReplied (Replied octets) holds = holds octets.items
IfReplied Over holds = ⊤
IfReplied Closed holds = ⊤
