-- Queries that went over a wire, and what came back.
use Rattle.std.specs.Prelude.{◌≡◌, ℕ, ◌+◌, ◌*◌, Bool, List, [], ◌∷◌, Option, Some, None, IfSome, length, slice_get}
use Rattle.std.specs.declared.net.SocketAddr.{SocketAddr}
use Rattle.dns_message.specs.Messages.{Begins}
use Rattle.dns_message.specs.declared.message.Message.{Message}
use Rattle.dns_message.specs.declared.question.Asked.{Asked}
use Rattle.dns_transport.specs.ReplyBits.{IsRcode}
use Rattle.dns_transport.specs.declared.wire_counts.WireCounts.{WireCounts}
use Rattle.dns_transport.specs.declared.wire_try.WireReply.{WireReply}
use Rattle.dns_transport.specs.declared.wire_try.WireTry.{WireTry}

-- the id of a message is its first two octets (RFC 1035 4.1.1); 0 where it has fewer
abbrev pub id_of : List ℕ → ℕ
id_of [] = 0
id_of (high ∷ []) = 0
id_of (high ∷ low ∷ others) = high * 256 + low

-- what the octets of a query ask: the first question of the message in front; none where there is
-- no message, or one of no question
abbrev pub Asks : List ℕ → Option Asked → Type 0
Asks query None = (it : Message) → Begins query it → slice_get it.questions 0 ≡ None
Asks query (Some asked) =
    (it : Message) × Begins query it × (slice_get it.questions 0 ≡ Some asked)

-- octets begin with a message, or with none
abbrev pub IsInFront : List ℕ → Option Message → Type 0
IsInFront octets None = (it : Message) → Begins octets it → ⊥
IsInFront octets (Some it) = Begins octets it

-- octets of this id came back: this number of them, with this RCODE, and with this message in front
pub record IsReplyTo (id : ℕ) (reply : WireReply) : Type 0 where
  pub came : List ℕ
  pub is : id_of came ≡ id
  pub octets : reply.octets ≡ length came
  pub rcode : IsRcode came reply.rcode
  pub message : IsInFront came reply.message

-- A query was sent, of this id and with this question; and if something is said to have come back,
-- a message of this id did.
pub record IsTry (one : WireTry) : Type 0 where
  pub query : List ℕ
  pub id : one.id ≡ id_of query
  pub asks : Asks query one.asked
  pub reply : IfSome one.reply (IsReplyTo one.id)

-- A message of this id that comes from this server, over TCP or over UDP, may be the reply to a
-- query: the query has this id and went this way, and no reply to it came.
pub record Awaits (id : ℕ) (server : SocketAddr) (over_tcp : Bool) (one : WireTry) : Type 0 where
  pub waits : one.reply ≡ None
  pub of_id : one.id ≡ id
  pub from : one.route.server ≡ server
  pub over : one.route.over_tcp ≡ over_tcp

-- how much went over a wire, the tries that were kept, and the server from which a message came
-- last
pub record LogValue : Type 0 where
  pub counts : WireCounts
  pub tries : List WireTry
  pub last_server : Option SocketAddr
