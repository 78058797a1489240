-- Chains of CNAME records that a server cuts short (RFC 1034 5.2.2, RFC 2308 2.2).
use Rattle.std.specs.Prelude.{◌≡◌, ◌<◌, ◌==◌, ℕ, Bool, ◌&&◌, [], ◌++◌, length, None, Some}
use Rattle.std.specs.List.{All}
use Rattle.dns_message.specs.declared.header.Header.{Header}
use Rattle.dns_message.specs.declared.message.Message.{Message}
use Rattle.dns_message.specs.declared.question.Question.{Question}
use Rattle.dns_answers.specs.Answers.{answer}
use Rattle.dns_answers.specs.Chains.{Chain, chain as chain_from}
use Rattle.dns_answers.specs.Lives.{IsNoSoa}
use Rattle.dns_answers.specs.Records.{count_of}
use Rattle.dns_answers.specs.Replies.{asks_this_alone, reply_refusal}

-- ---- which question is asked on

-- a reply to a question, whole and without a fault, that has no record for it
pub record IsEmptyAnswer (question : Question) (reply : Message) : Type 0 where
  pub is_reply : reply_refusal question reply ≡ None
  pub none : count_of (answer question reply).records ≡ 0

-- A reply is cut short: it has neither an error nor an answer, it is no negative answer, since it
-- has no SOA record, and its CNAME records lead on over more links than before.
pub record IsCutShort (question : Question) (reply : Message) (before : ℕ)
    (chain : Chain) : Type 0 where
  pub no_error : reply.header.rcode ≡ 0
  pub no_soa : All IsNoSoa reply.authority
  pub leads : chain_from reply.answers question.name ≡ Some chain
  pub further : before < length chain.links
  pub empty : IsEmptyAnswer question reply

-- what is asked after a reply that is cut short: the same kind of question about the name where the
-- chain ends
pub record AsksOn (question : Question) (reply : Message) (before : ℕ) (further : Question)
    (links : ℕ) : Type 0 where
  pub chain : Chain
  pub cut : IsCutShort question reply before chain
  pub name : further ≡ record { name = chain.last; kind = question.kind }
  pub count : links ≡ length chain.links

-- a reply is not cut short
abbrev pub IsWhole : Question → Message → ℕ → Type 0
IsWhole question reply before = (chain : Chain) → IsCutShort question reply before chain → ⊥

-- ---- what is put together

-- a message is a reply to a question, whatever it says (RFC 1035 4.1.1)
abbrev pub is_reply_to : Question → Message → Bool
is_reply_to question message =
    message.header.reply && message.header.opcode == 0 && asks_this_alone question message.questions

-- The header is that of the first reply, with what the last one says of it: whether it was cut, and
-- RCODE (RFC 1035 4.1.1, RFC 6604 3).
abbrev pub joined_header : Header → Header → Header
joined_header first last = record first { truncated = last.truncated; rcode = last.rcode }

-- The question of the first reply, the answer records of both in their order, and the authority of
-- the last one. Additional records don't answer.
abbrev pub joined : Message → Message → Message
joined first last = record {
  header = joined_header first.header last.header;
  questions = first.questions;
  answers = first.answers ++ last.answers;
  authority = last.authority;
  additional = [];
}
