-- The group of a question, by the hash FNV-1a of 32 bits (draft-eastlake-fnv).
use Rattle.std.specs.Prelude.{ℕ, ◌*◌, ◌/◌, ◌%◌, ◌^◌, List, [], ◌∷◌, ◌++◌, bit_xor}
use Rattle.std.specs.List.{fold}
use Rattle.dns_name.specs.Labels.{wire_of}
use Rattle.dns_message.specs.Kinds.{type_of_kind}
use Rattle.dns_message.specs.declared.question.Question.{Question}

-- the hash with one octet more
abbrev pub hash_more : ℕ → ℕ → ℕ
hash_more hash octet = (bit_xor hash octet * 16777619) % 2 ^ 32

-- FNV-1a of 32 bits, over the octets
abbrev pub hash_of : List ℕ → ℕ
hash_of octets = fold hash_more 2166136261 octets

-- the octets of a question that are hashed: its name without pointers, and the two octets of its
-- type
abbrev pub hashed_of : Question → List ℕ
hashed_of question = wire_of question.name ++ (type_of_kind question.kind / 256)
    ∷ (type_of_kind question.kind % 256) ∷ []

-- how many stores one group can have: 128
abbrev pub group_limit : ℕ
group_limit = 128

-- the group of a question, one of so many
abbrev pub group_in : ℕ → Question → ℕ
group_in groups question = hash_of (hashed_of question) % groups

-- the group of a question, one of 64
abbrev pub group_of : Question → ℕ
group_of question = group_in 64 question
