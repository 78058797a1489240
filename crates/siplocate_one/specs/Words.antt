-- What the program prints.
use Rattle.std.specs.Prelude.{◌≡◌, ◌⊎◌, ℕ, List, [], ◌∷◌, ◌++◌, codes}
use Rattle.std.specs.List.{flat_map}
use Rattle.dns_message.specs.declared.question.Question.{Question}
use Rattle.sip_uri.specs.declared.refusal.UriRefusal.{UriRefusal}
use Rattle.dns_answers.specs.declared.refusal.ReplyRefusal.{ReplyRefusal}
use Rattle.dns_answers.specs.declared.refusal.ReplyRefusal.TheVariants as refusal
use Rattle.siplocate_one.specs.declared.reply.BadReply.{BadReply}
use Rattle.siplocate_one.specs.declared.reply.BadReply.TheVariants as bad
use Rattle.sip_selection.specs.declared.target.Target.{Target}
use Rattle.sip_selection.specs.declared.caps.Families.{Families}
use Rattle.sip_selection.specs.Choice.{Resolution, targets, refused, need}
use Rattle.sip_report.specs.Lines.{question_words, reason_word, request_word, target_words}
use Rattle.sip_report.specs.declared.address.AddressForm.TheVariants.{Full}
use Rattle.siplocate_one.specs.Requests.{HasBadRequest, HasBadReply}

-- the word that is printed for why a message gives no answer
abbrev pub refusal_word : ReplyRefusal → List ℕ
refusal_word refusal.NotReply = codes "NotReply"
refusal_word refusal.OtherQuestion = codes "OtherQuestion"
refusal_word refusal.Truncated = codes "Truncated"
refusal_word (refusal.ServerFault rcode) = codes "ServerFault"
refusal_word refusal.Memory = codes "Memory"

-- the word that is printed for why a line is no reply that can be taken
abbrev pub reply_word : BadReply → List ℕ
reply_word bad.NotHex = codes "NotHex"
reply_word bad.NothingAsked = codes "NothingAsked"
reply_word bad.TooLong = codes "TooLong"
reply_word bad.Malformed = codes "Malformed"
reply_word (bad.NoAnswer refusal) = refusal_word refusal
reply_word bad.Memory = codes "Memory"

-- the line for a first line that is no request, and for a further line that is no reply
abbrev pub bad_request_line : UriRefusal → List ℕ
bad_request_line refusal = codes "bad request " ++ request_word refusal ++ 10 ∷ []

-- the line that is printed for a line that is no reply that can be taken
abbrev pub bad_reply_line : BadReply → List ℕ
bad_reply_line reply = codes "bad reply " ++ reply_word reply ++ 10 ∷ []

-- the line that is printed for a text that is no request with replies
abbrev pub IsBadLine : Families → List ℕ → List ℕ → Type 0
IsBadLine families text line =
    ((refusal : UriRefusal) × HasBadRequest text refusal × (line ≡ bad_request_line refusal))
    ⊎ ((reply : BadReply) × HasBadReply families text reply × (line ≡ bad_reply_line reply))

-- the line of a target
abbrev pub target_line : Target → List ℕ
target_line target = target_words Full target ++ 10 ∷ []

-- the line of a question
abbrev pub question_line : Question → List ℕ
question_line question = codes "ask " ++ question_words question ++ 10 ∷ []

-- the lines of a resolution, and its status
abbrev pub shown : Resolution → List ℕ
shown (targets list) = flat_map target_line list
shown (need question) = question_line question
shown (refused reason) = codes "refused " ++ reason_word reason ++ 10 ∷ []

-- the exit status of a resolution: 0 with targets, 1 where an answer is missing, 2 where the
-- request goes nowhere
abbrev pub status_of : Resolution → ℕ
status_of (targets list) = 0
status_of (need question) = 1
status_of (refused reason) = 2
