-- The refusal of a locator, from that of a message or of a reply: want of memory has one name.
use Rattle.dns_answers.specs.declared.refusal.ReplyRefusal.{ReplyRefusal}
use Rattle.dns_answers.specs.declared.refusal.ReplyRefusal.TheVariants as reply
use Rattle.dns_message.specs.declared.refusal.MessageRefusal.{MessageRefusal}
use Rattle.dns_message.specs.declared.refusal.MessageRefusal.TheVariants as message
use Rattle.sip_locator.specs.declared.refusal.LocatorRefusal.{LocatorRefusal}
use Rattle.sip_locator.specs.declared.refusal.LocatorRefusal.TheVariants.{Message, Reply, Memory}

abbrev pub of_message : MessageRefusal → LocatorRefusal
of_message message.TooLong = Message message.TooLong
of_message (message.Malformed part) = Message (message.Malformed part)
of_message message.Memory = Memory

abbrev pub of_reply : ReplyRefusal → LocatorRefusal
of_reply reply.NotReply = Reply reply.NotReply
of_reply reply.OtherQuestion = Reply reply.OtherQuestion
of_reply reply.Truncated = Reply reply.Truncated
of_reply (reply.ServerFault code) = Reply (reply.ServerFault code)
of_reply reply.Memory = Memory
