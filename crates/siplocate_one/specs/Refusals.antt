-- Why a text is no request with replies, by what refused it.
use Rattle.std.specs.Prelude.{⊤, ℕ, List}
use Rattle.sip_uri.specs.declared.refusal.UriRefusal.{UriRefusal}
use Rattle.sip_uri.specs.declared.refusal.UriRefusal.TheVariants as uri
use Rattle.siplocate_one.specs.declared.one.OneRefusal.{OneRefusal}
use Rattle.siplocate_one.specs.declared.one.OneRefusal.TheVariants.{Request, Reply, Memory}
use Rattle.siplocate_one.specs.declared.reply.BadReply.{BadReply}
use Rattle.siplocate_one.specs.declared.reply.BadReply.TheVariants as bad
use Rattle.sip_selection.specs.declared.caps.Families.{Families}
use Rattle.siplocate_one.specs.Requests.{HasBadRequest, HasBadReply}

abbrev pub of_request : UriRefusal → OneRefusal
of_request uri.Memory = Memory
of_request refusal = Request refusal

abbrev pub of_reply : BadReply → OneRefusal
of_reply bad.Memory = Memory
of_reply reply = Reply reply

-- what is so of a text that is refused; memory can be refused for any
abbrev pub RefusedAs : OneRefusal → Families → List ℕ → Type 0
RefusedAs (Request refusal) families text = HasBadRequest text refusal
RefusedAs (Reply reply) families text = HasBadReply families text reply
RefusedAs Memory families text = ⊤
