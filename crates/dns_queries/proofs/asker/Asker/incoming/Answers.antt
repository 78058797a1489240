use Rattle.std.proofs.Common.{◌≡◌, None, OnErr, ap, sym, subst, ◌∙◌}
use Rattle.dns_answers.specs.Replies.{reply_refusal}
use Rattle.dns_message.specs.declared.question.Question.{Question}
use Rattle.dns_queries.proofs.Listing.{free}
use Rattle.dns_queries.proofs.Reading.{answered-is, ended-is, ignored-is, on-err}
use Rattle.dns_message.specs.Messages.{Begins}
use Rattle.dns_queries.specs.Events.{closed, EndsBy, IsNoReply, MayWant, Means, Tells}
use Rattle.dns_queries.specs.Listed.{asking_of}
use Rattle.dns_queries.specs.Tickets.{Asking}
use Rattle.dns_queries.specs.declared.incoming.Incoming.TheVariants.{Ended, Ignored}
use Rattle.dns_queries.specs.declared.incoming.Why.TheVariants.{UnknownId}
use Rattle.dns_queries.proofs.asker.Asker.incoming.Goals as goal

pub returns-in_default-pending_id_of-clause-means : goal.returns-in_default-pending_id_of-clause-means
returns-in_default-pending_id_of-clause-means c =
    let begins : Begins c.args.octets.now c.in-Some.message = rw c.in-Some.is at c.in_ok-message.ensures.read in
    subst (λ (old : Asking). Means old c.args.octets.now (Ignored UnknownId)) c.self.view_is
    (c.in-Some.message, begins, free c.self.inside.tickets.list c.in-Some.message.header.id c.in_default-pending_id_of.ensures)

pub returns-in_err-ending-clause-wanted : goal.returns-in_err-ending-clause-wanted
returns-in_err-ending-clause-wanted c =
    let begins : Begins c.args.octets.now c.in-Some.message = rw c.in-Some.is at c.in_ok-message.ensures.read in
    let found = c.in-Some-pending_id_of.ensures in
    let asked = c.question_at.ensures found.entry found.there in
    let fine : reply_refusal found.entry.item.question c.in-Some.message ≡ None =
    subst (λ (question : Question). reply_refusal question c.in-Some.message ≡ None) asked c.in_err-ending.ensures.wanted in
    subst (λ (old : Asking). OnErr c.from_residual-in_err-ending.result (MayWant old c.args.octets.now)) c.self.view_is
    (on-err c.from_residual-in_err-ending.result
    (MayWant (asking_of c.self.inside.tickets.schedule c.self.inside.tickets.list) c.args.octets.now)
    (answered-is c.self.inside.tickets.schedule c.self.inside.tickets.list c.args.octets.now c.in-Some.message begins
    c.in-Some-pending_id_of.at found fine))

pub returns-in-Err-clause-means : goal.returns-in-Err-clause-means
returns-in-Err-clause-means c =
    let begins : Begins c.args.octets.now c.in-Some.message = rw c.in-Some.is at c.in_ok-message.ensures.read in
    let found = c.in-Some-pending_id_of.ensures in
    let asked = c.question_at.ensures found.entry found.there in
    let ignored : IsNoReply c.question_at.result.now c.in-Some.message c.in-Err.why = rw c.in-Err.is at c.in_ok-ending.ensures.ignored in
    let ignored' = subst (λ (question : Question). IsNoReply question c.in-Some.message c.in-Err.why) asked ignored in
    subst (λ (old : Asking). Means old c.args.octets.now (Ignored c.in-Err.why)) c.self.view_is
    (ignored-is c.self.inside.tickets.schedule c.self.inside.tickets.list c.args.octets.now c.in-Some.message begins
    c.in-Some-pending_id_of.at found c.in-Err.why ignored')

pub returns-clause-means : goal.returns-clause-means
returns-clause-means c =
    let begins : Begins c.args.octets.now c.in-Some.message = rw c.in-Some.is at c.in_ok-message.ensures.read in
    let found = c.in-Some-pending_id_of.ensures in
    let asked = c.question_at.ensures found.entry found.there in
    let ends : EndsBy c.question_at.result.now c.in-Some.message c.in-Ok.ending = rw c.in-Ok.is at c.in_ok-ending.ensures.ends in
    let ends' = subst (λ (question : Question). EndsBy question c.in-Some.message c.in-Ok.ending) asked ends in
    let closed = c.close-id.ensures found.entry found.there in
    subst (λ (old : Asking). Tells old c.args.octets.now (Ended c.close-id.result.0 c.close-id.result.1 c.in-Ok.ending)) c.self.view_is
    (ended-is c.self.inside.tickets.schedule c.self.inside.tickets.list c.args.octets.now c.in-Some.message begins
    c.in-Some-pending_id_of.at found c.close-id.result.0 c.close-id.result.1 c.in-Ok.ending closed.0 closed.1 ends')

pub returns-clause-left : goal.returns-clause-left
returns-clause-left c =
    let found = c.in-Some-pending_id_of.ensures in
    let closed' = c.close-id.ensures found.entry found.there in
    subst (λ (old : Asking). asking_of c.close-id.new.self.schedule c.close-id.new.self.list ≡ closed c.close-id.result.0 old)
    c.self.view_is
    (closed'.2 ∙ ap (λ id. closed id (asking_of c.self.inside.tickets.schedule c.self.inside.tickets.list)) (sym closed'.0))
