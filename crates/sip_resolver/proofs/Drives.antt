-- What is done at a wire, one part after the other.
use Rattle.std.proofs.Common.{ℕ, List, Some, true, false, sym, subst}
use Rattle.dns_queries.specs.MessageWires.{Event}
use Rattle.sip_resolver.specs.Questions.{QuestionsView}
use Rattle.sip_resolver.specs.Resolvers.{ResolverView}
use Rattle.sip_resolver.specs.Sends.{Sends}
use Rattle.sip_resolver.specs.Tasks.{WaitingView}
use Rattle.sip_resolver.specs.declared.transmit.Transmit.{Transmit}
use Rattle.sip_resolver.specs.Driven.{Drives, Gives, IsQuery, SendsNext, begun, closes, leaves, receives, sends, times_out, waits}

is-query : (now asked : ℕ) (waiting : List WaitingView) (old new : QuestionsView) (transmit : Transmit)
    → Sends now asked waiting old new (Some transmit) → IsQuery transmit.octets.now
is-query now asked waiting old new transmit goes =
    record { id = goes.0; question = goes.2.ticket.sent.question; are = goes.2.are }

module _ {Wire : Type 0} (does : Wire → Event → Wire → Type 0) where
  pub drives-through : (first middle last : Wire) → Drives does first middle → Drives does middle last → Drives does first last
  drives-through first middle last front begun = front
  drives-through first middle last front (sends octets before after back is did) =
      sends octets before after (drives-through first middle before front back) is did
  drives-through first middle last front (receives message before after back did) =
      receives message before after (drives-through first middle before front back) did
  drives-through first middle last front (leaves id before after back did) =
      leaves id before after (drives-through first middle before front back) did
  drives-through first middle last front (closes id before after back did) =
      closes id before after (drives-through first middle before front back) did
  drives-through first middle last front (times_out id before after back did) =
      times_out id before after (drives-through first middle before front back) did
  drives-through first middle last front (waits before after back did) =
      waits before after (drives-through first middle before front back) did

  module _ (gives : List ℕ → Type 0) (shows : ℕ → Type 0) {I : Type 0} (draws : I → ℕ → I → Type 0) where
    pub drives-sent : (first before after : Wire) (old new : ResolverView) → Drives does first before
        → SendsNext does (Gives gives shows draws) before after old new true → Drives does first after
    drives-sent first before after old new so-far next =
        sends next.0.octets.now before after so-far (is-query _ _ _ _ _ next.0 next.1.polls.sends) next.2

    pub drives-still : (first before after : Wire) (old new : ResolverView) → Drives does first before
        → SendsNext does (Gives gives shows draws) before after old new false → Drives does first after
    drives-still first before after old new so-far next = subst (Drives does first) (sym next.1) so-far
