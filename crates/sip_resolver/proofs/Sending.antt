-- Questions that are given up, and the one that is sent.
use Rattle.std.proofs.Common.{◌≡◌, ℕ, max, Bool, true, List, [], ◌∷◌, ◌++◌, Option, Some, None, refl, sym, ap, ◌∙◌, ◌+◌, rules, arith, MatchOption}
use Rattle.std.specs.Prelude.{IfNone}
use Rattle.std.specs.List.{find}
use Rattle.std.specs.Option.{option_or}
use Rattle.std.proofs.lemmas.List.Folds.{find-append}
use Rattle.std.proofs.lemmas.List.{append_assoc}
use Rattle.std.proofs.lemmas.List.Elements.{All-append, All-cons, All-nil, Contains-append_right}
use Rattle.dns_queries.specs.Events.{IsGivenUp, IsResent, again}
use Rattle.dns_queries.specs.Tickets.{Asking, Ticket, has_id, waiting_too}
use Rattle.dns_queries.specs.declared.schedule.Schedule.{Schedule}
use Rattle.dns_message.specs.declared.question.Question.{Question}
use Rattle.sip_resolver.specs.Questions.{IsScheduled, IsSent, QuestionsView, asked_over, asking_over}
use Rattle.sip_resolver.specs.Sends.{GivesUp, GivesUpBoth, IsInVain, IsOverdue, IsUnanswered, SendsAfter, SendsFirst, SendsOne, Sends, first, again as again-sent, with_over}
use Rattle.sip_resolver.specs.Tasks.{WaitingView, over_of}
use Rattle.sip_resolver.specs.Waits.{Resends}
use Rattle.sip_resolver.specs.declared.transmit.DnsTransport.{DnsTransport}
use Rattle.sip_resolver.specs.declared.transmit.DnsTransport.TheVariants.{Datagram, Stream}
use Rattle.sip_resolver.specs.declared.transmit.Transmit.{Transmit}

pub gives-up-not : (now : ℕ) (asking : Asking) → GivesUp now asking asking
gives-up-not now asking = record { gone = []; were = refl; in_vain = All-nil (IsInVain asking.schedule now) }

pub gives-up-none : (now : ℕ) (questions : QuestionsView) → GivesUpBoth now questions questions
gives-up-none now questions =
    record { datagrams = gives-up-not now questions.datagrams; streams = gives-up-not now questions.streams }

-- The deadline of the one that is given up is over.
pub given-up-by : (now sent id : ℕ) (question : Question) (old new : Asking) → IsOverdue now old → IsGivenUp old new sent id question
    → IsGivenUp old new now id question
given-up-by now sent id question old new due is =
    let same : due.ticket ≡ is.ticket = let front = due.first in let back = is.first in cc in
    record {
      ticket = is.ticket;
      others = is.others;
      first = is.first;
      over = rw (← same) due.over;
      enough = is.enough;
      id_is = is.id_is;
      question_is = is.question_is;
      left = is.left;
    }

-- the schedule stays
schedule-left : (now : ℕ) (old new : Asking) → GivesUp now old new → old.schedule ≡ new.schedule
schedule-left now old new it = ap (λ (asking : Asking). asking.schedule) it.were

in-vain-by : (now id : ℕ) (question : Question) (old middle new : Asking) → GivesUp now old middle
    → (is : IsGivenUp middle new now id question) → IsInVain old.schedule now is.ticket
in-vain-by now id question old middle new gives is = rw (schedule-left now old middle gives) (is.enough, is.over)

-- one more is given up
pub gives-up-too : (now id : ℕ) (question : Question) (old middle new : Asking) → GivesUp now old middle
    → IsGivenUp middle new now id question → GivesUp now old new
gives-up-too now id question old middle new gives is = record {
  gone = gives.gone ++ is.ticket ∷ [];
  were = gives.were ∙ rw (is.first, is.left)
      (ap (λ l. record middle { tickets = l }) (sym (append_assoc gives.gone (is.ticket ∷ []) is.others)));
  in_vain =
      let kind = IsInVain old.schedule now in
      All-append kind gives.gone (is.ticket ∷ []) gives.in_vain
      (All-cons kind is.ticket [] (in-vain-by now id question old middle new gives is) (All-nil kind));
}

-- the question that is given up was one of those that were out at first
pub unanswered : (now id : ℕ) (question : Question) (old middle new : Asking) → GivesUp now old middle
    → IsGivenUp middle new now id question → IsUnanswered old.schedule old.tickets now question
unanswered now id question old middle new gives is = record {
  ticket = is.ticket;
  stands = rw gives.were (Contains-append_right gives.gone middle.tickets is.ticket (rw is.first (0, omega arith, refl)));
  in_vain = in-vain-by now id question old middle new gives is;
  of_it = sym is.question_is;
}

-- ---- what is sent

-- one over datagrams
pub sends-datagram : (now id asked : ℕ) (waiting : List WaitingView) (old : QuestionsView) (new : Asking)
    → Resends now (max now asked) id old.datagrams new → SendsAfter now asked id waiting old (with_over Datagram new old)
sends-datagram now id asked waiting old new it = record {
  middle = with_over Datagram it.middle old;
  gives_up = record { datagrams = it.gives_up; streams = gives-up-not now old.streams };
  sends = again-sent Datagram new it.octets it.over it.resent refl;
}

-- one over streams, after some over datagrams were given up
pub sends-stream : (now id asked : ℕ) (waiting : List WaitingView) (old : QuestionsView) (datagrams streams : Asking)
    → GivesUp now old.datagrams datagrams → Resends now (max now asked) id old.streams streams
    → SendsAfter now asked id waiting old (record { datagrams = datagrams; streams = streams })
sends-stream now id asked waiting old datagrams streams gives it = record {
  middle = record { datagrams = datagrams; streams = it.middle };
  gives_up = record { datagrams = gives; streams = it.gives_up };
  sends = again-sent Stream streams it.octets it.over it.resent refl;
}

pub sends-both : (now asked : ℕ) (waiting : List WaitingView) (old : QuestionsView) (datagrams streams : Asking) (found : Option ℕ)
    → GivesUp now old.datagrams datagrams
    → MatchOption found (GivesUp now old.streams streams) (λ id. Resends now (max now asked) id old.streams streams)
    → MatchOption found (GivesUpBoth now old (record { datagrams = datagrams; streams = streams }))
    (λ id. SendsAfter now asked id waiting old (record { datagrams = datagrams; streams = streams }))
sends-both now asked waiting old datagrams streams None gives it = record { datagrams = gives; streams = it }
sends-both now asked waiting old datagrams streams (Some id) gives it =
    sends-stream now id asked waiting old datagrams streams gives it

-- some are given up, and then one is sent or none
pub sends-then : (now asked : ℕ) (waiting : List WaitingView) (old middle new : QuestionsView) (found : Option ℕ)
    → GivesUpBoth now old middle → MatchOption found (new ≡ middle) (λ id. SendsFirst asked id waiting middle new)
    → MatchOption found (GivesUpBoth now old new) (λ id. SendsAfter now asked id waiting old new)
sends-then now asked waiting old middle new None gives it = rw it gives
sends-then now asked waiting old middle new (Some id) gives it = record { middle = middle; gives_up = gives; sends = first it }

-- ---- the schedule stays

pub schedule-resent : (now sent : ℕ) (old new : Asking) (found : Option ℕ)
    → MatchOption found (GivesUp now old new) (λ id. Resends now sent id old new) → new.schedule ≡ old.schedule
schedule-resent now sent old new None it = sym (schedule-left now old new it)
schedule-resent now sent old new (Some id) it =
    ap (λ (asking : Asking). asking.schedule) it.resent.left ∙ sym (schedule-left now old it.middle it.gives_up)

-- those over datagrams, and those over streams
abbrev pub HaveSame : QuestionsView → QuestionsView → Type 0
HaveSame old new = (old.datagrams.schedule ≡ new.datagrams.schedule) × (old.streams.schedule ≡ new.streams.schedule)

pub same-given : (now : ℕ) (old new : QuestionsView) → GivesUpBoth now old new → HaveSame old new
same-given now old new it =
    (schedule-left now old.datagrams new.datagrams it.datagrams, schedule-left now old.streams new.streams it.streams)

same-first : (over : DnsTransport) (id : ℕ) (question : Question) (asked : ℕ) (old new : QuestionsView)
    → new ≡ asked_over over id question asked old → HaveSame old new
same-first Datagram id question asked old new is = rw is (refl, refl)
same-first Stream id question asked old new is = rw is (refl, refl)

same-again : (over : DnsTransport) (asking : Asking) (octets : List ℕ) (now id : ℕ) (old new : QuestionsView)
    → IsResent (asking_over over old) asking now id octets → new ≡ with_over over asking old → HaveSame old new
same-again Datagram asking octets now id old new it is = rw is (rw it.left refl, refl)
same-again Stream asking octets now id old new it is = rw is (refl, rw it.left refl)

same-one : (now asked id : ℕ) (waiting : List WaitingView) (old new : QuestionsView) → SendsOne now asked id waiting old new
    → HaveSame old new
same-one now asked id waiting old new (first it) = same-first (over_of it.task) id it.question asked old new it.is_asked
same-one now asked id waiting old new (again-sent over asking octets due it is) =
    same-again over asking octets (max now asked) id old new it is

pub same-after : (now asked id : ℕ) (waiting : List WaitingView) (old new : QuestionsView) → SendsAfter now asked id waiting old new
    → HaveSame old new
same-after now asked id waiting old new it =
    let given = same-given now old it.middle it.gives_up in
    let sent = same-one now asked id waiting it.middle new it.sends in
    (given.0 ∙ sent.0, given.1 ∙ sent.1)

pub same-sent : (now asked : ℕ) (waiting : List WaitingView) (old new : QuestionsView) (transmit : Option Transmit)
    → Sends now asked waiting old new transmit → HaveSame old new
same-sent now asked waiting old new None it = same-given now old new it
same-sent now asked waiting old new (Some transmit) it = same-after now asked it.0 waiting old new it.1

-- so it was the same before
pub scheduled-before : (old new : QuestionsView) → HaveSame old new → IsScheduled new → IsScheduled old
scheduled-before old new same it = (same.1 ∙ it.0 ∙ sym same.0, (rw same.0 it.1))

-- ---- the one that is sent is out

abbrev ticket-of : Schedule → ℕ → Question → ℕ → Ticket
ticket-of schedule id question asked =
    record { sent = record { id = id; question = question; sends = 1 }; deadline = asked + schedule.wait }

module _ (p : Ticket → Bool) (ticket : Ticket) (back : List Ticket) (is : p ticket ≡ true) where
  found-by : (before : Option Ticket) → option_or before (find p (ticket ∷ back)) ≡ None → ⊥
  found-by None none = let there = rw is at none in cc
  found-by (Some other) none = cc

  found-in : (front : List Ticket) → find p (front ++ ticket ∷ back) ≡ None → ⊥
  found-in front none = found-by (find p front) (sym (find-append p front (ticket ∷ back)) ∙ none)

module _ (now asked id : ℕ) (waiting : List WaitingView) (old new : QuestionsView) (none : IsSent id new None) where
  -- a ticket of this id is among these
  is-there : (over : DnsTransport) (ticket : Ticket) (others : List Ticket) → has_id id ticket ≡ true
      → (asking_over over new).tickets ≡ waiting_too ticket others → ⊥
  is-there Datagram ticket others is there =
      found-in (has_id id) ticket _ is _ (rw there at none.0)
  is-there Stream ticket others is there =
      found-in (has_id id) ticket _ is _ (rw there at none.1)

  asked-there : (over : DnsTransport) (question : Question) → new ≡ asked_over over id question asked old → ⊥
  asked-there Datagram question is =
      is-there Datagram (ticket-of old.datagrams.schedule id question asked) old.datagrams.tickets (search rules) (rw is refl)
  asked-there Stream question is =
      is-there Stream (ticket-of old.streams.schedule id question asked) old.streams.tickets (search rules) (rw is refl)

  again-there : (over : DnsTransport) (asking : Asking) (octets : List ℕ) → IsResent (asking_over over old) asking (max now asked) id octets
      → new ≡ with_over over asking old → ⊥
  again-there Datagram asking octets it is =
      is-there Datagram (again old.datagrams.schedule (max now asked) it.ticket) it.others (search rules) (rw is (rw it.left refl))
  again-there Stream asking octets it is =
      is-there Stream (again old.streams.schedule (max now asked) it.ticket) it.others (search rules) (rw is (rw it.left refl))

  -- so its octets are there
  pub sent-there : SendsOne now asked id waiting old new → ⊥
  sent-there (first it) = asked-there (over_of it.task) it.question it.is_asked
  sent-there (again-sent over asking octets due it is) = again-there over asking octets it is

-- what is sent is what was counted as sent
pub sends-octets : (now asked id : ℕ) (waiting : List WaitingView) (old new : QuestionsView) (transmit : Option Transmit)
    → SendsAfter now asked id waiting old new → IsSent id new transmit → Sends now asked waiting old new transmit
sends-octets now asked id waiting old new None it sent = absurd (sent-there now asked id waiting it.middle new sent it.sends)
sends-octets now asked id waiting old new (Some transmit) it sent = (id, it, sent)

-- so there are octets
pub sends-some : (now asked id : ℕ) (waiting : List WaitingView) (old new : QuestionsView) (transmit : Option Transmit)
    → SendsAfter now asked id waiting old new → IsSent id new transmit → (P : Type 0) → IfNone transmit P
sends-some now asked id waiting old new None it sent P = absurd (sent-there now asked id waiting it.middle new sent it.sends)
sends-some now asked id waiting old new (Some transmit) it sent P = tt
