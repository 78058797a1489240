-- What goes out.
use Rattle.std.proofs.Common.{◌≡◌, ℕ, Bool, List, [], ◌∷◌, ◌++◌, ap, ◌∙◌}
use Rattle.dns_transport.specs.Deadlines.{IsAfter, time_over}
use Rattle.dns_transport.specs.Sends.{GoesOut}
use Rattle.dns_transport.specs.declared.exchange.Exchange.{Exchange}
use Rattle.dns_transport.specs.declared.query.Query.{Query}
use Rattle.dns_transport.specs.declared.reply_times.ReplyTimes.{ReplyTimes}
use Rattle.dns_transport.specs.declared.route.Route.{Route}

-- a query was put behind those that are out
pub record IsPut (query : Query) (old new : List Exchange) : Type 0 where
  pub key : ℕ
  pub shared : Bool
  pub behind : new ≡ old ++ record { key = key; shared = shared; query = query } ∷ []

pub goes_out : {shows : ℕ → Type 0} (times : ReplyTimes) (number : ℕ) (octets : List ℕ) (way : Route) (start old new : List Exchange)
    (query : Query) → IsPut query old new → old ≡ start → query.number ≡ number → query.octets.items ≡ octets → query.route ≡ way
    → IsAfter shows (time_over times way.over_tcp) query.deadline → GoesOut shows times number octets way start new
goes_out times number octets way start old new query put before number-is octets-are way-is waits = record {
  exchange = record { key = put.key; shared = put.shared; query = query };
  out = put.behind
      ∙ ap (λ (out : List Exchange). out ++ record { key = put.key; shared = put.shared; query = query } ∷ []) before;
  number_is = number-is;
  octets_are = octets-are;
  way_is = way-is;
  waits = waits;
}
