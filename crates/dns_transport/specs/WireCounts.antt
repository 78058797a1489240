-- How much went over a wire.
use Rattle.std.specs.Prelude.{ℕ, ◌+◌, ◌-◌, ◌^◌, min, Bool, not, true, false}
use Rattle.dns_transport.specs.declared.wire_counts.WireCounts.{WireCounts}

abbrev pub one_if : Bool → ℕ
one_if true = 1
one_if false = 0

-- so many more, as far as 64 bits go
abbrev pub more : ℕ → ℕ → ℕ
more count many = min (count + many) (2 ^ 64 - 1)

-- nothing went over a wire
abbrev pub none : WireCounts
none = record { questions = 0; again = 0; over_tcp = 0; replies = 0 }

-- a query is a question the first time, and goes out again else
abbrev pub with_query : Bool → Bool → WireCounts → WireCounts
with_query is_first over_tcp counts = record counts {
  questions = more counts.questions (one_if is_first);
  again = more counts.again (one_if (not is_first));
  over_tcp = more counts.over_tcp (one_if over_tcp);
}

abbrev pub with_reply : WireCounts → WireCounts
with_reply counts = record counts { replies = more counts.replies 1 }
