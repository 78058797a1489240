-- How often each question is sent, and for how long each query is waited for.
use Rattle.std.specs.Prelude.{◌≡◌, ◌+◌, ◌*◌, ◌-◌, ◌<◌, ◌≤◌, ◌^◌, ℕ, max, min, Option, Some, None}
use Rattle.dns_queries.specs.declared.schedule.Schedule.{Schedule}
use Rattle.dns_transport.specs.declared.attempts.Attempts.{Attempts}
use Rattle.dns_transport.specs.declared.reply_times.ReplyTimes.{ReplyTimes}
use Rattle.sipwhere_options.specs.declared.options.Options.{Options}

-- the number that words say, or else the file, or else the usual one
abbrev pub first_said : Option ℕ → Option ℕ → ℕ → ℕ
first_said (Some word) file usual = word
first_said None (Some said) usual = said
first_said None None usual = usual

-- the same, from 1 to a limit: a number beyond it is the limit
abbrev pub number_by : Option ℕ → Option ℕ → ℕ → ℕ → ℕ
number_by word file usual limit = max (min (first_said word file usual) limit) 1

-- the milliseconds of seconds
abbrev pub milliseconds_of : Option ℕ → Option ℕ
milliseconds_of None = None
milliseconds_of (Some seconds) = Some (seconds * 1000)

-- A question is sent as often as words say, or else as often as follows from the file, or else
-- three times. A query is waited for as many milliseconds as words say, or else as many seconds as
-- the file, or else a second.
pub record AreAttempts (options : Options) (timeout sends : Option ℕ) (attempts : Attempts) : Type 0
  where
    pub count_is : attempts.count ≡ number_by options.timing.tries sends 3 15
    pub time_is : attempts.time
        ≡ number_by options.timing.timeout (milliseconds_of timeout) 1000 60000

-- how often a question is sent, where a file says how often each of its servers is asked, to the
-- greatest number of 64 bits
abbrev pub sends_of : Option ℕ → ℕ → Option ℕ
sends_of None servers = None
sends_of (Some attempts) servers = Some (min (attempts * servers) (2 ^ 64 - 1))

-- A resolver waits as often, and each time the least whole seconds in which the milliseconds are
-- over.
pub record IsScheduleOf (attempts : Attempts) (schedule : Schedule) : Type 0 where
  pub sends_are : schedule.sends ≡ attempts.count
  pub enough : attempts.time ≤ schedule.wait * 1000
  pub least : schedule.wait * 1000 < attempts.time + 1000

-- How many milliseconds a reply is waited for, where queries are sent so: a reply in a datagram for
-- as long as all sends together, and one over TCP for a second more than a send is waited for.
pub record AreReplyTimes (attempts : Attempts) (times : ReplyTimes) : Type 0 where
  pub over_udp_is : times.over_udp ≡ attempts.count * attempts.time
  pub over_tcp_is : times.over_tcp ≡ attempts.time + 1000
