-- How often each of the competing records is picked (RFC 2782, "Weight").
use Rattle.std.specs.Prelude.{ℕ, ◌+◌, ◌==◌, Bool, false, List, count_by}
use Rattle.std.specs.List.{range_with_len}
use Rattle.std.specs.Option.{option_map_or}
use Rattle.dns_message.specs.declared.srv.SrvRecord.{SrvRecord}
use Rattle.srv_choice.specs.SrvOrder.{pick, weight_sum}

module _ (records : List SrvRecord) where
  -- a number picks this record
  abbrev pub is_picked : List ℕ → ℕ → ℕ → Bool
  is_picked indexes index number =
      option_map_or (λ picked. picked == index) (pick records indexes number) false

  -- how many of the numbers from 0 to the sum of the weights pick this record
  abbrev pub chances : List ℕ → ℕ → ℕ
  chances indexes index =
      count_by (is_picked indexes index) (range_with_len 0 (weight_sum records indexes + 1))
