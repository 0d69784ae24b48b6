-- Lent memory after a call.
use Rattle.std.specs.Prelude.{List, ◌++◌, ℕ, ◌+◌, length, take, drop}

module _ {A : Type 0} where
  -- the records, then what stood behind them; where there are no records, all as it was
  unfoldable pub laid : List A → List A → List A
  laid records old = records ++ drop (length records) old

  -- the records from an index on, before and behind them what stood there
  unfoldable pub placed : List A → ℕ → List A → List A
  placed old at records = take at old ++ (records ++ drop (at + length records) old)
