-- A load's result.
use Rattle.std.specs.Prelude.{ℕ}
use Rattle.std.specs.declared.option.Option.{Option}

-- the doubleword that was read; None is an access violation
abbrev pub Load : Type 0
Load = Option ℕ
