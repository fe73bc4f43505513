-- A choice by a test.
use Rattle.std.specs.Prelude.{Bool, true, false, List, [], ◌∷◌}

-- the first where the test holds, else the second
abbrev pub pick : {A : Type 0} → Bool → A → A → A
pick true a b = a
pick false a b = b

-- whether some test of a list holds
abbrev pub any : List Bool → Bool
any [] = false
any (b ∷ bs) = pick b true (any bs)
