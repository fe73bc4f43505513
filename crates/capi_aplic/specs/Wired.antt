-- The domain for C: 87 lent words, and numbers for what its calls answer. Nothing of a call's meaning stands here.
use Rattle.std.specs.Prelude.{ℕ, zero, suc, List, ltb, length, set, Option, Some, None}
use Rattle.memory.specs.Choice.{pick}
use Rattle.aplic_calls.specs.declared.Msi.{Msi}

-- the status of a call: 1 where the state has fewer than 87 words, else what the call itself tells
unfoldable pub domain_status : List ℕ → ℕ → ℕ
domain_status state told = pick (ltb (length state) 87) 1 told

-- 1 where `out` has fewer than n words, else what the call itself tells
unfoldable pub room_status : ℕ → List ℕ → ℕ → ℕ
room_status n out told = pick (ltb (length out) n) 1 told

-- what a call leaves: under status 0 what it does, else what was there
unfoldable pub under_status : {A : Type 0} → ℕ → A → A → A
under_status zero before after = after
under_status (suc r) before after = before

-- four words: 1 and hart index, guest index, identity; four zeros where nothing is forwarded
unfoldable pub with_sent : List ℕ → Option Msi → List ℕ
with_sent out None = set (set (set (set out 0 0) 1 0) 2 0) 3 0
with_sent out (Some m) = set (set (set (set out 0 1) 1 m.hart) 2 m.guest) 3 m.identity
