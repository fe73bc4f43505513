-- A run: a list of calls, and what the table of separate sources and harts answers to each.
use Rattle.std.specs.Prelude.{ℕ, Bool, List, [], ◌∷◌, ◌≡◌, Option}
use Rattle.source.specs.Table.{Table}
use Rattle.hart.specs.Hart.{hart_refusal}
use Rattle.aplic_calls.specs.declared.Call.{Call}
use Rattle.aplic_calls.specs.declared.Call.TheVariants.{Wire, Write, Read, Forward, Claim, Signal}
use Rattle.aplic_calls.specs.declared.Msi.{Msi}
use Rattle.aplic_calls.specs.Direct.{claimed, claim_value, signalled}
use Rattle.aplic_calls.specs.Calls.{wire_table, wire_refusal, write_table, read_table, after_read, forward_table, sent_of}

pub data Answer : Type 0 where
  refusal : ℕ → Answer
  done : Answer
  value : ℕ → Answer
  sent : Option Msi → Answer
  -- 0 or the refusal, and what claimi told
  took : ℕ → ℕ → Answer
  -- 0 or the refusal, and whether the hart is signalled
  asserted : ℕ → Bool → Answer

abbrev pub after : Table → Call → Table
after t (Wire n level) = wire_table n level t
after t (Write o v) = write_table o v t
after t (Read o) = after_read o t
after t Forward = forward_table t
after t (Claim h) = claimed h t
after t (Signal h) = t

abbrev pub answer : Table → Call → Answer
answer t (Wire n level) = refusal (wire_refusal n)
answer t (Write o v) = done
answer t (Read o) = value (read_table o t)
answer t Forward = sent (sent_of t)
answer t (Claim h) = took (hart_refusal h) (claim_value h t)
answer t (Signal h) = asserted (hart_refusal h) (signalled h t)

-- what the table answers to a list of calls
abbrev pub answers : Table → List Call → List Answer
answers t [] = []
answers t (c ∷ cs) = answer t c ∷ answers (after t c) cs

abbrev pub after_all : Table → List Call → Table
after_all t [] = t
after_all t (c ∷ cs) = after_all (after t c) cs

-- calls one after the other on states that stand for tables: each call has the answer and leaves the table that its routine's promise names
pub data Ran {S : Type 0} (table : S → Table) : S → List Call → List Answer → S → Type 0 where
  end : {s : S} → Ran table s [] [] s
  next : {s e z : S} {c : Call} {a : Answer} {cs : List Call} {xs : List Answer} → a ≡ answer (table s) c → table e ≡ after (table s) c → Ran table e cs xs z → Ran table s (c ∷ cs) (a ∷ xs) z
