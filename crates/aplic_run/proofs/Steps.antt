-- One call: the table after it, and the words that are told of it. Assumes nothing.
use Prim.Native.Nat.{ℕ}
use mathlib.Core.Bool.{Bool, true, false}
use mathlib.Core.Path.{◌≡◌, refl, sym, ap, ◌∙◌}
use lib.Dec.{ltb}
use Rattle.std.specs.Prelude.{Option, Result}
use Rattle.memory.specs.Choice.{pick}
use Rattle.word.specs.Word.{digit, is_source}
use Rattle.refusal.specs.declared.Refusal.{Refusal}
use Rattle.hart.specs.Hart.{hart_refusal, in_domain}
use Rattle.source.specs.Table.{Table}
use Rattle.aplic.specs.declared.Domain.{Domain}
use Rattle.aplic.specs.Domain.{table_of}
use Rattle.aplic_calls.specs.declared.Msi.{Msi}
use Rattle.aplic_calls.specs.declared.Call.{Call}
use Rattle.aplic_calls.specs.declared.Call.TheVariants.{Wire, Read, Forward, Claim, Signal}
use Rattle.aplic_calls.specs.Calls.{wire_table, wire_refusal, read_table, after_read, forward_table, sent_of}
use Rattle.aplic_calls.specs.Direct.{claimed, claim_value, signalled}
use Rattle.aplic_calls.specs.Run.{value, sent, after, answer}
use Rattle.aplic_calls.proofs.Claims.{serve_past, unserved-value, unserved-signal}
use Rattle.aplic_run.specs.declared.Reply.{Reply}
use Rattle.aplic_run.specs.Words.{short, pair, wired_reply, claimed_reply, signalled_reply, reply_of}

module _ (t : Table) (c : Call) where
  -- ---- the table after it
  module _ (x y : Domain) (e : x ≡ y) where
    pub wire-goes : (n : ℕ) (level : Bool) → c ≡ Wire n level → table_of y ≡ wire_table n level t → table_of x ≡ after t c
    wire-goes n level h p = rw (e, h, p)

    pub read-goes : (o : ℕ) → c ≡ Read o → table_of y ≡ after_read o t → table_of x ≡ after t c
    read-goes o h p = rw (e, h, p)

    pub forward-goes : c ≡ Forward → table_of y ≡ forward_table t → table_of x ≡ after t c
    forward-goes h p = rw (e, h, p)

    pub claim-goes : (h : ℕ) → c ≡ Claim h → table_of y ≡ claimed h t → table_of x ≡ after t c
    claim-goes h k p = rw (e, k, p)

    pub signal-goes : (h : ℕ) → c ≡ Signal h → table_of y ≡ t → table_of x ≡ after t c
    signal-goes h k p = rw (e, k, p)

  -- ---- and its answer
  module _ (r : Reply) where
    pub read-told : (o v : ℕ) → c ≡ Read o → v ≡ read_table o t → r ≡ reply_of (value v) → r ≡ reply_of (answer t c)
    read-told o v e p q = rw (e, q, p)

    pub forward-told : (s : Option Msi) → c ≡ Forward → s ≡ sent_of t → r ≡ reply_of (sent s) → r ≡ reply_of (answer t c)
    forward-told s e p q = q ∙ ap (λ (x : Option Msi). reply_of (sent x)) p ∙ ap (λ (x : Call). reply_of (answer t x)) (sym e)

    pub wire-told : (n : ℕ) (level : Bool) (a : Result Unit Refusal) → c ≡ Wire n level → a ≡ in_domain (is_source n) tt → r ≡ wired_reply a → r ≡ reply_of (answer t c)
    unfolding wire_refusal
    wire-told n level a e p q = rw (e, q, p) (go (is_source n))
      where
        go : (b : Bool) → wired_reply (in_domain b tt) ≡ short 0 (pick b 0 2014)
        go true = refl
        go false = refl

    pub claim-told : (h : ℕ) (a : Result ℕ Refusal) → c ≡ Claim h → a ≡ in_domain (ltb h 16) (claim_value h t) → r ≡ claimed_reply a → r ≡ reply_of (answer t c)
    unfolding hart_refusal
    claim-told h a e p q = rw (e, q, p) (go (ltb h 16) refl)
      where
        go : (b : Bool) → ltb h 16 ≡ b → claimed_reply (in_domain b (claim_value h t)) ≡ pair 5 (pick b 0 2014) (claim_value h t)
        go true k = refl
        go false k = ap (pair 5 2014) (unserved-value t h (serve_past t h k))

    pub signal-told : (h : ℕ) (a : Result Bool Refusal) → c ≡ Signal h → a ≡ in_domain (ltb h 16) (signalled h t) → r ≡ signalled_reply a → r ≡ reply_of (answer t c)
    unfolding hart_refusal
    signal-told h a e p q = rw (e, q, p) (go (ltb h 16) refl)
      where
        go : (b : Bool) → ltb h 16 ≡ b → signalled_reply (in_domain b (signalled h t)) ≡ pair 6 (pick b 0 2014) (digit (signalled h t))
        go true k = refl
        go false k = ap (λ (x : Bool). pair 6 2014 (digit x)) (unserved-signal t h (serve_past t h k))

pub ruleset steps = (wire-goes, read-goes, forward-goes, claim-goes, signal-goes, read-told, forward-told, wire-told, claim-told, signal-told)
