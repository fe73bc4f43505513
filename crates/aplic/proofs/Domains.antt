-- The domain by value: its words are 87, they are made as the start, and a hart that it refuses changes nothing. Assumes nothing.
use mathlib.Core.Path.{◌≡◌, refl, sym, ap, ◌∙◌}
use mathlib.Core.Bool.{Bool, true, false}
use mathlib.Core.List.{List, map}
use Prim.Native.Nat.{ℕ, ◌<◌, ◌≤◌}
use native.Mathlib.Omega.{arith}
use borrow.Author.Tests.{eq-eqb, ne_eqb}
use lib.ListN.{set, length, replicate, length-map}
use Rattle.memory.proofs.Choices.{yes-is, no-is}
use Rattle.hart.specs.declared.Hart.{Hart}
use Rattle.word.specs.Word.{digit}
use Rattle.hart.specs.Hart.{unforced}
use Rattle.source.specs.declared.Delivery.{Delivery}
use Rattle.source.specs.declared.Delivery.TheVariants.{Direct, Message}
use Rattle.source.specs.Source.{direct_of}
use Rattle.source.specs.Table.{start_of}
use Rattle.aplic_calls.specs.Direct.{serves, topi, claim_hart}
use Rattle.aplic_calls.proofs.Claims.{serve-err, unserved-topi, unserved-table, unserved-hart, unserved-claim, unserved-value, unserved-signal}
use Rattle.aplic_words.specs.State.{delivery_in, table_in, mode_word, made_of}
use Rattle.aplic_words.proofs.States.{served, unserved, made_start}
use Rattle.aplic.specs.declared.Domain.{Domain}
use Rattle.aplic.specs.Domain.{table_of}

pub long : {X Y : Type 0} (f : X → Y) (l : List X) → length (map f l) ≡ 87 → 87 ≤ length l
long f l e = omega (arith, sym (length-map l f) ∙ e)

pub born : (d : Delivery) (b : Bool) (m : ℕ) → b ≡ direct_of d → m ≡ digit b → table_of (record { words = set (replicate 87 0) 7 m }) ≡ start_of d
unfolding table_of made_of
born d b m h e = ap (λ (w : ℕ). table_in (set (replicate 87 0) 7 w)) (e ∙ ap digit h ∙ go d) ∙ made_start d 87 (omega arith)
  where
    go : (d : Delivery) → digit (direct_of d) ≡ mode_word d
    go Direct = refl
    go Message = refl

-- ---- the record of a hart after its claim
module _ (d : Domain) (h : ℕ) (x : Hart) (v : ℕ) (below : h < 16) (hv : v ≡ topi h x.threshold (table_of d)) (m : Delivery) (hm : m ≡ delivery_in d.words) (b : Bool) (hb : b ≡ direct_of m) where
  module _ (e : b ≡ true) where
    here : serves h (table_of d) ≡ true
    unfolding table_of
    here = served d.words m hm b hb h below e

    pub after_none : (y : Hart) → v ≡ 0 → y ≡ unforced x → y ≡ claim_hart h x (table_of d)
    unfolding claim_hart
    after_none y z q = yes-is _ _ _ _ here (yes-is _ _ _ _ (eq-eqb _ _ (sym hv ∙ z)) q)

    pub after-some : (v ≡ 0 → ⊥) → x ≡ claim_hart h x (table_of d)
    unfolding claim_hart
    after-some z = yes-is _ _ _ _ here (no-is _ _ _ _ (ne_eqb _ _ (λ q. z (hv ∙ q))) refl)

  pub after-message : b ≡ false → x ≡ claim_hart h x (table_of d)
  unfolding table_of
  after-message e = unserved-hart (table_of d) h (unserved d.words m hm b hb h below e) x

pub ruleset after = (after_none, after-some, after-message)

-- ---- what is told of a hart's number
pub ruleset refused = (serve-err, unserved-topi, unserved-table, unserved-hart, unserved-claim, unserved-value, unserved-signal)
