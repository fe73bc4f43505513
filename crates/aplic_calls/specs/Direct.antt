-- Direct delivery: a hart's top interrupt, its claim and its signal, after document 002, section 4.1.8.
use Rattle.std.specs.Prelude.{ℕ, ◌%◌, Bool, true, false, not, ◌&&◌, ◌||◌, eqb, ltb}
use Rattle.memory.specs.Bits.{bits}
use Rattle.memory.specs.Choice.{pick}
use Rattle.word.specs.Word.{is_source, only, digit, lowest}
use Rattle.register.specs.declared.HartRegister.{HartRegister}
use Rattle.register.specs.declared.HartRegister.TheVariants.{IDelivery, IForce, IThreshold, TopI}
use Rattle.register.specs.declared.Idc.{Idc}
use Rattle.register.specs.declared.Idc.TheVariants.{OfHart, ClaimI, Reserved}
use Rattle.hart.specs.declared.Hart.{Hart}
use Rattle.hart.specs.Hart.{wrote_of, unforced, hart_index, priority, passes, key_of, keys, top_word}
use Rattle.source.specs.declared.Delivery.{Delivery}
use Rattle.source.specs.declared.Source.{Source}
use Rattle.source.specs.Source.{handed, direct_of}
use Rattle.source.specs.Table.{Table, act}

-- harts are 0 to 15 and have a record in direct delivery: "a target's hart index above 15 .. reaches no hart", "in message mode hart registers read zero and ignore writes" (02)
unfoldable pub serves : ℕ → Table → Bool
serves h t = ltb h 16 && direct_of t.delivery

-- with another record for hart h
unfoldable pub with_hart : ℕ → Hart → Table → Table
with_hart h x t = record { delivery = t.delivery; enable = t.enable; row = t.row; hart = λ k. pick (eqb k h) x (t.hart k) }

-- ---- the top interrupt (4.1.8.1.4)
-- a source that is "pending-and-enabled", "targeted to this hart" and "also exceeds the priority threshold". No word of the domain's enable or of idelivery:
-- "The value of topi is not affected by domaincfg.IE or by idelivery"
unfoldable pub contributes : ℕ → ℕ → Source → Bool
contributes h threshold s = (s.pending && s.enable) && (eqb (hart_index s.target) h && passes threshold (priority s.target))

-- k is the key of a source that contributes
unfoldable pub leads : ℕ → ℕ → Table → ℕ → Bool
leads h threshold t k = is_source (k % 64) && (contributes h threshold (t.row (k % 64)) && eqb (key_of (k % 64) (t.row (k % 64)).target) k)

-- the lowest such key as topi tells it
unfoldable pub top_at : ℕ → ℕ → Table → ℕ
top_at h threshold t = top_word (lowest keys 0 (leads h threshold t))

-- topi of hart h under a threshold
unfoldable pub topi : ℕ → ℕ → Table → ℕ
topi h threshold t = pick (serves h t) (top_at h threshold t) 0

-- ---- a claim (4.1.8.1.5)
-- "Register claimi has the same value as topi. When this value is not zero, reading claimi has the simultaneous side effect of clearing the pending bit for the
-- reported interrupt identity, if possible": that is what `handed` says. What a claim by hart h does to the sources
unfoldable pub claim_table : ℕ → ℕ → Table → Table
claim_table h threshold t = pick (eqb (topi h threshold t) 0) t (act (only (bits (topi h threshold t) 25 16)) (handed t.delivery) t)

-- and to its record x
unfoldable pub claim_hart : ℕ → Hart → Table → Hart
claim_hart h x t = pick (serves h t) (pick (eqb (topi h x.threshold t) 0) (unforced x) x) x

-- a claim by hart h with the record that the table has for it
unfoldable pub claimed : ℕ → Table → Table
claimed h t = pick (serves h t) (with_hart h (claim_hart h (t.hart h) t) (claim_table h (t.hart h).threshold t)) t

unfoldable pub claim_value : ℕ → Table → ℕ
claim_value h t = topi h (t.hart h).threshold t

-- ---- the other registers of a hart
unfoldable pub write_hart : ℕ → HartRegister → ℕ → Table → Table
write_hart h k v t = pick (serves h t) (with_hart h (wrote_of k v (t.hart h)) t) t

-- what a register of the record x tells, where topi is w
unfoldable pub tells : HartRegister → Hart → ℕ → ℕ
tells IDelivery x w = digit x.delivery
tells IForce x w = digit x.force
tells IThreshold x w = x.threshold
tells TopI x w = w

unfoldable pub read_hart : ℕ → HartRegister → Table → ℕ
read_hart h k t = pick (serves h t) (tells k (t.hart h) (top_at h (t.hart h).threshold t)) 0

-- ---- what is in the IDC structures (4.1.8.1)
-- "Writes to topi are ignored" is in `wrote_of`; "Writes to claimi are ignored"
unfoldable pub write_idc : Idc → ℕ → Table → Table
write_idc (OfHart h k) v t = write_hart h k v t
write_idc (ClaimI h) v t = t
write_idc Reserved v t = t

unfoldable pub ignores_idc : Delivery → Idc → Bool
ignores_idc d (OfHart h k) = not (direct_of d)
ignores_idc d (ClaimI h) = true
ignores_idc d Reserved = true

unfoldable pub read_idc : Idc → Table → ℕ
read_idc (OfHart h k) t = read_hart h k t
read_idc (ClaimI h) t = claim_value h t
read_idc Reserved t = 0

-- a read of claimi is a claim; no other register changes anything by being read
unfoldable pub claimed_by : Idc → Table → Table
claimed_by (OfHart h k) t = t
claimed_by (ClaimI h) t = claimed h t
claimed_by Reserved t = t

unfoldable pub claims : Delivery → Idc → Bool
claims d (OfHart h k) = false
claims d (ClaimI h) = direct_of d
claims d Reserved = false

-- ---- the signal (4.1.8.2)
-- "When domaincfg.IE = 1 and interrupt delivery is enabled (idelivery = 1), the interrupt signal is asserted whenever either register iforce or topi is not zero"; else it "is held de-asserted"
unfoldable pub signalled : ℕ → Table → Bool
signalled h t = serves h t && ((t.enable && (t.hart h).delivery) && ((t.hart h).force || not (eqb (claim_value h t) 0)))
