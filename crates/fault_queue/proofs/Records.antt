-- Records in their slots. Assumes nothing.
use Prim.Native.Nat.{ℕ, ◌+◌, ◌-◌, ◌*◌}
use mathlib.Core.List.{List, ◌++◌, append_assoc, append-nil}
use mathlib.Core.Path.{◌≡◌, refl, sym, ap, ◌∙◌}
use native.Mathlib.Omega.{arith}
use borrow.Rule.Slice.PartMut.{put_mid, post_of, Post-is}
use lib.ListN.{length, take, drop, length-append, drop_of_length-le}
use lib.Seq.{take_at, drop_at, drop-drop}
use Rattle.memory.specs.Code.{eight}
use Rattle.memory.specs.Window.{doubleword}
use Rattle.fault_queue.specs.declared.FaultRecord.{FaultRecord}
use Rattle.fault_queue.specs.Queue.{record_bytes, put_record, record_at}

eight-long : (v : ℕ) → length (eight v) ≡ 8
unfolding eight
eight-long v = refl

-- one more doubleword behind those that are put
next-put : (n : ℕ) (p xs : List ℕ) (v : ℕ) (ys : List ℕ) → length p ≡ n → ys ≡ eight v → put_mid n 8 (p ++ drop n xs) ys ≡ (p ++ eight v) ++ drop (n + 8) xs
next-put n p xs v ys l e =
    rw (e, take_at p (drop n xs) n l, drop_at p (drop n xs) n l, drop-drop 8 n xs) (sym (append_assoc p (eight v) (drop (n + 8) xs)))

-- four of them in a slot
pub four_put : (xs : List ℕ) (r : FaultRecord) (a b c d : List ℕ) → length xs ≡ 32 → a ≡ eight r.transaction → b ≡ eight r.custom → c ≡ eight r.iotval → d ≡ eight r.iotval2
    → put_mid 24 8 (put_mid 16 8 (put_mid 8 8 (a ++ post_of 0 8 xs) b) c) d ≡ record_bytes r
unfolding record_bytes
four_put xs r a b c d l ea eb ec ed =
    let t = eight r.transaction in
    let s = t ++ eight r.custom in
    let u = s ++ eight r.iotval in
    let ls : length s ≡ 16 = simp (length-append, eight-long) in
    let lu : length u ≡ 24 = simp (length-append, eight-long) in
    ap (λ z. put_mid 24 8 (put_mid 16 8 (put_mid 8 8 (z ++ drop 8 xs) b) c) d) ea
    ∙ ap (λ z. put_mid 24 8 (put_mid 16 8 z c) d) (next-put 8 t xs r.custom b (eight-long r.transaction) eb)
    ∙ ap (λ z. put_mid 24 8 z d) (next-put 16 s xs r.iotval c ls ec)
    ∙ next-put 24 u xs r.iotval2 d lu ed
    ∙ rw (drop_of_length-le xs {i = 32} (omega arith), append-nil)

-- the slot's bytes, put back into the queue's
pub slot_put : (xs : List ℕ) (i : ℕ) (r : FaultRecord) (ys : List ℕ) → ys ≡ record_bytes r → put_mid (32 * i) (32 * i + 32 - 32 * i) xs ys ≡ put_record xs i r
unfolding put_record
slot_put xs i r ys e = rw (e, Post-is (32 * i) (32 * i + 32) xs (omega arith)) (sym (append_assoc (take (32 * i) xs) (record_bytes r) (drop (32 * i + 32) xs)))

-- what is read of a slot
pub record_read : (xs : List ℕ) (i a b c d : ℕ) → a ≡ doubleword xs (32 * i) → b ≡ doubleword xs (32 * i + 8) → c ≡ doubleword xs (32 * i + 16) → d ≡ doubleword xs (32 * i + 24)
    → record { transaction = a; custom = b; iotval = c; iotval2 = d } ≡ record_at xs i
record_read xs i a b c d ea eb ec ed = rw (ea, eb, ec, ed)
