-- THE RUN CLAIM of the C functions: on words as a caller makes them they answer as the table of separate sources and harts does, in both delivery modes. Assumes nothing.
use Prim.Native.Nat.{ℕ, zero, suc, ◌≤◌}
use mathlib.Core.Bool.{Bool, true, false, not}
use mathlib.Core.List.{List, [], ◌∷◌}
use mathlib.Core.Path.{◌≡◌, refl, ap, ap₂, ◌∙◌}
use native.Mathlib.Omega.{arith}
use borrow.Author.Tests.{le-ltb}
use lib.Dec.{eqb}
use lib.ListN.{get_or, length, set}
use Rattle.word.specs.Word.{digit}
use Rattle.hart.specs.Hart.{hart_refusal}
use Rattle.source.specs.declared.Delivery.{Delivery}
use Rattle.source.specs.Table.{Table, start_of}
use Rattle.std.specs.Prelude.{Option, Some, None}
use Rattle.aplic_calls.specs.declared.Msi.{Msi}
use Rattle.aplic_calls.specs.declared.Call.{Call}
use Rattle.aplic_calls.specs.Calls.{wire_table, wire_refusal}
use Rattle.aplic_calls.specs.Direct.{claimed, claim_value, signalled}
use Rattle.aplic_calls.specs.Run.{Answer, refusal, value, sent, took, asserted, answer, after, answers, after_all, Ran, end, next}
use Rattle.aplic_calls.proofs.Tables.{unwired_table}
use Rattle.aplic_calls.proofs.Claims.{serve_refused, unserved-claim, unserved-value, unserved-signal}
use Rattle.aplic_calls.proofs.Runs.{run-claim}
use Rattle.aplic_words.specs.State.{made_of, table_in}
use Rattle.aplic_words.proofs.States.{made_start}
use Rattle.capi_room.specs.Room.{status}
use Rattle.capi_aplic.specs.Wired.{domain_status, room_status, under_status, with_sent}
use Rattle.capi_aplic_run.specs.Runs.{sent_in, Called, yasmurekh_aplic_wire, yasmurekh_aplic_write, yasmurekh_aplic_read, yasmurekh_aplic_forward, yasmurekh_aplic_claim, yasmurekh_aplic_signal, Calls}
use Rattle.capi_aplic_run.specs.Runs as R

-- a state that is long enough has the status that the call tells
told_itself : (state : List ℕ) (t : ℕ) → 87 ≤ length state → domain_status state t ≡ t
unfolding domain_status
told_itself state t h = simp (le-ltb (length state) 87 h)

has_room : (n : ℕ) (out : List ℕ) → n ≤ length out → status n out ≡ 0
unfolding status
has_room n out h = simp (le-ltb (length out) n h)

done-under : {A : Type 0} (r : ℕ) (x y : A) → r ≡ 0 → under_status r x y ≡ y
unfolding under_status
done-under r x y e = ap (λ (k : ℕ). under_status k x y) e

-- a refused wire does to the table what a wire that is none does
wired-under : (t : Table) (n r : ℕ) (level : Bool) → r ≡ wire_refusal n → under_status r t (wire_table n level t) ≡ wire_table n level t
unfolding under_status
wired-under t n zero level e = refl
wired-under t n (suc r) level e = unwired_table t n (suc r) level e (λ k. omega (arith, k))

set_there : (out : List ℕ) (v : ℕ) → 1 ≤ length out → get_or (set out 0 v) 0 0 ≡ v
set_there [] v h = absurd (omega arith)
set_there (x ∷ out) v h = refl

-- four words say what was put into them
sent-there : (out : List ℕ) (s : Option Msi) → 4 ≤ length out → sent_in (with_sent out s) ≡ s
unfolding with_sent
sent-there [] s h = absurd (omega arith)
sent-there (a ∷ []) s h = absurd (omega arith)
sent-there (a ∷ b ∷ []) s h = absurd (omega arith)
sent-there (a ∷ b ∷ c ∷ []) s h = absurd (omega arith)
sent-there (a ∷ b ∷ c ∷ d ∷ out) None h = refl
sent-there (a ∷ b ∷ c ∷ d ∷ out) (Some m) h = refl

-- a hart's number that is refused does nothing to the table and tells nothing
in_room : (out : List ℕ) (t : ℕ) → 1 ≤ length out → room_status 1 out t ≡ t
unfolding room_status
in_room out t h = simp (le-ltb (length out) 1 h)

module _ (out told : List ℕ) (h : ℕ) (t : Table) (room : 1 ≤ length out) where
  took-under : (r : ℕ) → r ≡ hart_refusal h → told ≡ under_status r out (set out 0 (claim_value h t)) → under_status r 0 (get_or told 0 0) ≡ claim_value h t
  unfolding under_status
  took-under zero e q = ap (λ (k : List ℕ). get_or k 0 0) q ∙ set_there out _ room
  took-under (suc r) e q = unserved-value t h (serve_refused t h (suc r) e (λ z. omega (arith, z)))

  claimed-under : (r : ℕ) → r ≡ hart_refusal h → under_status r t (claimed h t) ≡ claimed h t
  unfolding under_status
  claimed-under zero e = refl
  claimed-under (suc r) e = unserved-claim t h (serve_refused t h (suc r) e (λ z. omega (arith, z)))

  flag-back : (b : Bool) → not (eqb (digit b) 0) ≡ b
  flag-back true = refl
  flag-back false = refl

  signalled-under : (r : ℕ) → r ≡ hart_refusal h → told ≡ under_status r out (set out 0 (digit (signalled h t))) → under_status r false (not (eqb (get_or told 0 0) 0)) ≡ signalled h t
  unfolding under_status
  signalled-under zero e q = ap (λ (k : List ℕ). not (eqb (get_or k 0 0) 0)) q ∙ ap (λ (n : ℕ). not (eqb n 0)) (set_there out _ room) ∙ flag-back (signalled h t)
  signalled-under (suc r) e q = unserved-signal t h (serve_refused t h (suc r) e (λ z. omega (arith, z)))

one : {state left : List ℕ} {c : Call} {a : Answer} → 87 ≤ length state → Called state c a left → (a ≡ answer (table_in state) c) × (table_in left ≡ after (table_in state) c)
one {state} l (yasmurekh_aplic_wire source level r left told table) =
    let e : r ≡ wire_refusal source = told ∙ told_itself state (wire_refusal source) l in
    (ap refusal e, table ∙ wired-under (table_in state) source r (not (eqb level 0)) e)
one {state} l (yasmurekh_aplic_write offset v r left told table) = (refl, table ∙ done-under r _ _ (told ∙ told_itself state 0 l))
one {state} l (yasmurekh_aplic_read offset r out told left room e words table) =
    let z : r ≡ 0 = e ∙ told_itself state (status 1 out) l ∙ has_room 1 out room in
    (ap (λ (k : List ℕ). value (get_or k 0 0)) (words ∙ done-under r _ _ z) ∙ ap value (set_there out _ room), table ∙ done-under r _ _ z)
one {state} l (yasmurekh_aplic_forward r out told left room e words table) =
    let z : r ≡ 0 = e ∙ told_itself state (status 4 out) l ∙ has_room 4 out room in
    (ap (λ (k : List ℕ). sent (sent_in k)) (words ∙ done-under r _ _ z) ∙ ap sent (sent-there out _ room), table ∙ done-under r _ _ z)
one {state} l (yasmurekh_aplic_claim hart r out told left room e words table) =
    let q : r ≡ hart_refusal hart = e ∙ told_itself state (room_status 1 out (hart_refusal hart)) l ∙ in_room out (hart_refusal hart) room in
    (ap₂ (λ (a b : ℕ). took a b) q (took-under out told hart (table_in state) room r q words), table ∙ claimed-under out told hart (table_in state) room r q)
one {state} l (yasmurekh_aplic_signal hart r out told left room e words same) =
    let q : r ≡ hart_refusal hart = e ∙ told_itself state (room_status 1 out (hart_refusal hart)) l ∙ in_room out (hart_refusal hart) room in
    (ap₂ (λ (a : ℕ) (b : Bool). asserted a b) q (signalled-under out told hart (table_in state) room r q words), ap table_in same)

ran : {state z : List ℕ} {cs : List Call} {xs : List Answer} → Calls state cs xs z → Ran table_in state cs xs z
ran R.end = end
ran (R.next l c r) = let p = one l c in next p.0 p.1 (ran r)

-- any number of words, any calls, both delivery modes
pub lent-run : (d : Delivery) (n : ℕ) → 87 ≤ n → {z : List ℕ} {cs : List Call} {xs : List Answer} → Calls (made_of d n) cs xs z → (xs ≡ answers (start_of d) cs) × (table_in z ≡ after_all (start_of d) cs)
lent-run d n l r = run-claim d (made_start d n l) (ran r)
