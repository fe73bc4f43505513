-- THE LEDGER CLOSES: demand 3, of any list of calls, any starts and any bytes of both windows; of any machine that is faithful to the routines. Assumes nothing.
use Prim.Native.Nat.{ℕ, ◌+◌, ◌*◌, ◌<◌}
use mathlib.Core.Path.{◌≡◌, refl, sym, ap, subst, ◌∙◌}
use mathlib.Core.Logic.{◌↔◌}
use mathlib.Core.Bool.{true, ◌&&◌}
use mathlib.Core.List.{List, [], ◌∷◌, ◌++◌}
use native.Mathlib.Omega.{arith}
use lib.Dec.{eqb}
use Rattle.std.specs.Prelude.{Ok}
use Rattle.word.specs.Word.{contains, word_of}
use Rattle.word.proofs.Bits.{word_ext}
use Rattle.interrupt_file.specs.File.{taken_of}
use Rattle.message.specs.declared.Destination.{Destination}
use Rattle.memory.specs.Window.{Lent, holds}
use Rattle.interrupt_file.proofs.Pending.{pending_lt}
use Rattle.iommu_refusals.specs.declared.DeviceRequest.{DeviceRequest}
use Rattle.iommu_files.specs.declared.Answer.TheVariants.{Stored, Taken}
use Rattle.iommu_files.specs.declared.Numbers.{Numbers}
use Rattle.iommu_files.specs.Answers.{numbers, numbers_of}
use Rattle.iommu.specs.Operations.{Op, request, take, take_many, answer_of}
use Rattle.ledger.specs.Places.{Side, first_window, second_window, window_of, Place, place}
use Rattle.ledger.specs.Machine.{Asked, asks, asks_nothing, Machine, routines, left_by, history, AllGranted}
use Rattle.ledger.specs.Ledger.{Account, store, asked_event, pending_in, account_of}
use Rattle.ledger.specs.Sums.{Different, Places}
use Rattle.ledger.specs.Closes.{Closes, Changes, Adds, AllCounted, Storing, take_refused, take_many_refused, Refuses, notices_of, answer_at, after_at, call_at, pending_after}
use Rattle.ledger.proofs.Machine.{left_append, history_append, granted_at, granted_before, mark-kept, balance-kept}
use Rattle.ledger.proofs.Answering.{stored_iff, take-passed, take-taken, many-passed, many-taken, refused-told, many-refused-told, given, no-notice}
use Rattle.ledger.proofs.Keeping.{Faith, Faithful, Same, Held, same-held, step_same, list_same, step-quiet, keeps}
use Rattle.ledger.proofs.SumLaws.{total_add, total_ext}
use Rattle.ledger.proofs.Sides.{side-pending, side-answered}
use Rattle.ledger.proofs.Counting.{stores-counted, takes-counted}

-- what a faithful call answers to an operation
asked-answer : (k : Asked) (a : Numbers) (after l : Lent) (o : Op) → Faith k a after l → k ≡ asks o → a ≡ numbers_of (answer_of l o)
asked-answer k a after l o f e = (subst (λ (x : Asked). Faith x a after l) e f).0

silent_call : (k : Asked) (a : Numbers) (after l : Lent) → Faith k a after l → ((file n : ℕ) → asked_event file n k a ≡ store → ⊥) → notices_of a ≡ []
silent_call (asks o) a after l f h =
    ap notices_of f.0 ∙ no-notice l o (subst (λ (x : Numbers). (file n : ℕ) → asked_event file n (asks o) x ≡ store → ⊥) f.0 h)
silent_call asks_nothing a after l f h = ap notices_of f.0.1

-- of a faithful machine, each of whose steps has its premise
module _ {O : Type 0} (m : Machine O) (faith : Faithful m) (l : Lent) where
  abbrev a : List O → Place → ℕ → Account
  a ops p n = account_of m l ops p n

  module _ (ops : List O) (g : AllGranted m l ops) where
    balance-is : (p : Place) (n : ℕ) → Held p l → n < 2048 → pending_in l p n + (a ops p n).stores ≡ (a ops p n).takes + (a ops p n).merged + pending_after m l ops p n
    balance-is p n h ln = omega (arith, balance-kept m p n (Held p) (keeps m faith p n ln) l ops h g)

    pub mark-is : (p : Place) (n : ℕ) → Held p l → n < 2048 → pending_after m l ops p n ≡ (a ops p n).mark
    mark-is p n h ln = omega (arith, mark-kept m p n (Held p) (keeps m faith p n ln) l ops h g)

    places_of : (places : List Place) → AllCounted m l ops places → Places l places
    places_of [] c = tt
    places_of (p ∷ ps) c = (c.0.within, places_of ps c.1)

    adds : (places : List Place) → Different places → AllCounted m l ops places → Adds m l ops places
    adds places d c =
        record {
          balance = omega (
            arith,
            total_ext l places (λ p n. pending_in l p n + (a ops p n).stores)
                (λ p n. (a ops p n).takes + (a ops p n).merged + pending_after m l ops p n) (places_of places c) (λ p n h ln. balance-is p n h ln),
            total_add places (pending_in l) (λ p n. (a ops p n).stores),
            total_add places (λ p n. (a ops p n).takes + (a ops p n).merged) (pending_after m l ops),
            total_add places (λ p n. (a ops p n).takes) (λ p n. (a ops p n).merged),
          );
          stores = stores-counted places d m faith l ops (places_of places c) g;
          takes = takes-counted places d m faith l ops (places_of places c) g;
        }

  -- a call that comes after those of `before`
  module _ (before rest : List O) (o : O) (g : AllGranted m l (before ++ (o ∷ rest))) where
    abbrev here : Lent
    here = left_by m l before

    so_far : AllGranted m l before
    so_far = granted_before m l before (o ∷ rest) g

    faith_here : Faith (m.asked o) (m.answer here o) (m.after here o) here
    faith_here = faith here o (granted_at m l before rest o g)

    same : (s : Side) → Same l here s
    same s = list_same m faith l before so_far s

    calls_are : (history m l (before ++ (o ∷ rest)) ≡ history m l before ++ (call_at m l before o ∷ history m (after_at m l before o) rest))
        × (left_by m l (before ++ (o ∷ rest)) ≡ left_by m (after_at m l before o) rest)
    unfolding history left_by
    calls_are = (history_append m l before (o ∷ rest), left_append m l before (o ∷ rest))

    answered : (p : Op) → m.asked o ≡ asks p → answer_at m l before o ≡ numbers_of (answer_of here p)
    answered p e = asked-answer (m.asked o) (m.answer here o) (m.after here o) here p faith_here e

    stored_here : (mode root : ℕ) (q : DeviceRequest) (value : ℕ) (d : Destination) → m.asked o ≡ asks (request mode root q value)
        → (answer_at m l before o ≡ numbers_of (Stored d)) ↔ Storing here mode root q value d
    stored_here mode root q value d e =
        let i = stored_iff here mode root q value d in
        let w = answered (request mode root q value) e in
        (λ h. i.0 (sym w ∙ h), λ s. w ∙ i.1 s)

    -- a take's refusal before the list is its refusal at its place
    still_refused : (file n : ℕ) → take_refused here file n ≡ take_refused l file n
    still_refused file n =
        let p = same first_window in
        let q = same second_window in
        rw (p.place, p.long, q.place, q.long)

    many_still_refused : (file d : ℕ) → take_many_refused here file d ≡ take_many_refused l file d
    many_still_refused file d =
        let p = same first_window in
        let q = same second_window in
        rw (p.place, p.long, q.place, q.long)

    -- the answered bits are the marks that the mask has
    marked : (p : Place) (d mask : ℕ) → Held p l → d < 32
        → taken_of (window_of here p.side).start (window_of here p.side).bytes p.file d mask
        ≡ word_of 64 (λ k. contains mask k && eqb (a before p (64 * d + k)).mark 1)
    unfolding taken_of
    marked p d mask h ld = word_ext 64 _ _ (λ k l. ap (λ (x : ℕ). contains mask k && eqb x 1) (mark-is before so_far p (64 * d + k) h (omega arith)))

    many-here : (p : Place) (d mask : ℕ) → m.asked o ≡ asks (take_many p.file d mask) → take_many_refused l p.file d ≡ Ok tt → Held p l
        → answer_at m l before o ≡ numbers_of (Taken (word_of 64 (λ k. contains mask k && eqb (a before p (64 * d + k)).mark 1)))
    many-here p d mask e z h =
        let y = many_still_refused p.file d ∙ z in
        let t = many-passed here p.file d y in
        let v = side-answered here p.file t.0 t.1 d mask p.side (same-held l here p (same p.side) h) in
        answered (take_many p.file d mask) e ∙ ap numbers_of (many-taken here p.file d mask y)
        ∙ ap (λ (w : ℕ). numbers_of (Taken w)) (v ∙ marked p d mask h t.2)

    taken_here : (p : Place) (n : ℕ) → m.asked o ≡ asks (take p.file n) → take_refused l p.file n ≡ Ok tt → Held p l
        → (answer_at m l before o ≡ numbers_of (Taken (a before p n).mark)) × ((a before p n).mark < 2)
    taken_here p n e z h =
        let y = still_refused p.file n ∙ z in
        let t = take-passed here p.file n y in
        let k : pending_in here p n ≡ (a before p n).mark = mark-is before so_far p n h t.2 in
        let v = side-pending here p.file t.0 t.1 n p.side (same-held l here p (same p.side) h) in (
          answered (take p.file n) e ∙ ap numbers_of (take-taken here p.file n y) ∙ ap (λ (w : ℕ). numbers_of (Taken w)) (v ∙ k),
          omega (arith, k, pending_lt (window_of here p.side).start (window_of here p.side).bytes p.file n),
        )

    refused-here : (file n r : ℕ) → m.asked o ≡ asks (take file n)
        → (answer_at m l before o ≡ numbers 5 r 0 0) ↔ Refuses (take_refused l file n) r
    refused-here file n r e =
        let i = refused-told here file n r in
        let w = answered (take file n) e in
        let s = still_refused file n in
        (λ h. let k = i.0 (sym w ∙ h) in (k.0, sym s ∙ k.1, k.2), λ k. w ∙ i.1 (k.0, s ∙ k.1, k.2))

    many-refused-here : (file d mask r : ℕ) → m.asked o ≡ asks (take_many file d mask)
        → (answer_at m l before o ≡ numbers 5 r 0 0) ↔ Refuses (take_many_refused l file d) r
    many-refused-here file d mask r e =
        let i = many-refused-told here file d mask r in
        let w = answered (take_many file d mask) e in
        let s = many_still_refused file d in
        (λ h. let k = i.0 (sym w ∙ h) in (k.0, sym s ∙ k.1, k.2), λ k. w ∙ i.1 (k.0, s ∙ k.1, k.2))

    silent-here : ((file n : ℕ) → asked_event file n (m.asked o) (m.answer here o) ≡ store → ⊥) → notices_of (answer_at m l before o) ≡ []
    silent-here h = silent_call (m.asked o) (m.answer here o) (m.after here o) here faith_here h

    changes-here : (s : Side) → Changes m l before o s
    changes-here s =
        let t = step_same m faith here o (granted_at m l before rest o g) s in
        record {
          placed = t.place ∙ (same s).place;
          long = t.long ∙ (same s).long;
          others = λ i w h.
              step-quiet m faith here o s i (there i w) (granted_at m l before rest o g) (λ file n k ln e. h file n (same-held here l (place s file) back k) ln e);
        }
      where
        back : Same here l s
        back = record { place = sym (same s).place; long = sym (same s).long }

        there : (i : ℕ) → holds (window_of l s) i 1 ≡ true → holds (window_of here s) i 1 ≡ true
        there i w = rw ((same s).place, (same s).long) w

  pub closes_of : (ops : List O) → AllGranted m l ops → Closes m l ops
  closes_of ops g = record {
    calls = λ before o rest e. rw e (calls_are before rest o (rw e at g));
    balance = λ p n c ln. balance-is ops g p n c.within ln;
    sums = adds ops g;
    stored = λ before o mode root q value d c e. stored_here before c.0 o (rw c.1 at g) mode root q value d e;
    taken = λ before o p n c e z u. taken_here before c.0 o (rw c.1 at g) p n e z u.within;
    taken_many = λ before o p d mask c e z u. many-here before c.0 o (rw c.1 at g) p d mask e z u.within;
    refused = λ before o file n r c e. refused-here before c.0 o (rw c.1 at g) file n r e;
    refused_many = λ before o file d mask r c e. many-refused-here before c.0 o (rw c.1 at g) file d mask r e;
    marks = λ p n c ln. (mark-is ops g p n c.within ln, pending_lt (window_of (left_by m l ops) p.side).start (window_of (left_by m l ops) p.side).bytes p.file n);
    notices = λ before o d c e. given (answer_at m l before o) d e;
    silent = λ before o c h. silent-here before c.0 o (rw c.1 at g) h;
    changes = λ before o s c. changes-here before c.0 o (rw c.1 at g) s;
  }

-- the shipped routines: for every list, also the empty one, and with no premise
pub routines_faithful : Faithful routines
routines_faithful l o g = (refl, refl)

pub routines_granted : (l : Lent) (ops : List Op) → AllGranted routines l ops
unfolding AllGranted
routines_granted l [] = tt
routines_granted l (o ∷ os) = (tt, routines_granted (routines.after l o) os)

pub closes : (l : Lent) (ops : List Op) → Closes routines l ops
closes l ops = closes_of routines routines_faithful l ops (routines_granted l ops)
