-- An account's counts are tallies of its events, and their sums over different files are what the history's calls add up to. Assumes nothing.
use Prim.Native.Nat.{ℕ, ◌+◌, ◌/◌, ◌%◌, ◌^◌, ◌<◌}
use mathlib.Core.Path.{◌≡◌, refl, sym, ap, ap₂, ◌∙◌}
use mathlib.Core.List.{List, [], ◌∷◌, ◌++◌}
use mathlib.Core.Bool.{Bool, true, false, ◌&&◌}
use native.Mathlib.Omega.{arith}
use lib.Dec.{eqb}
use lib.ListN.{length}
use Rattle.std.specs.Prelude.{Result, Ok, Err}
use Rattle.word.specs.Word.{contains}
use Rattle.interrupt_file.specs.File.{is_file, taken_of}
use Rattle.interrupt_file.proofs.Many.{taken_lt}
use Rattle.memory.specs.Choice.{pick}
use Rattle.refusal.specs.declared.Refusal.{Refusal}
use Rattle.refusal.specs.Checks.{unless_refused}
use Rattle.iommu_refusals.specs.declared.DeviceRequest.{DeviceRequest}
use Rattle.iommu_files.specs.declared.Answer.{Answer}
use Rattle.iommu_files.specs.declared.Answer.TheVariants.{Translated, Redirected, Stored, Discarded, Fault, Refused, Taken}
use Rattle.iommu_files.specs.declared.Numbers.{Numbers}
use Rattle.iommu_files.specs.Answers.{numbers_of, refused}
use Rattle.iommu.specs.Request.{identity_of}
use Rattle.iommu_files.specs.Files.{answered_at, take_many_of}
use Rattle.iommu.specs.Operations.{Op, request, take, take_many, answer_of}
use Rattle.memory.specs.Window.{Lent}
use Rattle.ledger.specs.Places.{Side, Place}
use Rattle.ledger.specs.Closes.{take_many_refused}
use Rattle.ledger.specs.Machine.{Asked, asks, asks_nothing, Machine, call_of, history, AllGranted}
use Rattle.ledger.specs.Ledger.{Event, store, successful_take, nothing, op_event, asked_event, event_of, Account, opened, entered, entered_all, pending_in, account_of}
use Rattle.ledger.specs.Sums.{total, among, Different, Places, op_stores, op_takes, asked_weight, added_up}
use Rattle.ledger.proofs.Answering.{starts, xs, ys, stored-storing, stored_low, storing-apart, many-passed}
use Rattle.ledger.proofs.Ones.{one-event, one_weight}
use Rattle.ledger.proofs.Keeping.{Faith, Faithful, Same, same-held, step_same}
use Rattle.ledger.proofs.SumLaws.{total_add, total_cong, total-zero, file-one, file_hit, file-ones, distinct}

abbrev pub one_store : Event → ℕ
one_store store = 1
one_store successful_take = 0
one_store nothing = 0

abbrev pub one_take : Event → ℕ
one_take store = 0
one_take successful_take = 1
one_take nothing = 0

entered-stores : (a : Account) (e : Event) → (entered a e).stores ≡ a.stores + one_store e
entered-stores a store = refl
entered-stores a successful_take = omega arith
entered-stores a nothing = omega arith

entered-takes : (a : Account) (e : Event) → (entered a e).takes ≡ a.takes + one_take e
entered-takes a store = omega arith
entered-takes a successful_take = refl
entered-takes a nothing = omega arith

-- what a history's calls weigh for one identity
module _ {C : Type 0} (event : C → Event) where
  abbrev pub tally : (Event → ℕ) → List C → ℕ
  tally w [] = 0
  tally w (c ∷ cs) = w (event c) + tally w cs

  all-stores : (a : Account) (cs : List C) → (entered_all event a cs).stores ≡ a.stores + tally one_store cs
  unfolding entered_all
  all-stores a [] = omega arith
  all-stores a (c ∷ cs) = omega (arith, all-stores (entered a (event c)) cs, entered-stores a (event c))

  all-takes : (a : Account) (cs : List C) → (entered_all event a cs).takes ≡ a.takes + tally one_take cs
  unfolding entered_all
  all-takes a [] = omega arith
  all-takes a (c ∷ cs) = omega (arith, all-takes (entered a (event c)) cs, entered-takes a (event c))

  pub tally_append : (w : Event → ℕ) (xs ys : List C) → tally w (xs ++ ys) ≡ tally w xs + tally w ys
  tally_append w [] ys = omega arith
  tally_append w (x ∷ xs) ys = omega (arith, tally_append w xs ys)

module _ {O : Type 0} (m : Machine O) (l : Lent) (ops : List O) (p : Place) (n : ℕ) where
  pub account-stores : (account_of m l ops p n).stores ≡ tally (event_of m p.file n) one_store (history m l ops)
  unfolding account_of
  account-stores = omega (arith, all-stores (event_of m p.file n) (opened (pending_in l p n)) (history m l ops))

  pub account-takes : (account_of m l ops p n).takes ≡ tally (event_of m p.file n) one_take (history m l ops)
  unfolding account_of
  account-takes = omega (arith, all-takes (event_of m p.file n) (opened (pending_in l p n)) (history m l ops))

-- one call: a request is no take, and a take no store
pub request-no-take : (file n mode root : ℕ) (q : DeviceRequest) (value : ℕ) (a : Numbers) → one_take (op_event file n (request mode root q value) a) ≡ 0
request-no-take file n mode root q value a = go (eqb a.kind 2 && (eqb a.first file && eqb (identity_of q value) n))
  where
    go : (t : Bool) → one_take (pick t store nothing) ≡ 0
    go true = refl
    go false = refl

taken-no-store : (t : Bool) → one_store (pick t successful_take nothing) ≡ 0
taken-no-store true = refl
taken-no-store false = refl

take-no-store : (file n f i : ℕ) (a : Numbers) → one_store (op_event file n (take f i) a) ≡ 0
take-no-store file n f i a = taken-no-store (eqb a.kind 6 && (eqb f file && (eqb i n && eqb a.first 1)))

many-no-store : (file n f d mask : ℕ) (a : Numbers) → one_store (op_event file n (take_many f d mask) a) ≡ 0
many-no-store file n f d mask a = taken-no-store (eqb a.kind 6 && (eqb f file && (eqb d (n / 64) && contains a.first (n % 64))))

take_weighs : (a b : Bool) → one_take (pick (a && b) successful_take nothing) ≡ pick a (pick b 1 0) 0
take_weighs true true = refl
take_weighs true false = refl
take_weighs false b = refl

store_places : (a b : Bool) → one_store (pick (a && b) store nothing) ≡ pick a (pick b 1 0) 0
store_places true true = refl
store_places true false = refl
store_places false b = refl

-- an answer has 64 bits
answered_lt : (l : Lent) (g e mask : ℕ) → answered_at (starts l) (xs l) (ys l) g e mask < 2 ^ 64
answered_lt l g e mask = go (is_file l.first.start (length (xs l)) g)
  where
    go : (b : Bool) → pick b (taken_of l.first.start (xs l) g e mask) (taken_of l.second.start (ys l) g e mask) < 2 ^ 64
    go true = taken_lt l.first.start (xs l) g e mask
    go false = taken_lt l.second.start (ys l) g e mask

-- files of what is lent stay so
places_after : (l k : Lent) → ((s : Side) → Same l k s) → (ps : List Place) → Places l ps → Places k ps
places_after l k s [] w = tt
places_after l k s (p ∷ ps) w = (same-held l k p (s p.side) w.0, places_after l k s ps w.1)

module _ (ps : List Place) (d : Different ps) where
  -- of one operation, where all are files of what is lent
  module _ (l : Lent) (w : Places l ps) where
    request-stores : (mode root : ℕ) (q : DeviceRequest) (value : ℕ) (a : Answer) → answer_of l (request mode root q value) ≡ a
        → total ps (λ p n. one_store (op_event p.file n (request mode root q value) (numbers_of a))) ≡ op_stores (among ps) (request mode root q value) (numbers_of a)
    request-stores mode root q value (Stored t) e =
        let k = stored-storing l mode root q value t e in
        total_cong ps _ _ (λ p n. store_places (eqb t.file p.file) (eqb (identity_of q value) n))
        ∙ file_hit ps t.file (λ n. pick (eqb (identity_of q value) n) 1 0) (distinct l (storing-apart l mode root q value t k) ps w d)
        ∙ ap (λ (x : ℕ). pick (among ps t.file) x 0) (file-one (identity_of q value) 1 (stored_low l mode root q value t k))
    request-stores mode root q value (Translated a) e = total-zero ps
    request-stores mode root q value (Redirected a) e = total-zero ps
    request-stores mode root q value Discarded e = total-zero ps
    request-stores mode root q value (Fault f) e = total-zero ps
    request-stores mode root q value (Refused r) e = total-zero ps
    request-stores mode root q value (Taken v) e = total-zero ps

    many-takes : (g e mask : ℕ) (r : Result (Unit {0}) Refusal) → take_many_refused l g e ≡ r
        → total ps (λ p n. one_take (op_event p.file n (take_many g e mask) (numbers_of (unless_refused r refused (Taken (answered_at (starts l) (xs l) (ys l) g e mask))))))
        ≡ op_takes (among ps) (take_many g e mask) (numbers_of (unless_refused r refused (Taken (answered_at (starts l) (xs l) (ys l) g e mask))))
    many-takes g e mask (Err r) h = total-zero ps
    many-takes g e mask (Ok tt) h =
        let k = many-passed l g e h in
        let v = answered_at (starts l) (xs l) (ys l) g e mask in
        total_cong ps _ _ (λ p n. take_weighs (eqb g p.file) (eqb e (n / 64) && contains v (n % 64)))
        ∙ file_hit ps g (λ n. pick (eqb e (n / 64) && contains v (n % 64)) 1 0) (distinct l k.0 ps w d)
        ∙ ap (λ (x : ℕ). pick (among ps g) x 0) (file-ones e v k.2 (answered_lt l g e mask))

    op_stores_lem : (o : Op) → total ps (λ p n. one_store (op_event p.file n o (numbers_of (answer_of l o)))) ≡ op_stores (among ps) o (numbers_of (answer_of l o))
    op_stores_lem (request mode root q value) = request-stores mode root q value _ refl
    op_stores_lem (take g i) = total_cong ps _ _ (λ p n. take-no-store p.file n g i (numbers_of (answer_of l (take g i)))) ∙ total-zero ps
    op_stores_lem (take_many g e mask) = total_cong ps _ _ (λ p n. many-no-store p.file n g e mask (numbers_of (answer_of l (take_many g e mask)))) ∙ total-zero ps

    op_takes_lem : (o : Op) → total ps (λ p n. one_take (op_event p.file n o (numbers_of (answer_of l o)))) ≡ op_takes (among ps) o (numbers_of (answer_of l o))
    unfolding take_many_of
    op_takes_lem (request mode root q value) =
        total_cong ps _ _ (λ p n. request-no-take p.file n mode root q value (numbers_of (answer_of l (request mode root q value)))) ∙ total-zero ps
    op_takes_lem (take g i) =
        total_cong ps _ _ (λ p n. ap one_take (one-event l g i p.file n)) ∙ many-takes g (i / 64) (2 ^ (i % 64)) _ refl ∙ sym (one_weight l g i (among ps))
    op_takes_lem (take_many g e mask) = many-takes g e mask _ refl

    -- of one call
    call_stores : (k : Asked) (a : Numbers) (after : Lent) → Faith k a after l → total ps (λ p n. one_store (asked_event p.file n k a)) ≡ asked_weight (op_stores (among ps)) k a
    call_stores (asks o) a after f = rw f.0 (op_stores_lem o)
    call_stores asks_nothing a after f = total-zero ps

    call_takes : (k : Asked) (a : Numbers) (after : Lent) → Faith k a after l → total ps (λ p n. one_take (asked_event p.file n k a)) ≡ asked_weight (op_takes (among ps)) k a
    call_takes (asks o) a after f = rw f.0 (op_takes_lem o)
    call_takes asks_nothing a after f = total-zero ps

  -- of every call of a list
  module _ {O : Type 0} (m : Machine O) (faith : Faithful m) where
    tally-stores : (l : Lent) (ops : List O) → Places l ps → AllGranted m l ops
        → total ps (λ p n. tally (event_of m p.file n) one_store (history m l ops)) ≡ added_up m (op_stores (among ps)) (history m l ops)
    unfolding history added_up AllGranted
    tally-stores l [] w g = total-zero ps
    tally-stores l (o ∷ os) w g =
        total_add ps (λ p n. one_store (event_of m p.file n (call_of m l o))) (λ p n. tally (event_of m p.file n) one_store (history m (m.after l o) os))
        ∙ ap₂ ◌+◌ (call_stores l w (m.asked o) (m.answer l o) (m.after l o) (faith l o g.0))
        (tally-stores (m.after l o) os (places_after l (m.after l o) (step_same m faith l o g.0) ps w) g.1)

    tally-takes : (l : Lent) (ops : List O) → Places l ps → AllGranted m l ops
        → total ps (λ p n. tally (event_of m p.file n) one_take (history m l ops)) ≡ added_up m (op_takes (among ps)) (history m l ops)
    unfolding history added_up AllGranted
    tally-takes l [] w g = total-zero ps
    tally-takes l (o ∷ os) w g =
        total_add ps (λ p n. one_take (event_of m p.file n (call_of m l o))) (λ p n. tally (event_of m p.file n) one_take (history m (m.after l o) os))
        ∙ ap₂ ◌+◌ (call_takes l w (m.asked o) (m.answer l o) (m.after l o) (faith l o g.0))
        (tally-takes (m.after l o) os (places_after l (m.after l o) (step_same m faith l o g.0) ps w) g.1)

    pub stores-counted : (l : Lent) (ops : List O) → Places l ps → AllGranted m l ops
        → total ps (λ p n. (account_of m l ops p n).stores) ≡ added_up m (op_stores (among ps)) (history m l ops)
    stores-counted l ops w g = total_cong ps _ _ (λ p n. account-stores m l ops p n) ∙ tally-stores l ops w g

    pub takes-counted : (l : Lent) (ops : List O) → Places l ps → AllGranted m l ops
        → total ps (λ p n. (account_of m l ops p n).takes) ≡ added_up m (op_takes (among ps)) (history m l ops)
    takes-counted l ops w g = total_cong ps _ _ (λ p n. account-takes m l ops p n) ∙ tally-takes l ops w g
