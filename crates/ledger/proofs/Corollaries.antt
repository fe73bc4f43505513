-- What a buyer asks next: nothing is lost, nothing is invented, and the change in pending bits. Assumes nothing.
use Prim.Native.Nat.{ℕ, ◌+◌, ◌*◌, ◌/◌, ◌%◌, ◌<◌}
use mathlib.Core.Path.{◌≡◌, refl, sym, ap, ◌∙◌}
use mathlib.Core.Bool.{true, false, ◌&&◌}
use mathlib.Core.Logic.{◌↔◌}
use mathlib.Core.List.{List, [], ◌∷◌}
use native.Mathlib.Omega.{arith}
use borrow.Author.Tests.{eq-eqb, eqb-true}
use lib.Dec.{eqb}
use Rattle.std.specs.Prelude.{Ok}
use Rattle.memory.proofs.Truth.{and_off, and_true}
use Rattle.word.specs.Word.{contains}
use Rattle.word.proofs.Bits.{word-bit}
use Rattle.iommu_files.specs.declared.Answer.TheVariants.{Taken}
use Rattle.iommu_files.specs.declared.Numbers.{Numbers}
use Rattle.iommu_files.specs.Answers.{numbers_of}
use Rattle.iommu.specs.Operations.{request, take, take_many}
use Rattle.memory.specs.Window.{Lent}
use Rattle.ledger.specs.Places.{Place}
use Rattle.ledger.specs.Machine.{Asked, asks, asks_nothing, Machine, history}
use Rattle.ledger.specs.Ledger.{Event, store, successful_take, nothing, asked_event, event_of, Account, opened, entered, entered_all, pending_in, account_of}
use Rattle.ledger.specs.Sums.{total, among, Different, op_stores, op_takes, added_up}
use Rattle.ledger.specs.Closes.{Closes, Comes, Counted, AllCounted, take_refused, take_many_refused, answer_at, account_after, pending_after}
use Rattle.ledger.specs.Whole.{NoTake, NoTakes}
use Rattle.ledger.proofs.Counting.{one_store, one_take, tally, tally_append, request-no-take, account-stores, account-takes}

-- with no successful take a mark that waits goes on waiting, and a store makes it wait
module _ {C : Type 0} (event : C → Event) where
  waits-on : (a : Account) (cs : List C) → tally event one_take cs ≡ 0 → a.mark ≡ 1 → (entered_all event a cs).mark ≡ 1
  unfolding entered_all
  waits-on a [] z h = h
  waits-on a (c ∷ cs) z h = waits-on (entered a (event c)) cs (omega arith) (go (event c) (omega arith))
    where
      go : (e : Event) → one_take e ≡ 0 → (entered a e).mark ≡ 1
      go store t = refl
      go successful_take t = absurd (omega arith)
      go nothing t = h

  waits_once : (a : Account) (cs : List C) → tally event one_take cs ≡ 0 → 0 < tally event one_store cs → (entered_all event a cs).mark ≡ 1
  unfolding entered_all
  waits_once a [] z l = absurd (omega arith)
  waits_once a (c ∷ cs) z l = go (event c) (omega arith) (omega arith) (waits_once (entered a (event c)) cs (omega arith))
    where
      go : (e : Event) → one_take e ≡ 0 → 0 < one_store e + tally event one_store cs
          → (0 < tally event one_store cs → (entered_all event (entered a e) cs).mark ≡ 1) → (entered_all event (entered a e) cs).mark ≡ 1
      go store t k ih = waits-on (entered a store) cs (omega arith) refl
      go successful_take t k ih = absurd (omega arith)
      go nothing t k ih = ih (omega arith)

no-take : (file n : ℕ) (k : Asked) (a : Numbers) → NoTake k → one_take (asked_event file n k a) ≡ 0
no-take file n (asks (request mode root q value)) a h = request-no-take file n mode root q value a
no-take file n (asks (take f i)) a h = absurd h
no-take file n (asks (take_many f d mask)) a h = absurd h
no-take file n asks_nothing a h = refl

-- of any machine whose ledger closes
module _ {O : Type 0} (m : Machine O) where
  no_takes : (l : Lent) (ops : List O) (file n : ℕ) → NoTakes m ops → tally (event_of m file n) one_take (history m l ops) ≡ 0
  unfolding history
  no_takes l [] file n h = refl
  no_takes l (o ∷ os) file n h = omega (arith, no-take file n (m.asked o) (m.answer l o) h.0, no_takes (m.after l o) os file n h.1)

  module _ (l : Lent) (ops : List O) (closes : Closes m l ops) where
    -- a take of many: "a bit is answered exactly when it is in the mask and its interrupt waits"
    module _ (before : List O) (o : O) (p : Place) (d mask : ℕ) (w : Comes m l ops before o) (e : m.asked o ≡ asks (take_many p.file d mask))
        (z : take_many_refused l p.file d ≡ Ok tt) (c : Counted m l before p) where
      answered-bit : (k : ℕ) → k < 64 → contains (answer_at m l before o).first k ≡ (contains mask k && eqb (account_after m l before p (64 * d + k)).mark 1)
      answered-bit k lk =
          ap (λ (a : Numbers). contains a.first k) (closes.taken_many before o p d mask w e z c)
          ∙ word-bit 64 k (λ j. contains mask j && eqb (account_after m l before p (64 * d + j)).mark 1) lk

      pub answered_exactly : (k : ℕ) → k < 64
          → (contains (answer_at m l before o).first k ≡ true) ↔ ((contains mask k ≡ true) × ((account_after m l before p (64 * d + k)).mark ≡ 1))
      answered_exactly k lk = (there, back)
        where
          there : contains (answer_at m l before o).first k ≡ true → (contains mask k ≡ true) × ((account_after m l before p (64 * d + k)).mark ≡ 1)
          there h = let q = and_true (contains mask k) _ (sym (answered-bit k lk) ∙ h) in (q.0, eqb-true _ 1 q.1)

          back : (contains mask k ≡ true) × ((account_after m l before p (64 * d + k)).mark ≡ 1) → contains (answer_at m l before o).first k ≡ true
          back h = answered-bit k lk ∙ rw (h.0, eq-eqb (account_after m l before p (64 * d + k)).mark 1 h.1)

    module _ (p : Place) (n : ℕ) (c : Counted m l ops p) (ln : n < 2048) where
      -- NOTHING IS LOST: what was stored and never taken is pending at the end
      pub never-taken : (account_after m l ops p n).takes ≡ 0 → 0 < (account_after m l ops p n).stores → pending_after m l ops p n ≡ 1
      unfolding account_of
      never-taken t s =
          (closes.marks p n c ln).0
          ∙ waits_once (event_of m p.file n) (opened (pending_in l p n)) (history m l ops)
          (sym (account-takes m l ops p n) ∙ t)
          (omega (arith, account-stores m l ops p n))

      -- with no takes, every identity stored at least once is pending at the end
      pub nothing_lost : NoTakes m ops → 0 < (account_after m l ops p n).stores → pending_after m l ops p n ≡ 1
      nothing_lost h s = never-taken (account-takes m l ops p n ∙ no_takes l ops p.file n h) s

      -- NOTHING IS INVENTED: an identity not pending at the start and never stored is never taken
      module _ (idle : pending_in l p n ≡ 0) (none : (account_after m l ops p n).stores ≡ 0) where
        pub nothing_invented : (account_after m l ops p n).takes ≡ 0
        nothing_invented = omega (arith, closes.balance p n c ln)

        module _ (before : List O) (o : O) (w : Comes m l ops before o) (earlier : Closes m l before) (k : Counted m l before p) where
          never-waits : (account_after m l before p n).mark ≡ 0
          never-waits =
              let h = (closes.calls before o w.0 w.1).0 in
              let s = ap (tally (event_of m p.file n) one_store) h ∙ tally_append (event_of m p.file n) one_store (history m l before) _ in
              omega (
                arith,
                s,
                account-stores m l ops p n,
                account-stores m l before p n,
                earlier.balance p n k ln,
                (earlier.marks p n k ln).0,
              )

          -- no take of it that isn't refused is answered 1
          pub none-taken : m.asked o ≡ asks (take p.file n) → take_refused l p.file n ≡ Ok tt → answer_at m l before o ≡ numbers_of (Taken 0)
          none-taken e z = (closes.taken before o p n w e z k).0 ∙ ap (λ (x : ℕ). numbers_of (Taken x)) never-waits

          -- nor has a take of many its bit among those that it answers
          pub none-answered : (mask : ℕ) → m.asked o ≡ asks (take_many p.file (n / 64) mask) → take_many_refused l p.file (n / 64) ≡ Ok tt
              → contains (answer_at m l before o).first (n % 64) ≡ false
          none-answered mask e z =
              answered-bit before o p (n / 64) mask w e z k (n % 64) (omega arith)
              ∙ ap (λ (x : ℕ). contains mask (n % 64) && eqb x 1) (ap (λ (i : ℕ). (account_after m l before p i).mark) own ∙ never-waits) ∙ and_off (contains mask (n % 64))
            where
              own : 64 * (n / 64) + n % 64 ≡ n
              own = omega arith

    -- THE CHANGE in pending bits over a list of different files is stores - merged - successful takes
    pub change : (files : List Place) → Different files → AllCounted m l ops files
        → total files (pending_in l) + added_up m (op_stores (among files)) (history m l ops)
        ≡ added_up m (op_takes (among files)) (history m l ops) + total files (λ p n. (account_after m l ops p n).merged) + total files (pending_after m l ops)
    change files d w = let a = closes.sums files d w in omega (arith, a.balance, a.stores, a.takes)
