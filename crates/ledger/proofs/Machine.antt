-- Lists of calls of any machine, and the ledger of one bit from what each call keeps. Assumes nothing.
use Prim.Native.Nat.{ℕ, ◌+◌}
use mathlib.Core.Path.{◌≡◌, refl, sym, ap, subst, ◌∙◌}
use mathlib.Core.List.{List, [], ◌∷◌, ◌++◌}
use native.Mathlib.Omega.{arith}
use Rattle.memory.specs.Window.{Lent}
use Rattle.ledger.specs.Places.{Place}
use Rattle.ledger.specs.Machine.{Machine, Call, call_of, left_by, history, AllGranted}
use Rattle.ledger.specs.Ledger.{Event, store, successful_take, nothing, event_of, Account, opened, entered, entered_all, pending_in, account_of}

-- the bit after an event, as a machine is to have it
abbrev pub step : ℕ → Event → ℕ
step b store = 1
step b successful_take = 0
step b nothing = b

-- a successful take finds the bit at 1
abbrev pub Told : ℕ → Event → Type 0
Told b store = Unit {0}
Told b successful_take = b ≡ 1
Told b nothing = Unit {0}

-- an account of a bit that began at b
pub record Balanced (b : ℕ) (a : Account) : Type 0 where
  pub sum : b + a.stores ≡ a.takes + a.merged + a.mark

opened-balanced : (b : ℕ) → Balanced b (opened b)
opened-balanced b = record { sum = omega arith }

-- one entry: the mark goes as the bit, and what was pending, and each store, was taken, or merged, or is pending
entered-mark : (a : Account) (e : Event) → (entered a e).mark ≡ step a.mark e
entered-mark a store = refl
entered-mark a successful_take = omega arith
entered-mark a nothing = refl

entered-balanced : (b : ℕ) (a : Account) (e : Event) → Told a.mark e → Balanced b a → Balanced b (entered a e)
entered-balanced b a store t h = record { sum = omega (arith, h.sum) }
entered-balanced b a successful_take t h = record { sum = omega (arith, h.sum, t) }
entered-balanced b a nothing t h = h

module _ {O : Type 0} (m : Machine O) where
  -- what a list in two parts does
  pub left_append : (l : Lent) (before rest : List O) → left_by m l (before ++ rest) ≡ left_by m (left_by m l before) rest
  unfolding left_by
  left_append l [] rest = refl
  left_append l (o ∷ os) rest = left_append (m.after l o) os rest

  pub history_append : (l : Lent) (before rest : List O) → history m l (before ++ rest) ≡ history m l before ++ history m (left_by m l before) rest
  unfolding history left_by
  history_append l [] rest = refl
  history_append l (o ∷ os) rest = ap (λ (cs : List (Call O)). call_of m l o ∷ cs) (history_append (m.after l o) os rest)

  -- the premise of a call of the list, and of the calls before it
  pub granted_at : (l : Lent) (before rest : List O) (o : O) → AllGranted m l (before ++ (o ∷ rest)) → m.Granted (left_by m l before) o
  unfolding AllGranted left_by
  granted_at l [] rest o g = g.0
  granted_at l (p ∷ ps) rest o g = granted_at (m.after l p) ps rest o g.1

  pub granted_before : (l : Lent) (before rest : List O) → AllGranted m l (before ++ rest) → AllGranted m l before
  unfolding AllGranted
  granted_before l [] rest g = tt
  granted_before l (p ∷ ps) rest g = (g.0, granted_before (m.after l p) ps rest g.1)

  -- an invariant of each call holds after a list
  pub kept-by-all : (Inv : Lent → Type 0) → ((l : Lent) (o : O) → Inv l → m.Granted l o → Inv (m.after l o))
      → (l : Lent) (ops : List O) → Inv l → AllGranted m l ops → Inv (left_by m l ops)
  unfolding AllGranted left_by
  kept-by-all Inv k l [] i g = i
  kept-by-all Inv k l (o ∷ os) i g = kept-by-all Inv k (m.after l o) os (k l o i g.0) g.1

  module _ (p : Place) (n : ℕ) (Inv : Lent → Type 0) where
    abbrev event : Call O → Event
    event c = event_of m p.file n c

    -- what is to be shown of each call
    pub record Keeps (l : Lent) (o : O) : Type 0 where
      pub inv : Inv (m.after l o)
      pub moves : pending_in (m.after l o) p n ≡ step (pending_in l p n) (event (call_of m l o))
      pub told : Told (pending_in l p n) (event (call_of m l o))

    -- what follows of every list of them, from where the bit goes with an account
    pub record Kept (b : ℕ) (a : Account) (l : Lent) (ops : List O) : Type 0 where
      pub waits : pending_in (left_by m l ops) p n ≡ (entered_all event a (history m l ops)).mark
      pub balances : Balanced b (entered_all event a (history m l ops))

    module _ (keeps : (l : Lent) (o : O) → Inv l → m.Granted l o → Keeps l o) where
      kept_from : (b : ℕ) (a : Account) (l : Lent) (ops : List O) → Inv l → AllGranted m l ops → pending_in l p n ≡ a.mark → Balanced b a → Kept b a l ops
      unfolding left_by history entered_all AllGranted
      kept_from b a l [] i g w h = record { waits = w; balances = h }
      kept_from b a l (o ∷ os) i g w h =
          let k = keeps l o i g.0 in
          let e = event (call_of m l o) in
          let t : Told a.mark e = subst (λ (x : ℕ). Told x e) w k.told in
          let v : pending_in (m.after l o) p n ≡ (entered a e).mark = k.moves ∙ ap (λ (x : ℕ). step x e) w ∙ sym (entered-mark a e) in
          let r = kept_from b (entered a e) (m.after l o) os k.inv g.1 v (entered-balanced b a e t h) in
          record { waits = r.waits; balances = r.balances }

      -- the pending bit after the list is the mark, and the account balances
      module _ (l : Lent) (ops : List O) (i : Inv l) (g : AllGranted m l ops) where
        kept : Kept (pending_in l p n) (opened (pending_in l p n)) l ops
        kept = kept_from (pending_in l p n) (opened (pending_in l p n)) l ops i g refl (opened-balanced (pending_in l p n))

        pub mark-kept : pending_in (left_by m l ops) p n ≡ (account_of m l ops p n).mark
        unfolding account_of
        mark-kept = kept.waits

        pub balance-kept : pending_in l p n + (account_of m l ops p n).stores
            ≡ (account_of m l ops p n).takes + (account_of m l ops p n).merged + pending_in (left_by m l ops) p n
        unfolding account_of
        balance-kept = omega (arith, kept.balances.sum, kept.waits)
