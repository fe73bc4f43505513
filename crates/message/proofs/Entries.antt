-- The ways through alignment, an entry and a message, over plain values. Assumes nothing.
use Rattle.std.specs.Prelude.{None, Some}
use Prim.Native.Nat.{ℕ, ◌+◌, ◌*◌, ◌/◌, ◌%◌, ◌^◌, ◌≤◌, ◌<◌}
use mathlib.Core.Bool.{Bool, true, false, not}
use mathlib.Core.Path.{◌≡◌, sym, ap, ◌∙◌}
use native.Mathlib.Omega.{arith}
use borrow.Author.Tests.{eq-eqb, ne_eqb, not-true, not-false}
use lib.Count.{ones, ones-le}
use lib.Dec.{eqb}
use lib.Pow.{pow_mono}
use Rattle.memory.specs.Bits.{bits, bit}
use Rattle.memory.specs.Walk.{Walk, run, done, on_value, load_or}
use Rattle.memory.specs.Load.{Load}
use Rattle.memory.proofs.Choices.{no-by}
use Rattle.memory.proofs.Walks.{loads, at}
use Rattle.causes.specs.declared.Access.{Access}
use Rattle.message.specs.declared.Destination.{Destination}
use Rattle.message.specs.declared.Message.{Message}
use Rattle.message.specs.declared.Message.TheVariants.{Redirect, Record}
use Rattle.message_recognition.specs.Recognition.{extract}
use Rattle.message.specs.Table.{MessageFound, table_fault, alignment, permitted, translate_reserved, record_reserved, destination_of, on_translate, on_notice, on_message_entry, message_of}

-- k ones ask for 16 x 2^k bytes, which a doubleword holds
pub size_fits : (mask : ℕ) → mask < 2 ^ 52 → 2 ^ ones mask ≤ 2 ^ 52
size_fits mask h = pow_mono (ones-le 52 mask h)

module _ (page mask size : ℕ) (hs : size ≡ 16 * 2 ^ ones mask) where
  pub few_files : size < 4096 → true ≡ eqb (page * 4096 % alignment mask) 0
  few_files l =
      let m : alignment mask ≡ 4096 = omega arith in rw m (sym (eq-eqb (page * 4096 % 4096) 0 (omega arith)))

  pub many_files : 4096 ≤ size → eqb (page * 4096 % size) 0 ≡ eqb (page * 4096 % alignment mask) 0
  many_files l =
      let m : size ≡ alignment mask = omega arith in rw m

pub by-access : (x y : Access) (m : Message) (r : MessageFound) → x ≡ y → r ≡ permitted y m → r ≡ permitted x m
by-access x y m r e p = p ∙ sym (ap (λ t. permitted t m) e)

abbrev destined_as : ℕ → ℕ → ℕ → Destination
destined_as f p k = record { file = f; notice = p; number = k }

-- a notice number's bit 10 stands at bit 60
pub destined : (e n f p k : ℕ) → f ≡ bits e 53 7 * 512 → p ≡ bits n 53 10 * 4096 → k ≡ bits n 9 0 + 1024 * bits n 60 60 → destined_as f p k ≡ destination_of e n
destined e n f p k hf hp hk = rw (hf, hp, hk)

pub redirects : (x : Access) (a e page : ℕ) (bad : Bool) (r : MessageFound) → bad ≡ translate_reserved e → bad ≡ false → page ≡ bits e 53 10 → r ≡ permitted x (Redirect (page * 4096 + a % 4096)) → r ≡ on_translate x a e
unfolding on_translate
redirects x a e page bad r h t q p = no-by _ bad r _ _ h t (p ∙ ap (λ k. permitted x (Redirect (k * 4096 + a % 4096))) q)

pub recorded : (x : Access) (at e n : ℕ) (bad : Bool) (d : Destination) (r : MessageFound) → bad ≡ record_reserved e n → bad ≡ false → d ≡ destination_of e n → r ≡ permitted x (Record d at) → r ≡ on_notice x at e n
unfolding on_notice
recorded x at e n bad d r h t e' p = no-by _ bad r _ _ h t (p ∙ ap (λ k. permitted x (Record k at)) e')

-- what follows a load of the table, by what was loaded
read_as : (m : ℕ → Load) (a : ℕ) (k : ℕ → Walk MessageFound) {v w : Load} {r : MessageFound} → v ≡ m a → v ≡ w → r ≡ run m (on_value (done (table_fault 261)) k w) → r ≡ run m (load_or (done (table_fault 261)) a k)
read_as m a k h e p = loads m a (on_value (done (table_fault 261)) k) h (at m (on_value (done (table_fault 261)) k) e p)

-- each answer of an entry, by its bits V and C and its mode
module _ (m : ℕ → Load) (x : Access) (a place e : ℕ) (r : MessageFound) (v : Bool) (hv : v ≡ bit e 0) where
  pub not_valid : not v ≡ true → r ≡ table_fault 262 → r ≡ run m (on_message_entry x a place e)
  unfolding on_message_entry
  not_valid t p = simp (sym hv ∙ not-true v t) p

  module _ (t : not v ≡ false) (c : Bool) (hc : c ≡ bit e 63) where
    valid : bit e 0 ≡ true
    valid = sym hv ∙ not-false v t

    pub custom : c ≡ true → r ≡ table_fault 263 → r ≡ run m (on_message_entry x a place e)
    unfolding on_message_entry
    custom h p = simp (valid, sym hc ∙ h) p

    module _ (s : c ≡ false) (mode : ℕ) (hm : mode ≡ bits e 2 1) where
      standard : bit e 63 ≡ false
      standard = sym hc ∙ s

      pub translates : mode ≡ 3 → r ≡ on_translate x a e → r ≡ run m (on_message_entry x a place e)
      unfolding on_message_entry
      translates h p = simp (valid, standard, sym hm ∙ h) p

      pub other-mode : (mode ≡ 3 → ⊥) → (mode ≡ 1 → ⊥) → r ≡ table_fault 263 → r ≡ run m (on_message_entry x a place e)
      unfolding on_message_entry
      other-mode h k p = simp (valid, standard, ← hm, ne_eqb mode 3 h, ne_eqb mode 1 k) p

      module _ (k : mode ≡ 1) (w : Load) (hw : w ≡ m (place + 8)) where
        pub no-notice : w ≡ None → r ≡ table_fault 261 → r ≡ run m (on_message_entry x a place e)
        unfolding on_message_entry
        no-notice h p = simp (valid, standard, sym hm ∙ k) (read_as m (place + 8) (λ n. done (on_notice x place e n)) hw h p)

        pub records : (n : ℕ) → w ≡ Some n → r ≡ on_notice x place e n → r ≡ run m (on_message_entry x a place e)
        unfolding on_message_entry
        records n h p = simp (valid, standard, sym hm ∙ k) (read_as m (place + 8) (λ n. done (on_notice x place e n)) hw h p)

pub ruleset entries = (not_valid, custom, translates, other-mode, no-notice, records)

-- each answer to a message
module _ (m : ℕ → Load) (page mask : ℕ) (x : Access) (a : ℕ) (r : MessageFound) (ok : Bool) (hok : ok ≡ eqb (page * 4096 % alignment mask) 0) where
  pub misaligned : not ok ≡ true → r ≡ table_fault 263 → r ≡ run m (message_of page mask x a)
  unfolding message_of
  misaligned t p = simp (sym hok ∙ not-true ok t) p

  module _ (t : not ok ≡ false) (number : ℕ) (hn : number ≡ extract (a / 4096) mask) (w : Load) (hw : w ≡ m (page * 4096 + 16 * number)) where
    pub no-entry : w ≡ None → r ≡ table_fault 261 → r ≡ run m (message_of page mask x a)
    unfolding message_of
    no-entry h p = simp (sym hok ∙ not-false ok t, ← hn) (read_as m (page * 4096 + 16 * number) (on_message_entry x a (page * 4096 + 16 * number)) hw h p)

    pub enters : (e : ℕ) → w ≡ Some e → r ≡ run m (on_message_entry x a (page * 4096 + 16 * number) e) → r ≡ run m (message_of page mask x a)
    unfolding message_of
    enters e h p = simp (sym hok ∙ not-false ok t, ← hn) (read_as m (page * 4096 + 16 * number) (on_message_entry x a (page * 4096 + 16 * number)) hw h p)

pub ruleset messages = (misaligned, no-entry, enters)
