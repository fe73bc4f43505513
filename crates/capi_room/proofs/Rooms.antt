-- A buffer that is too short, or long enough. Assumes nothing.
use Prim.Native.Nat.{ℕ, ◌<◌, ◌≤◌}
use mathlib.Core.List.{List}
use mathlib.Core.Path.{◌≡◌, ◌∙◌}
use lib.ListN.{length}
use borrow.Author.Tests.{lt-ltb, le-ltb}
use Rattle.capi_room.specs.Room.{status, fitting, fitting_both}

module _ (n : ℕ) (out : List ℕ) where
  pub short-told : length out < n → 1 ≡ status n out
  unfolding status
  short-told h = simp (lt-ltb (length out) n h)

  pub long-told : n ≤ length out → 0 ≡ status n out
  unfolding status
  long-told h = simp (le-ltb (length out) n h)

  pub short-kept : {A : Type 0} (before after : A) → length out < n → before ≡ fitting n out before after
  unfolding fitting
  short-kept before after h = simp (lt-ltb (length out) n h)

  pub long-changed : {A : Type 0} (before after x : A) → n ≤ length out → x ≡ after → x ≡ fitting n out before after
  unfolding fitting
  long-changed before after x h e = e ∙ simp (le-ltb (length out) n h)

pub ruleset room_ways = (short-told, long-told, short-kept, long-changed)

module _ {A : Type 0} (n : ℕ) (out : List ℕ) (m : ℕ) (state : List ℕ) (before after x : A) where
  pub out-short : length out < n → x ≡ before → x ≡ fitting_both n out m state before after
  unfolding fitting_both
  out-short h e = e ∙ simp (lt-ltb (length out) n h)

  pub state-short : n ≤ length out → length state < m → x ≡ before → x ≡ fitting_both n out m state before after
  unfolding fitting_both
  state-short h k e = e ∙ simp (le-ltb (length out) n h, lt-ltb (length state) m k)

  pub both_long : n ≤ length out → m ≤ length state → x ≡ after → x ≡ fitting_both n out m state before after
  unfolding fitting_both
  both_long h k e = e ∙ simp (le-ltb (length out) n h, le-ltb (length state) m k)
