-- What the truth tables of `Masks` give for all sources of a mask at once. Assumes nothing.
use Rattle.std.proofs.Common.{◌≡◌, ℕ, Bool, true, false, refl}
use Rattle.memory.specs.Choice.{pick}
use Rattle.word.specs.Word.{contains, is_source}
use Rattle.source.specs.declared.Delivery.{Delivery}
use Rattle.source.specs.Source.{direct_of, raised, lowered, sensed}
use Rattle.sources.specs.declared.Sources.{Sources}
use Rattle.sources.proofs.Masks.{mk, row_of, EachRow, raise', lower', raise-bits, lower-bits, Raises, raises_by, Lowers, lowers_by, inputs_are, allows, forbids, wire', wire-bits, sense', told, sense-bits, EachSense, Senses, senses_by}

raise-row : (d : Delivery) → EachRow (raise' (direct_of d)) (raised d)
unfolding raised
raise-row d m wd lv lo wi p en t = row_of m wd lv lo wi p en _ t (raised d) (raise-bits d m wd lv lo wi p) refl

lower-row : (d : Delivery) → EachRow (lower' (direct_of d)) (lowered d)
unfolding lowered
lower-row d m wd lv lo wi p en t = row_of m wd lv lo wi p en _ t (lowered d) (lower-bits d m wd lv lo wi p) refl

sense-row : (d : Delivery) (on : Bool) → EachSense d on
unfolding sensed
sense-row d on m wd lv lo wi p en t = rw (sense-bits d m on wd lv lo wi p, wire-bits m on wi) (go m)
  where
    go : (m : Bool) → mk wd lv lo (pick m on wi) (told d m on wd lv lo wi p) en t ≡ pick m (sensed d on (mk wd lv lo wi p en t)) (mk wd lv lo wi p en t)
    go true = refl
    go false = refl

module _ (s : Sources) (d : Delivery) (mask e : ℕ) (b : Bool) (hb : b ≡ direct_of d) (he : (i : ℕ) → is_source i ≡ true → contains e i ≡ b) where
  pub raises : Raises s d mask e b hb he
  raises = raises_by s d mask e b hb he (raise-row d)

  pub lowers : Lowers s d mask e b hb he
  lowers = lowers_by s d mask e b hb he (lower-row d)

  pub senses : (on : Bool) → Senses s d mask e on b hb he
  senses on = senses_by s d mask e on b hb he (sense-row d on)

pub ruleset masks = (inputs_are, raises, lowers, allows, forbids, senses)
