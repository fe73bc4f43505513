-- What a wire, a read and a forward make of the table that the words stand for, and tell of it. Assumes nothing.
use mathlib.Core.Path.{◌≡◌, sym, ap, ap₂, ◌∙◌, subst}
use mathlib.Core.Bool.{Bool, true, false, not, ◌&&◌}
use mathlib.Core.List.{List}
use Prim.Native.Nat.{ℕ, ◌<◌, ◌≤◌}
use lib.ListN.{length}
use Rattle.std.specs.Prelude.{Some, None}
use Rattle.word.specs.Word.{contains, is_source, only}
use Rattle.register.specs.declared.BitRegister.{BitRegister}
use Rattle.register.specs.declared.Register.{Register}
use Rattle.register.specs.declared.Register.TheVariants.{DomainCfg, SourceCfg, OfBits, Target, Nothing}
use Rattle.register.specs.declared.Idc.{Idc}
use Rattle.register.specs.declared.Idc.TheVariants.{ClaimI}
use Rattle.register.specs.Register.{register_of, idc_of}
use Rattle.register.proofs.Known.{source-above, source-below, target-above, target_below}
use Rattle.source.specs.declared.Delivery.{Delivery}
use Rattle.source.specs.declared.Source.{Source}
use Rattle.source.specs.Source.{direct_of, number_of, sensed, lowered}
use Rattle.sources.specs.declared.Sources.{Sources}
use Rattle.sources.specs.Sources.{source_of, table_with, Acts, first_waiting}
use Rattle.aplic_calls.specs.declared.Msi.{Msi}
use Rattle.aplic_calls.specs.Direct.{claims}
use Rattle.aplic_calls.specs.Calls.{wire_table, read_bits, read_register, domain_word, forward_table, sends, sent_of, msi_of}
use Rattle.aplic_calls.specs.Code.{Shows}
use Rattle.aplic_calls.proofs.Tables.{row_at, wired-table, told, none-sent, none-waits, kept_table, kept-sent, forwarded_table, forwarded_sent}
use Rattle.aplic_words.specs.State.{enable_in, sources_in, delivery_in, target_in, common_in, table_in, with_sources}
use Rattle.aplic_words.proofs.States.{table-put}

-- ---- by the sources in the words
module _ (ws : List ℕ) (long : 87 ≤ length ws) (s : Sources) (hs : s ≡ sources_in ws) where
  -- a wire
  pub wire_goes : (d : Delivery) (n mask : ℕ) (level : Bool) (r : Sources) (out : List ℕ) → d ≡ delivery_in ws → ((i : ℕ) → is_source i ≡ true → contains mask i ≡ only n i) → Acts (contains mask) (sensed d level) s r
      → out ≡ with_sources ws r → table_in out ≡ wire_table n level (table_in ws)
  unfolding table_in
  wire_goes d n mask level r out hd h a e =
      ap table_in e ∙ table-put ws r long ∙ wired-table (common_in ws) s (target_in ws) n level mask r h (subst (λ (m : Delivery). Acts (contains mask) (sensed m level) s r) hd a) ∙ ap (λ (x : Sources). wire_table n level (table_with (common_in ws) x (target_in ws))) hs

  -- a read of a register of bits
  pub read_bits_lem : (o x : ℕ) (g : Register) (b : BitRegister) → g ≡ register_of o → g ≡ OfBits b → Shows b s x → x ≡ read_register (register_of o) (table_in ws)
  unfolding read_register table_in Shows
  read_bits_lem o x g b p q h = told o x g p (OfBits b) (table_in ws) q (h (common_in ws) (target_in ws) ∙ ap (λ (z : Sources). read_bits b (table_with (common_in ws) z (target_in ws))) hs)

  pub read-source : (o x n : ℕ) (g : Register) → g ≡ register_of o → g ≡ SourceCfg n → x ≡ number_of (source_of s n 0).mode → x ≡ read_register (register_of o) (table_in ws)
  unfolding read_register table_in source_of
  read-source o x n g p q e =
      told o x g p (SourceCfg n) (table_in ws) q
      (e ∙ ap (λ (z : Sources). number_of (source_of z n 0).mode) hs
      ∙ ap (λ (y : Source). number_of y.mode) (row_at (common_in ws) (sources_in ws) (sources_in ws) (target_in ws) n (source-above o n g p q) (source-below o n g p q)))

  -- a forward
  module _ (n : ℕ) (hn : n ≡ first_waiting s) where
    top : n ≡ first_waiting (sources_in ws)
    top = hn ∙ ap first_waiting hs

    pub forward-none : 64 ≤ n → sends (table_in ws) ≡ false
    unfolding table_in
    forward-none l = none-waits (common_in ws) (sources_in ws) (target_in ws) n top l

    pub forward-goes : (d : Delivery) (ie b : Bool) (mask : ℕ) (r : Sources) (out : List ℕ) → d ≡ delivery_in ws → ie ≡ enable_in ws → b ≡ direct_of d → ie && not b ≡ true → n < 64 → ((i : ℕ) → is_source i ≡ true → contains mask i ≡ only n i) → Acts (contains mask) (lowered d) s r → out ≡ with_sources ws r
        → table_in out ≡ forward_table (table_in ws)
    unfolding table_in
    forward-goes d ie b mask r out hd hi hb e l h a ho =
        ap table_in ho ∙ table-put ws r long
        ∙ forwarded_table (common_in ws) s (target_in ws) n hn b (hb ∙ ap direct_of hd) (ap (λ (x : Bool). x && not b) (sym hi) ∙ e) l mask r h (subst (λ (m : Delivery). Acts (contains mask) (lowered m) s r) hd a)
        ∙ ap (λ (x : Sources). forward_table (table_with (common_in ws) x (target_in ws))) hs

    pub forward-sends : (d : Delivery) (ie b : Bool) (t : ℕ) (m : Msi) → d ≡ delivery_in ws → ie ≡ enable_in ws → b ≡ direct_of d → ie && not b ≡ true → n < 64 → t ≡ target_in ws n → m ≡ msi_of t → Some m ≡ sent_of (table_in ws)
    unfolding table_in
    forward-sends d ie b t m hd hi hb e l ht hm = forwarded_sent (common_in ws) (sources_in ws) (target_in ws) n top b (hb ∙ ap direct_of hd) (ap (λ (x : Bool). x && not b) (sym hi) ∙ e) l m (hm ∙ ap msi_of ht)

pub forward-off : (ws : List ℕ) (d : Delivery) (ie b : Bool) → d ≡ delivery_in ws → ie ≡ enable_in ws → b ≡ direct_of d → ie && not b ≡ false → sends (table_in ws) ≡ false
unfolding table_in
forward-off ws d ie b hd hi hb e = none-sent (common_in ws) (sources_in ws) (target_in ws) b (hb ∙ ap direct_of hd) (ap (λ (x : Bool). x && not b) (sym hi) ∙ e)

-- what is forwarded isn't nothing
pub forward-changes : (m : Msi) (xs ys : List ℕ) → Some m ≡ None → xs ≡ ys
forward-changes m xs ys e = cc

-- ---- the other arms of a read
module _ (ws : List ℕ) (o v : ℕ) (g : Register) (p : g ≡ register_of o) where
  pub read-nothing : g ≡ Nothing → v ≡ 0 → v ≡ read_register (register_of o) (table_in ws)
  unfolding read_register
  read-nothing q e = told o v g p Nothing (table_in ws) q e

  pub read-domain : (ie : Bool) (d : Delivery) → g ≡ DomainCfg → ie ≡ enable_in ws → d ≡ delivery_in ws → v ≡ domain_word ie d → v ≡ read_register (register_of o) (table_in ws)
  unfolding read_register table_in table_with
  read-domain ie d q hi hd e = told o v g p DomainCfg (table_in ws) q (e ∙ ap₂ (λ (b : Bool) (m : Delivery). domain_word b m) hi hd)

  pub read-target : (n : ℕ) → g ≡ Target n → v ≡ target_in ws n → v ≡ read_register (register_of o) (table_in ws)
  unfolding read_register table_in source_of
  read-target n q e =
      told o v g p (Target n) (table_in ws) q
      (e ∙ ap (λ (y : Source). y.target) (row_at (common_in ws) (sources_in ws) (sources_in ws) (target_in ws) n (target-above o n g p q) (target_below o n g p q)))

-- ---- the IDC structures
module _ (ws : List ℕ) (o : ℕ) (g : Idc) (p : g ≡ idc_of o) where
  module _ (xs ys : List ℕ) where
    -- a claim where it is none
    pub claimed_else : (h : ℕ) → g ≡ ClaimI h → (direct_of (delivery_in ws) ≡ false → xs ≡ ys) → claims (delivery_in ws) (idc_of o) ≡ false → xs ≡ ys
    unfolding claims
    claimed_else h q f e = f (ap (claims (delivery_in ws)) (sym q ∙ p) ∙ e)

pub ruleset reads = (read-nothing, read-domain, read_bits_lem, read-source, read-target)

pub ruleset forwards = (kept_table, kept-sent, forward-off, forward-none, forward-goes, forward-sends, forward-changes)
