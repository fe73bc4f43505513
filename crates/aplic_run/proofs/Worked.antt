-- Runs as the definitions have them. Assumes nothing.
use Prim.Native.Nat.{ℕ}
use mathlib.Core.List.{List, [], ◌∷◌}
use mathlib.Core.Path.{◌≡◌, refl}
use lib.ListN.{replicate}
use Rattle.word.specs.Word.{contains, word_of, lowest, chosen, only}
use Rattle.register.specs.Register.{pending_register, enable_register, register_of, idc_of}
use Rattle.hart.specs.Hart.{hart_refusal, wrote_of, unforced, passes, top_word}
use Rattle.source.specs.declared.Delivery.TheVariants.{Direct, Message}
use Rattle.source.specs.Source.{sensed, raised, lowered, handed, allowed, configured, aimed}
use Rattle.aplic_calls.specs.Direct.{serves, with_hart, contributes, leads, top_at, topi, claim_table, claim_hart, claimed, claim_value, write_hart, write_idc, read_idc, claimed_by, signalled}
use Rattle.aplic_calls.specs.Calls.{after_read, wire_table, wire_refusal, write_table, write_register, enabled_by, concerned, change, forward_table, sent_of, sends, top_of, read_table, read_register, read_bits}
use Rattle.aplic_run.specs.Words.{call_of, late_call, runnable, answered}

-- message delivery: source 1 is configured, aimed, enabled and raised; the first forward sends it, the second has nothing to send.
-- domaincfg.IE; sourcecfg[1] is edge1; target[1] is hart 2, guest 1, identity 5 (0x8_1005); setienum 1; wire 1 high; two forwards; a wire that is none; a read of target[1]; and a word that is no call
abbrev pub calls : List ℕ
calls = 1 ∷ 0 ∷ 0x100 ∷ 1 ∷ 4 ∷ 4 ∷ 1 ∷ 0x3004 ∷ 0x8_1005 ∷ 1 ∷ 0x1EDC ∷ 1 ∷ 0 ∷ 1 ∷ 1 ∷ 3 ∷ 0 ∷ 0 ∷ 3 ∷ 0 ∷ 0 ∷ 0 ∷ 64 ∷ 1 ∷ 2 ∷ 0x3004 ∷ 0 ∷ 7 ∷ []

abbrev pub words : List ℕ
words = 1 ∷ 0 ∷ 0 ∷ 0 ∷ 1 ∷ 0 ∷ 0 ∷ 0 ∷ 1 ∷ 0 ∷ 0 ∷ 0 ∷ 1 ∷ 0 ∷ 0 ∷ 0 ∷ 0 ∷ 0 ∷ 0 ∷ 0 ∷ 4 ∷ 2 ∷ 1 ∷ 5 ∷ 3 ∷ 0 ∷ 0 ∷ 0 ∷ 0 ∷ 2014 ∷ 0 ∷ 0 ∷ 2 ∷ 0x8_1005 ∷ 0 ∷ 0 ∷ 9 ∷ 9 ∷ []

pub nine_run : runnable calls (replicate 38 9) ≡ 9
unfolding runnable
nine_run = refl

-- 36 words of answers; the last two of the buffer stay
pub nine_answered : answered Message calls (replicate 38 9) 9 ≡ words
unfolding answered call_of late_call contains word_of lowest chosen only pending_register enable_register register_of sensed raised lowered handed allowed configured aimed wire_table wire_refusal write_table write_register enabled_by concerned change forward_table sent_of sends top_of read_table read_register read_bits
nine_answered = refl

-- a buffer with room for one answer alone
pub one-run : runnable calls (replicate 7 9) ≡ 1
unfolding runnable
one-run = refl

-- direct delivery: sources 1 (edge1) and 2 (level1) go to hart 3, with priority 0, kept as 1, and priority 1. The tie is won by source 1; a claim of source 2 doesn't
-- clear it. domaincfg.IE; sourcecfg[1], sourcecfg[2]; target[1], target[2]; setienum 1 and 2; both wires high; whether hart 3 is signalled, before idelivery is set
-- and after; three claims by hart 3; one by hart 16, which is none; a forward; a read of target[1]
abbrev pub direct-calls : List ℕ
direct-calls = 1 ∷ 0 ∷ 0x100 ∷ 1 ∷ 4 ∷ 4 ∷ 1 ∷ 8 ∷ 6 ∷ 1 ∷ 0x3004 ∷ 0xc0000 ∷ 1 ∷ 0x3008 ∷ 0xc0001 ∷ 1 ∷ 0x1edc ∷ 1 ∷ 1 ∷ 0x1edc ∷ 2 ∷ 0 ∷ 1 ∷ 1 ∷ 0 ∷ 2 ∷ 1 ∷ 5 ∷ 3 ∷ 0 ∷ 1 ∷ 0x4060 ∷ 1 ∷ 5 ∷ 3 ∷ 0 ∷ 4 ∷ 3 ∷ 0 ∷ 4 ∷ 3 ∷ 0 ∷ 4 ∷ 3 ∷ 0 ∷ 4 ∷ 16 ∷ 0 ∷ 3 ∷ 0 ∷ 0 ∷ 2 ∷ 0x3004 ∷ 0 ∷ []

abbrev pub direct-words : List ℕ
direct-words = 1 ∷ 0 ∷ 0 ∷ 0 ∷ 1 ∷ 0 ∷ 0 ∷ 0 ∷ 1 ∷ 0 ∷ 0 ∷ 0 ∷ 1 ∷ 0 ∷ 0 ∷ 0 ∷ 1 ∷ 0 ∷ 0 ∷ 0 ∷ 1 ∷ 0 ∷ 0 ∷ 0 ∷ 1 ∷ 0 ∷ 0 ∷ 0 ∷ 0 ∷ 0 ∷ 0 ∷ 0 ∷ 0 ∷ 0 ∷ 0 ∷ 0 ∷ 6 ∷ 0 ∷ 0 ∷ 0 ∷ 1 ∷ 0 ∷ 0 ∷ 0 ∷ 6 ∷ 0 ∷ 1 ∷ 0 ∷ 5 ∷ 0 ∷ 0x10001 ∷ 0 ∷ 5 ∷ 0 ∷ 0x20001 ∷ 0 ∷ 5 ∷ 0 ∷ 0x20001 ∷ 0 ∷ 5 ∷ 2014 ∷ 0 ∷ 0 ∷ 3 ∷ 0 ∷ 0 ∷ 0 ∷ 2 ∷ 0xc0001 ∷ 0 ∷ 0 ∷ []

pub direct-answered : answered Direct direct-calls (replicate 72 9) 18 ≡ direct-words
unfolding answered call_of late_call contains word_of lowest chosen only pending_register enable_register register_of idc_of hart_refusal wrote_of unforced passes top_word sensed raised lowered handed allowed configured aimed serves with_hart contributes leads top_at topi claim_table claim_hart claimed claim_value write_hart write_idc read_idc signalled wire_table wire_refusal write_table write_register enabled_by concerned change forward_table sent_of sends top_of read_table read_register read_bits claimed_by after_read
direct-answered = refl
