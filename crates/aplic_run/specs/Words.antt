-- Calls and answers as words, and what a run of calls leaves in a buffer.
use Rattle.std.specs.Prelude.{ℕ, Bool, Some, None, Result, Ok, Err, zero, suc, ◌+◌, ◌*◌, ◌/◌, ◌%◌, ◌^◌, min, not, List, [], ◌∷◌, ◌++◌, eqb, length, drop, set}
use Rattle.memory.specs.Choice.{pick}
use Rattle.word.specs.Word.{digit}
use Rattle.source.specs.declared.Delivery.{Delivery}
use Rattle.source.specs.Table.{start_of}
use Rattle.refusal.specs.declared.Refusal.{Refusal}
use Rattle.refusal.specs.Refusal.{number_of}
use Rattle.aplic_calls.specs.declared.Call.{Call}
use Rattle.aplic_calls.specs.declared.Call.TheVariants.{Wire, Write, Read, Forward, Claim, Signal}
use Rattle.aplic_calls.specs.Run.{Answer, refusal, done, value, sent, took, asserted, answers}
use Rattle.aplic_run.specs.declared.Reply.{Reply}

-- a call is three words: its kind, a and b. 0: wire a takes the level b, high unless b is 0; 1: b's low 32 bits are written at offset a; 2: offset a is read;
-- 4: hart a claims; 5: whether hart a is signalled; any other: forward
unfoldable pub late_call : ℕ → ℕ → Call
late_call kind a = pick (eqb kind 4) (Claim a) (pick (eqb kind 5) (Signal a) Forward)

unfoldable pub call_of : ℕ → ℕ → ℕ → Call
call_of kind a b = pick (eqb kind 0) (Wire a (not (eqb b 0))) (pick (eqb kind 1) (Write a (b % 2 ^ 32)) (pick (eqb kind 2) (Read a) (late_call kind a)))

-- the first n calls of a list of words; words that make no whole call are none
abbrev pub calls_of : List ℕ → ℕ → List Call
calls_of ws zero = []
calls_of [] (suc n) = []
calls_of (k ∷ []) (suc n) = []
calls_of (k ∷ a ∷ []) (suc n) = []
calls_of (k ∷ a ∷ b ∷ ws) (suc n) = call_of k a b ∷ calls_of ws n

-- four words of which the last two are 0
abbrev pub short : ℕ → ℕ → Reply
short kind first = record { kind = kind; first = first; second = 0; third = 0 }

abbrev pub pair : ℕ → ℕ → ℕ → Reply
pair kind first second = record { kind = kind; first = first; second = second; third = 0 }

-- an answer is four words. 0: a wire, and 0 or its refusal; 1: a write; 2: a read, and the value; 3: a forward with nothing to send; 4: a message's hart, guest and identity;
-- 5: a claim, 0 or its refusal, and the value; 6: a signal, 0 or its refusal, and 1 where it is asserted
abbrev pub reply_of : Answer → Reply
reply_of (refusal n) = short 0 n
reply_of done = short 1 0
reply_of (value v) = short 2 v
reply_of (sent None) = short 3 0
reply_of (sent (Some m)) = record { kind = 4; first = m.hart; second = m.guest; third = m.identity }
reply_of (took r v) = pair 5 r v
reply_of (asserted r b) = pair 6 r (digit b)

-- the words of some answers, one after the other
abbrev pub words_of : List Answer → List ℕ
words_of [] = []
words_of (x ∷ xs) = (reply_of x).kind ∷ (reply_of x).first ∷ (reply_of x).second ∷ (reply_of x).third ∷ words_of xs

-- how many calls are run: as many as are whole and as their answers have room for
unfoldable pub runnable : List ℕ → List ℕ → ℕ
runnable calls out = min (length calls / 3) (length out / 4)

-- n answers of the table of separate sources and harts, from the start in a delivery mode, and then the buffer's further words as they were
unfoldable pub answered : Delivery → List ℕ → List ℕ → ℕ → List ℕ
answered d calls out n = words_of (answers (start_of d) (calls_of calls n)) ++ drop (4 * n) out

-- the rest is nothing that a reader has to believe: how the code tells what a wire, a claim and a signal told, and how it puts an answer, by four stores
abbrev pub wired_reply : Result Unit Refusal → Reply
wired_reply (Ok u) = short 0 0
wired_reply (Err r) = short 0 (number_of r)

abbrev pub claimed_reply : Result ℕ Refusal → Reply
claimed_reply (Ok v) = pair 5 0 v
claimed_reply (Err r) = pair 5 (number_of r) 0

abbrev pub signalled_reply : Result Bool Refusal → Reply
signalled_reply (Ok b) = pair 6 0 (digit b)
signalled_reply (Err r) = pair 6 (number_of r) 0

abbrev pub with_reply : List ℕ → ℕ → Reply → List ℕ
with_reply out at r = set (set (set (set out at r.kind) (at + 1) r.first) (at + 2) r.second) (at + 3) r.third
