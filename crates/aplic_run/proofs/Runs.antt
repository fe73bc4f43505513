-- A run, call by call: one more call adds its answer's words at the end. Assumes nothing.
use Prim.Native.Nat.{ℕ, zero, suc, ◌+◌, ◌*◌, ◌/◌, ◌<◌, ◌≤◌, min}
use mathlib.Core.List.{List, [], ◌∷◌, ◌++◌}
use mathlib.Core.Path.{◌≡◌, refl, sym, ap, ap₂, ◌∙◌}
use native.Mathlib.Numerals.{add-one}
use native.Mathlib.Omega.{arith}
use lib.ListN.{length, get_or, drop, length-set}
use lib.Seq.{sets, sets-eq, take_at, drop-append-add, drop-drop}
use Rattle.source.specs.declared.Delivery.{Delivery}
use Rattle.source.specs.Table.{Table, start_of}
use Rattle.aplic.specs.declared.Domain.{Domain}
use Rattle.aplic.specs.Domain.{table_of}
use Rattle.aplic_calls.specs.declared.Call.{Call}
use Rattle.aplic_calls.specs.Run.{Answer, after, answer, answers, after_all}
use Rattle.aplic_run.specs.declared.Reply.{Reply}
use Rattle.aplic_run.specs.Words.{call_of, calls_of, reply_of, words_of, runnable, answered, with_reply}

-- ---- one call more, at the end
third : (k a b : ℕ) (ws : List ℕ) (x i j : ℕ) → i ≡ suc (suc (suc j)) → x ≡ get_or (k ∷ a ∷ b ∷ ws) i 0 → x ≡ get_or ws j 0
third k a b ws x i j e h = h ∙ ap (λ (m : ℕ). get_or (k ∷ a ∷ b ∷ ws) m 0) e

calls_more : (ws : List ℕ) (n x y z : ℕ) → 3 * n + 3 ≤ length ws → x ≡ get_or ws (3 * n) 0 → y ≡ get_or ws (3 * n + 1) 0 → z ≡ get_or ws (3 * n + 2) 0
    → calls_of ws (suc n) ≡ calls_of ws n ++ (call_of x y z ∷ [])
calls_more [] n x y z l hx hy hz = absurd (omega arith)
calls_more (k ∷ []) n x y z l hx hy hz = absurd (omega arith)
calls_more (k ∷ a ∷ []) n x y z l hx hy hz = absurd (omega arith)
calls_more (k ∷ a ∷ b ∷ ws) zero x y z l hx hy hz = rw (hx, hy, hz)
calls_more (k ∷ a ∷ b ∷ ws) (suc n) x y z l hx hy hz =
    ap (λ (cs : List Call). call_of k a b ∷ cs)
    (calls_more ws n x y z (omega arith)
    (third k a b ws x (3 * suc n) (3 * n) (omega arith) hx)
    (third k a b ws y (3 * suc n + 1) (3 * n + 1) (omega arith) hy)
    (third k a b ws z (3 * suc n + 2) (3 * n + 2) (omega arith) hz))

answers_more : (t : Table) (cs : List Call) (c : Call) → answers t (cs ++ (c ∷ [])) ≡ answers t cs ++ (answer (after_all t cs) c ∷ [])
answers_more t [] c = refl
answers_more t (d ∷ cs) c = ap (λ (xs : List Answer). answer t d ∷ xs) (answers_more (after t d) cs c)

after_more : (t : Table) (cs : List Call) (c : Call) → after_all t (cs ++ (c ∷ [])) ≡ after (after_all t cs) c
after_more t [] c = refl
after_more t (d ∷ cs) c = after_more (after t d) cs c

words_more : (xs : List Answer) (x : Answer) → words_of (xs ++ (x ∷ [])) ≡ words_of xs ++ words_of (x ∷ [])
words_more [] x = refl
words_more (y ∷ xs) x = ap (λ (ws : List ℕ). (reply_of y).kind ∷ (reply_of y).first ∷ (reply_of y).second ∷ (reply_of y).third ∷ ws) (words_more xs x)

-- ---- n calls have 4 n words of answers
calls-length : (ws : List ℕ) (n : ℕ) → 3 * n ≤ length ws → length (calls_of ws n) ≡ n
calls-length ws zero l = refl
calls-length [] (suc n) l = absurd (omega arith)
calls-length (k ∷ []) (suc n) l = absurd (omega arith)
calls-length (k ∷ a ∷ []) (suc n) l = absurd (omega arith)
calls-length (k ∷ a ∷ b ∷ ws) (suc n) l = ap suc (calls-length ws n (omega arith))

words-length : (t : Table) (cs : List Call) → length (words_of (answers t cs)) ≡ 4 * length cs
words-length t [] = refl
words-length t (c ∷ cs) = omega (arith, words-length (after t c) cs)

-- ---- an answer put behind the words p
put-sets : (out : List ℕ) (at : ℕ) (r : Reply) → with_reply out at r ≡ sets out at (r.kind ∷ r.first ∷ r.second ∷ r.third ∷ [])
put-sets out at r =
    let a1 : at + 1 ≡ suc at = omega arith in
    let a2 : at + 2 ≡ suc (suc at) = omega arith in
    let a3 : at + 3 ≡ suc (suc (suc at)) = omega arith in
    rw (a1, a2, a3)

rest-behind : (p before : List ℕ) (at : ℕ) → length p ≡ at → drop (at + 4) (p ++ drop at before) ≡ drop (at + 4) before
rest-behind p before at e = ap (λ (k : ℕ). drop (k + 4) (p ++ drop at before)) (sym e) ∙ drop-append-add p (drop at before) 4 ∙ drop-drop 4 at before

put-behind : (p before : List ℕ) (at : ℕ) (r : Reply) → length p ≡ at → at + 4 ≤ length (p ++ drop at before)
    → with_reply (p ++ drop at before) at r ≡ (p ++ (r.kind ∷ r.first ∷ r.second ∷ r.third ∷ [])) ++ drop (at + 4) before
put-behind p before at r e l =
    let vs = r.kind ∷ r.first ∷ r.second ∷ r.third ∷ [] in
    put-sets (p ++ drop at before) at r
    ∙ sets-eq vs (p ++ drop at before) at l
    ∙ ap₂ (λ (x y : List ℕ). (x ++ vs) ++ y) (take_at p (drop at before) at e) (rest-behind p before at e)

-- what the buffer holds after n calls from a table
unfoldable pub answered_from : Table → List ℕ → List ℕ → ℕ → List ℕ
answered_from start calls before n = words_of (answers start (calls_of calls n)) ++ drop (4 * n) before

from_start : (d : Delivery) (calls before : List ℕ) (n : ℕ) → answered_from (start_of d) calls before n ≡ answered d calls before n
unfolding answered answered_from
from_start d calls before n = refl

-- ---- n of the calls are run: their answers are in the buffer, and the domain is as they leave it
pub record Replayed (start : Table) (calls before : List ℕ) (end n : ℕ) (d : Domain) (out : List ℕ) : Type 0 where
  pub turns : n ≤ end
  pub whole : 3 * end ≤ length calls
  pub room : 4 * end ≤ length before
  pub long : length out ≡ length before
  pub table : table_of d ≡ after_all (start) (calls_of calls n)
  pub words : out ≡ answered_from start calls before n

pub none-run : (start : Table) (calls before : List ℕ) (end : ℕ) (d : Domain) → end ≡ min (length calls / 3) (length before / 4) → table_of d ≡ start → Replayed start calls before end 0 d before
unfolding answered_from
none-run start calls before end d e h =
    record {
      turns = omega arith;
      whole = omega arith;
      room = omega arith;
      long = refl;
      table = h;
      words = refl;
    }

module _ (start : Table) (calls before : List ℕ) (end : ℕ) {n : ℕ} {d : Domain} {out : List ℕ} (p : Replayed start calls before end n d out) where
  room-left : n < end → 4 * n + 4 ≤ length out
  room-left l = omega (arith, p.room, p.long)

  module _ (c : Call) (more : calls_of calls (n + 1) ≡ calls_of calls n ++ (c ∷ [])) (l : n < end) where
    table_more : (e : Domain) → table_of e ≡ after (table_of d) c → table_of e ≡ after_all (start) (calls_of calls (n + 1))
    table_more e h =
        h
        ∙ ap (λ (t : Table). after t c) p.table
        ∙ sym (ap (after_all (start)) more ∙ after_more (start) (calls_of calls n) c)

    answers-then : words_of (answers (start) (calls_of calls (n + 1))) ≡ words_of (answers (start) (calls_of calls n)) ++ words_of (answer (table_of d) c ∷ [])
    answers-then =
        ap (λ (cs : List Call). words_of (answers (start) cs)) more
        ∙ ap words_of (answers_more (start) (calls_of calls n) c)
        ∙ words_more (answers (start) (calls_of calls n)) (answer (after_all (start) (calls_of calls n)) c)
        ∙ ap (λ (t : Table). words_of (answers (start) (calls_of calls n)) ++ words_of (answer t c ∷ [])) (sym p.table)

    words-then : (r : Reply) → r ≡ reply_of (answer (table_of d) c) → with_reply out (4 * n) r ≡ answered_from start calls before (n + 1)
    unfolding answered_from
    words-then r h =
        let w = words_of (answers (start) (calls_of calls n)) in
        let e : length w ≡ 4 * n = words-length (start) (calls_of calls n) ∙ ap (λ (k : ℕ). 4 * k) (calls-length calls n (omega (arith, p.whole))) in
        let f : 4 * n + 4 ≡ 4 * (n + 1) = omega arith in
        ap (λ (o : List ℕ). with_reply o (4 * n) r) p.words
        ∙ put-behind w before (4 * n) r e (rw p.words at (room-left l))
        ∙ ap₂ (λ (s : Reply) (k : ℕ). (w ++ (s.kind ∷ s.first ∷ s.second ∷ s.third ∷ [])) ++ drop k before) h f
        ∙ ap (λ (o : List ℕ). o ++ drop (4 * (n + 1)) before) (sym answers-then)

  pub one_more : (c : Call) (e : Domain) (r : Reply) (o : List ℕ) → n < end
      → c ≡ call_of (get_or calls (3 * n) 0) (get_or calls (3 * n + 1) 0) (get_or calls (3 * n + 2) 0)
      → table_of e ≡ after (table_of d) c
      → r ≡ reply_of (answer (table_of d) c)
      → o ≡ with_reply out (4 * n) r
      → Replayed start calls before end (n + 1) e o
  one_more c e r o l hc he hr ho =
      let more : calls_of calls (n + 1) ≡ calls_of calls n ++ (c ∷ []) = rw (add-one n, hc) (calls_more calls n _ _ _ (omega (arith, p.whole)) refl refl refl) in
      record {
        turns = omega arith;
        whole = p.whole;
        room = p.room;
        long = ap length ho ∙ simp length-set p.long;
        table = table_more c more l e he;
        words = ho ∙ words-then c more l r hr;
      }

  pub all-run : (d : Delivery) → start ≡ start_of d → end ≡ min (length calls / 3) (length before / 4) → end ≤ n → (end ≡ runnable calls before) × (out ≡ answered d calls before (runnable calls before))
  unfolding runnable
  all-run d q e l =
      let z : n ≡ min (length calls / 3) (length before / 4) = omega (arith, p.turns) in
      (e, p.words ∙ ap₂ (λ (t : Table) (k : ℕ). answered_from t calls before k) q z ∙ from_start d calls before (min (length calls / 3) (length before / 4)))
