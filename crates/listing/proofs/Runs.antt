-- What is printed of a run on a fresh state, from what `owned::shown` hands back: one register, one count and one record more than a state has, which are 0.
-- Assumes nothing.
use Prim.Native.Nat.{ℕ, suc}
use mathlib.Core.Bool.{Bool, true, false, not, cond}
use mathlib.Core.Path.{◌≡◌, refl, sym, ap, ◌∙◌}
use mathlib.Core.List.{List, [], ◌∷◌, ◌++◌}
use native.Mathlib.Omega.{arith}
use lib.Dec.{ltb}
use lib.IntN.{ℤ, pos}
use lib.ListN.{length, replicate}
use Rattle.code.proofs.Foreign.{only_foreign}
use Rattle.code.specs.Reader.{read_code}
use Rattle.machine.specs.Answers.{Returned, answered, returned, sum_of, fitting, run_of, run_reply, fresh_reply, right_lengths, fresh_of, fresh_call, run_call}
use Rattle.machine.specs.FitTest.{fits}
use Rattle.machine.specs.Steps.{State, state_from, Ran, run, fresh}
use Rattle.machine.specs.declared.RunReply.{RunReply}
use Rattle.owned.specs.Owned.{on_first, freshly_run}
use Rattle.script.specs.Jobs.{Job}
use Rattle.script.specs.Outcome.{Outcome, refused, done, onward, refuse}
use Rattle.stm.specs.Events.{Counts}
use Rattle.thread.specs.Threads.{blank, exists}
use Rattle.thread.specs.declared.Thread.{Thread}
use Rattle.listing.specs.Listed.{counts_line, thread_line, thread_lines, register_line, register_lines, listing, refusal_line, printed}

-- the counts of an answer
abbrev pub counts_in : RunReply → Counts
counts_in r = record { steps = r.steps; idle = r.idle; commits = r.commits; back = r.back; over = r.over }

threads_blank : (i : ℕ) (ts : List Thread) → thread_lines i (ts ++ (blank ∷ [])) ≡ thread_lines i ts
unfolding thread_lines blank
threads_blank i [] = refl
threads_blank i (t ∷ ts) = ap (cond (exists t) (thread_line i t) [] ++◌) (threads_blank (suc i) ts)

registers_zero : (v : ℕ) (ns : List ℤ) → register_lines v (ns ++ (pos 0 ∷ [])) ≡ register_lines v ns
unfolding register_lines register_line
registers_zero v [] = refl
registers_zero v (n ∷ ns) = ap (register_line v n ++◌) (registers_zero (suc v) ns)

-- what is blank is not listed
same_listing : (c : Counts) (rs : List ℤ) (ns : List ℕ) (ts : List Thread) → listing c (state_from (rs ++ (pos 0 ∷ [])) (ns ++ (0 ∷ [])) (ts ++ (blank ∷ []))) ≡ listing c (state_from rs ns ts)
unfolding listing
same_listing c rs ns ts = ap (λ (l : List ℕ). counts_line c ++ (l ++ register_lines 0 (rs ++ (pos 0 ∷ [])))) (threads_blank 0 ts) ∙ ap (λ (l : List ℕ). counts_line c ++ (thread_lines 0 ts ++ l)) (registers_zero 0 rs)

module _ (s : State) where
  -- what a call returns that comes to this
  abbrev back : Outcome Ran → Returned RunReply
  back o = returned (λ (r : Ran). r.state) run_reply s o

  listing_of : (o : Outcome Ran) → ((n p : ℕ) → o ≡ refused n p → n ≡ 0 → ⊥) → (back o).reply.refusal ≡ 0 → listing (counts_in (back o).reply) (back o).state ≡ printed o
  unfolding printed
  listing_of (refused n p) numbered e = absurd (numbered n p refl e)
  listing_of (done r) numbered e = refl

  refusal-of : (o : Outcome Ran) → ((back o).reply.refusal ≡ 0 → ⊥) → refusal_line (back o).reply.refusal (back o).reply.place ≡ printed o
  unfolding printed
  refusal-of (refused n p) h = refl
  refusal-of (done r) h = absurd (h refl)

-- no refusal has number 0
numbered : (code : List ℕ) (s : State) (is : List ℕ) (n p : ℕ) → run_of code s is ≡ refused n p → n ≡ 0 → ⊥
unfolding run_of
numbered code s is n p e z = go (read_code code) refl e
  where
    by_tests : (j : Job) (t u : Bool) → refuse t 12 0 (refuse u 13 0 (done (run (sum_of j) code s is))) ≡ refused n p → ⊥
    by_tests j true u e = let w : ◌≡◌ {A = ℕ} 12 n = cc in omega (arith, w, z)
    by_tests j false true e = let w : ◌≡◌ {A = ℕ} 13 n = cc in omega (arith, w, z)
    by_tests j false false e = absurd (let w : ◌≡◌ {A = ℕ} 0 1 = cc in omega arith)

    go : (o : Outcome Job) → read_code code ≡ o → onward o (λ (j : Job). fitting code s (refuse (ltb 32768 (length is)) 13 0 (done (run (sum_of j) code s is)))) ≡ refused n p → ⊥
    go (refused m q) c e = let h = only_foreign code m q c in let w : ◌≡◌ {A = ℕ} m n = cc in omega (arith, w, z, h.0)
    go (done j) c e = by_tests j (not (fits code s)) (ltb 32768 (length is)) e

module _ (code picks : List ℕ) (j : Job) (accepted : read_code code ≡ done j) where
  -- 64 registers, 64 counts and 16 records
  abbrev lent : State
  lent = state_from (replicate 64 (pos 0)) (replicate 64 0) (replicate 16 blank)

  -- over them a fresh state is laid down
  laid : (fresh_call code lent).state ≡ fresh code
  unfolding fresh_call fresh_of
  laid = ap (λ (o : Outcome Job). (returned (λ (r : State). r) fresh_reply lent (onward o (λ (k : Job). right_lengths lent (done (fresh code))))).state) accepted

  -- the run of it
  abbrev ran : Returned RunReply
  ran = run_call code (fresh code) picks

  -- what `owned::shown` hands back
  abbrev shown : Returned RunReply
  shown = on_first 64 64 16 (freshly_run code picks) (replicate 65 (pos 0)) (replicate 65 0) (replicate 17 blank)

  shown_is : shown ≡ answered (ran.state.registers ++ (pos 0 ∷ [])) (ran.state.counts ++ (0 ∷ [])) (ran.state.threads ++ (blank ∷ [])) ran.reply
  shown_is = ap (λ (s : State). let r = run_call code s picks in answered (r.state.registers ++ (pos 0 ∷ [])) (r.state.counts ++ (0 ∷ [])) (r.state.threads ++ (blank ∷ [])) r.reply) laid

  module _ (rs : List ℤ) (ns : List ℕ) (ts : List Thread) (reply : RunReply) (f : answered rs ns ts reply ≡ shown) where
    told : reply ≡ ran.reply
    told = ap (λ (r : Returned RunReply). r.reply) (f ∙ shown_is)

    -- the listing of a run that is taken
    pub listing_text : reply.refusal ≡ 0 → listing (counts_in reply) (state_from rs ns ts) ≡ printed (run_of code (fresh code) picks)
    unfolding run_call
    listing_text e =
        ap (λ (r : Returned RunReply). listing (counts_in r.reply) r.state) (f ∙ shown_is) ∙ same_listing (counts_in ran.reply) ran.state.registers ran.state.counts ran.state.threads
        ∙ listing_of (fresh code) (run_of code (fresh code) picks) (numbered code (fresh code) picks) (ap (λ (r : RunReply). r.refusal) (sym told) ∙ e)

    -- and the line of one that is refused
    pub refusal_text : (reply.refusal ≡ 0 → ⊥) → refusal_line reply.refusal reply.place ≡ printed (run_of code (fresh code) picks)
    unfolding run_call
    refusal_text h = ap (λ (r : RunReply). refusal_line r.refusal r.place) told ∙ refusal-of (fresh code) (run_of code (fresh code) picks) (λ (e : ran.reply.refusal ≡ 0). h (ap (λ (r : RunReply). r.refusal) told ∙ e))
