-- Document 02 No. 4 holds for every accepted job. Assumes nothing.
use Prim.Native.Nat.{ℕ, zero, suc, ◌+◌, ◌≤◌, ◌<◌}
use mathlib.Core.Bool.{Bool, true, false}
use mathlib.Core.Logic.{◌↔◌}
use mathlib.Core.Path.{◌≡◌, refl, sym, ap, subst, ◌∙◌}
use mathlib.Core.List.{List}
use mathlib.Core.Option.{Option, none, some}
use native.Mathlib.Omega.{arith}
use borrow.Author.Tests.{eqb-true, eqb-false}
use lib.Dec.{eqb}
use lib.ListN.{length, set}
use Rattle.guarantee.specs.Histories.{Session, History, picks_taken}
use Rattle.guarantee.specs.Rules.{RuleNumbers, RulesNamed}
use Rattle.guarantee.proofs.Histories.{is_code, history_run}
use Rattle.code.specs.Bytes.{compiled, IsCode}
use Rattle.machine.specs.Answers.{sum_of, step_of, Told, step_call, rule_named, backs_of}
use Rattle.machine.specs.Fits.{CommitsPassed, Exists, Fits, Typed}
use Rattle.source.specs.Soup.{Soup, Name, source_rule, PickOn, rule_of}
use Rattle.source.specs.Source.{SThread}
use Rattle.machine.specs.Steps.{State, Stepped, thread_at, number_of, fresh, pick, Ran, run, table_in}
use Rattle.machine.proofs.Agrees.{outer, does_one}
use Rattle.source.proofs.Agrees.{pick_is_step}
use Rattle.source.proofs.Named.{named_used}
use Rattle.machine.proofs.Calls.{step-says}
use Rattle.machine.proofs.Found.{sent_back_first, looked_found}
use Rattle.machine.proofs.Fresh.{no_record, fresh_fits, fresh_typed}
use Rattle.machine.proofs.Keeps.{numbers_free}
use Rattle.machine.proofs.Numbers.{never}
use Rattle.machine.proofs.Passing.{passed_once, passed_root}
use Rattle.machine.proofs.Picks.{missing_idle, ended_idle}
use Rattle.machine.proofs.Stale.{stale_by}
use Rattle.machine.proofs.Ruled.{back_used, read_used, none_used, pick_marks, run_rule, run_backs, run_sum, pick_passes, run_passes}
use Rattle.script.specs.Bytes.{Bytes}
use Rattle.script.specs.Jobs.{Job}
use Rattle.script.specs.Outcome.{Outcome, refused, done, mapped}
use Rattle.script.specs.Reader.{read_job}
use Rattle.stm.specs.Counted.{Table}
use Rattle.stm.specs.Events.{Event, idle, pushed, summed, forked, begun, looked, wrote, committed, sent_back, is_idle, Happened, backs, counts_of}
use Rattle.stm.specs.Rules.{MachineRule, used_by, rule_number, held, last_rule}
use Rattle.stm.proofs.Rules.{rule-of-number, number_of_rule, no_rule, answer_number}
use Rattle.thread.specs.declared.Thread.{Thread}
use Rattle.thread.specs.Threads.{blank, exists, with_rule, spawned, stale}

pub rule_numbers : RuleNumbers
rule_numbers = record { rule-of-number = rule-of-number; number_of_rule = number_of_rule; no_rule = no_rule; answer_number = answer_number }

-- a pick that used a rule is not idle
used_busy : (e : Event) (m : MachineRule) → used_by e ≡ some m → is_idle e ≡ false
unfolding used_by
used_busy idle m q = absurd (let z : ◌≡◌ {A = ℕ} 0 1 = cc in omega arith)
used_busy pushed m q = refl
used_busy (summed inside) m q = refl
used_busy forked m q = refl
used_busy begun m q = refl
used_busy (looked from) m q = refl
used_busy wrote m q = refl
used_busy committed m q = refl
used_busy (sent_back v) m q = refl

same_name : {a b : Name} → ◌≡◌ {A = Option Name} (some a) (some b) → a ≡ b
same_name e = cc

-- the first records of a fresh state hold 0 of both
fresh_none : (bytes : List ℕ) (k : ℕ) → ((thread_at (fresh bytes) k).rule ≡ 0) × ((thread_at (fresh bytes) k).backs ≡ 0)
unfolding fresh spawned blank
fresh_none bytes zero = (refl, refl)
fresh_none bytes (suc k) = (ap (λ (t : Thread). t.rule) (no_record 15 k), ap (λ (t : Thread). t.backs) (no_record 15 k))

fresh_passed : (bytes : List ℕ) → CommitsPassed bytes (fresh bytes).threads 0
unfolding fresh spawned
fresh_passed bytes = passed_root 5 (length bytes) 15 (omega arith) refl

fresh_sum : (bytes : List ℕ) → backs_of (fresh bytes).threads ≡ 0
unfolding fresh spawned blank backs_of
fresh_sum bytes = refl

held_zero : (r : Option MachineRule) → held r 0 ≡ rule_number r
unfolding rule_number
held_zero none = refl
held_zero (some r) = refl

module _ (job : List ℕ) (j : Job) (b : Bytes job) (accepted : read_job job ≡ done j) where
  c : IsCode (compiled j) j
  c = is_code job j b accepted

  abbrev its : List ℕ
  its = compiled j

  names : (s : State) (i : ℕ) → rule_named (step_call its s i).reply ≡ mapped (λ (r : Stepped). used_by r.event) (step_of its s i)
  names s i = ap (mapped (λ (t : Told). used_by t.event)) (step-says its s i) ∙ again (step_of its s i)
    where
      again : (o : Outcome Stepped) → mapped (λ (t : Told). used_by t.event) (mapped (λ (r : Stepped). record { event = r.event; over = r.over }) o) ≡ mapped (λ (r : Stepped). used_by r.event) o
      again (refused number place) = refl
      again (done r) = refl

  idle_named : (s : State) → Fits its s → Typed s → (i : ℕ) → (used_by (pick (sum_of j) its s i).event ≡ none) ↔ (Exists s i → (thread_at s i).place ≡ (thread_at s i).end)
  unfolding used_by
  idle_named s f y i = (there, back)
    where
      there : used_by (pick (sum_of j) its s i).event ≡ none → Exists s i → (thread_at s i).place ≡ (thread_at s i).end
      there q e = go (eqb (thread_at s i).place (thread_at s i).end) refl
        where
          go : (b : Bool) → eqb (thread_at s i).place (thread_at s i).end ≡ b → (thread_at s i).place ≡ (thread_at s i).end
          go true z = eqb-true (thread_at s i).place (thread_at s i).end z
          go false z =
              let d = does_one c (sum_of j) s f y i e (eqb-false (thread_at s i).place (thread_at s i).end z) in
              never (ap is_idle (none_used (pick (sum_of j) its s i).event q)) d.not_idle

      back : (Exists s i → (thread_at s i).place ≡ (thread_at s i).end) → used_by (pick (sum_of j) its s i).event ≡ none
      back g = go (exists (thread_at s i)) refl
        where
          go : (b : Bool) → exists (thread_at s i) ≡ b → used_by (pick (sum_of j) its s i).event ≡ none
          go true e = ap (λ (r : Stepped). used_by r.event) (ended_idle (sum_of j) its (number_of s.threads) s i (g e))
          go false e = ap (λ (r : Stepped). used_by r.event) (missing_idle (sum_of j) its (number_of s.threads) s i e)

  by_source : (s : State) → Fits its s → Typed s → (soup : List SThread) → Soup its s soup → (i : ℕ) (m : MachineRule) → used_by (pick (sum_of j) its s i).event ≡ some m → (h' : Table) × ((soup' : List SThread) × ((p : PickOn its (sum_of j) s i soup h' soup') × ((source_rule m ≡ rule_of p.whole.step) × ((others : List SThread) → source_rule m ≡ rule_of (p.step others)))))
  by_source s f y soup x i m q =
      let k = pick_is_step c (sum_of j) s f y soup x i (used_busy (pick (sum_of j) its s i).event m q) in
      let n = sym (named_used (pick (sum_of j) its s i).event m q) in
      (k.0, (k.1.0, (k.1.1, (same_name (n ∙ k.1.1.whole.rule), λ others. same_name (n ∙ k.1.1.rule others)))))

  held_rule : {now : Session} {events : List Happened} → History its now events → (k : ℕ) → (thread_at now.state k).rule ≡ rule_number (last_rule k events)
  held_rule {now} {events} h k =
      let m = history_run job j b accepted h in
      let a = run_rule c (sum_of j) (fresh its) (fresh_fits its) (fresh_typed its) (picks_taken h) k in
      let z = ap (held (last_rule k (run (sum_of j) its (fresh its) (picks_taken h)).events)) (fresh_none its k).0 ∙ held_zero (last_rule k (run (sum_of j) its (fresh its) (picks_taken h)).events) in
      subst (λ (x : Ran). (thread_at x.state k).rule ≡ rule_number (last_rule k x.events)) m (a ∙ z)

  held_backs : {now : Session} {events : List Happened} → History its now events → (k : ℕ) → (thread_at now.state k).backs ≡ backs k events
  held_backs {now} {events} h k =
      let m = history_run job j b accepted h in
      let a = run_backs c (sum_of j) (fresh its) (fresh_fits its) (fresh_typed its) (picks_taken h) k in
      let z = (fresh_none its k).1 in
      subst (λ (x : Ran). (thread_at x.state k).backs ≡ backs k x.events) m (let w : (thread_at (run (sum_of j) its (fresh its) (picks_taken h)).state k).backs ≡ backs k (run (sum_of j) its (fresh its) (picks_taken h)).events = omega arith in w)

  add_up : {now : Session} {events : List Happened} → History its now events → backs_of now.state.threads ≡ (counts_of events).back
  add_up {now} {events} h =
      let m = history_run job j b accepted h in
      let a = run_sum c (sum_of j) (fresh its) (fresh_fits its) (fresh_typed its) (picks_taken h) in
      let z = fresh_sum its in
      subst (λ (x : Ran). backs_of x.state.threads ≡ (counts_of x.events).back) m (let w : backs_of (run (sum_of j) its (fresh its) (picks_taken h)).state.threads ≡ (counts_of (run (sum_of j) its (fresh its) (picks_taken h)).events).back = omega arith in w)

  all_commits : {now : Session} {events : List Happened} → History its now events → CommitsPassed its now.state.threads (counts_of events).commits
  all_commits {now} {events} h =
      let m = history_run job j b accepted h in
      let a = run_passes c (sum_of j) (fresh its) (fresh_fits its) (fresh_typed its) (picks_taken h) 0 (fresh_passed its) in
      subst (λ (x : Ran). CommitsPassed its x.state.threads (counts_of x.events).commits) m
      (subst (CommitsPassed its (run (sum_of j) its (fresh its) (picks_taken h)).state.threads) (let z : (counts_of (run (sum_of j) its (fresh its) (picks_taken h)).events).commits + 0 ≡ (counts_of (run (sum_of j) its (fresh its) (picks_taken h)).events).commits = omega arith in z) a)

  add_up_always : (is : List ℕ) → backs_of (run (sum_of j) its (fresh its) is).state.threads ≡ (counts_of (run (sum_of j) its (fresh its) is).events).back
  add_up_always is =
      let a = run_sum c (sum_of j) (fresh its) (fresh_fits its) (fresh_typed its) is in
      let z = fresh_sum its in
      omega arith

  any_rule : (s : State) → Fits its s → Typed s → (i : ℕ) → Exists s i → (rule : ℕ) → Fits its (record { registers = s.registers; counts = s.counts; threads = set s.threads i (with_rule rule (thread_at s i).backs (thread_at s i)) })
  any_rule s f y i e rule =
      let x = f.tallied i e in
      numbers_free c (outer c) s f y i e rule (thread_at s i).backs (record { not-above = x.not-above; not_stale = λ q v. stale_by (thread_at s i) (with_rule rule (thread_at s i).backs (thread_at s i)) (table_in s) refl refl v (x.not_stale q v); not-ahead = x.not-ahead })

  any_backs : (s : State) → Fits its s → Typed s → (i n : ℕ) → Exists s i → CommitsPassed its s.threads n → (m : ℕ) → m ≤ n → (m ≡ n → (v : ℕ) → stale (thread_at s i) (table_in s) v ≡ false) → Fits its (record { registers = s.registers; counts = s.counts; threads = set s.threads i (with_rule (thread_at s i).rule m (thread_at s i)) })
  any_backs s f y i n e p m l g =
      let q = passed_once p f.passed in
      numbers_free c (outer c) s f y i e (thread_at s i).rule m (record { not-above = omega arith; not_stale = λ z v. stale_by (thread_at s i) (with_rule (thread_at s i).rule m (thread_at s i)) (table_in s) refl refl v (g (let w : m ≡ n = omega (arith, z, q) in w) v); not-ahead = (f.tallied i e).not-ahead })

  above : (s : State) (n i : ℕ) → CommitsPassed its s.threads n → Exists s i → n < (thread_at s i).backs → Fits its s → ⊥
  above s n i p e l f =
      let a = passed_once p f.passed in
      let t = (f.tallied i e).not-above in
      absurd (omega arith)

  stale_equal : (s : State) (n i v : ℕ) → CommitsPassed its s.threads n → Exists s i → (thread_at s i).backs ≡ n → stale (thread_at s i) (table_in s) v ≡ true → Fits its s → ⊥
  stale_equal s n i v p e q x f =
      let a = passed_once p f.passed in
      never x ((f.tallied i e).not_stale (let z : (thread_at s i).backs ≡ 0 + f.commits = omega arith in z) v)

-- which rule moved the thread, for every accepted job
pub rules_named : (job : List ℕ) (j : Job) → Bytes job → read_job job ≡ done j → RulesNamed j
rules_named job j b accepted =
    let code = is_code job j b accepted in
    record {
      names = names job j b accepted;
      idle_named = idle_named job j b accepted;
      by_source = by_source job j b accepted;
      read-from = λ s i from q. looked_found (sum_of j) (compiled j) (number_of s.threads) s i from (read_used (pick (sum_of j) (compiled j) s i).event from q);
      lowest_stale = λ s i v q. sent_back_first (sum_of j) (compiled j) (number_of s.threads) s i v (back_used (pick (sum_of j) (compiled j) s i).event v q);
      rule-after = λ s f y i k. (pick_marks code (sum_of j) s f y i).rule k;
      backs-after = λ s f y i k. (pick_marks code (sum_of j) s f y i).backs k;
      last-rule = λ s f y is k. run_rule code (sum_of j) s f y is k;
      more_backs = λ s f y is k. run_backs code (sum_of j) s f y is k;
      held_rule = λ h k. held_rule job j b accepted h k;
      held_backs = λ h k. held_backs job j b accepted h k;
      add_up = λ h. add_up job j b accepted h;
      add_up_always = add_up_always job j b accepted;
      one_number = λ p q. passed_once p q;
      one_more = λ s f y i n p. pick_passes code (sum_of j) s f y i n p;
      all_commits = λ h. all_commits job j b accepted h;
      above = above job j b accepted;
      stale_equal = stale_equal job j b accepted;
      any_rule = any_rule job j b accepted;
      any_backs = any_backs job j b accepted;
    }
