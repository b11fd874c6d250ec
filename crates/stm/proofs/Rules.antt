-- The numbers of the machine rules: each rule has one, and below 74 each number has a rule or, 0, none. Assumes nothing.
use Prim.Native.Nat.{ℕ, zero, suc, ◌+◌, ◌-◌, ◌≤◌, ◌<◌}
use mathlib.Core.Bool.{cond}
use mathlib.Core.Path.{◌≡◌, refl, ap, ◌∙◌}
use mathlib.Core.Option.{Option, none, some}
use native.Mathlib.Omega.{arith}
use borrow.Author.Tests.{lt-ltb, le-ltb, ne_eqb}
use lib.Dec.{ltb}
use Rattle.stm.specs.Events.{Event, idle, pushed, summed, forked, begun, looked, from_writes, from_reads, from_table, wrote, committed, sent_back, event_number, event_register}
use Rattle.stm.specs.Rules.{MachineRule, push, sum, fork, begin, read_from_write_log, read_from_read_log, read_from_table, write, commit, sent_back_with, used_by, rule_number, rule_of_number, OfMachine}

-- a number above 9
high : (n : ℕ) → 10 ≤ n → rule_of_number n ≡ cond (ltb n 74) (some (sent_back_with (n - 10))) none
unfolding rule_of_number
high n l =
    rw (ne_eqb n 0 (λ e. absurd (omega arith)), ne_eqb n 1 (λ e. absurd (omega arith)), ne_eqb n 2 (λ e. absurd (omega arith)), ne_eqb n 3 (λ e. absurd (omega arith)), ne_eqb n 4 (λ e. absurd (omega arith)), ne_eqb n 5 (λ e. absurd (omega arith)), ne_eqb n 6 (λ e. absurd (omega arith)), ne_eqb n 7 (λ e. absurd (omega arith)), ne_eqb n 8 (λ e. absurd (omega arith)), ne_eqb n 9 (λ e. absurd (omega arith)))

behind : (v : ℕ) → 10 + v - 10 ≡ v
behind v = omega arith

pub rule-of-number : (r : Option MachineRule) → OfMachine r → rule_of_number (rule_number r) ≡ r
unfolding rule_of_number rule_number OfMachine
rule-of-number none o = refl
rule-of-number (some push) o = refl
rule-of-number (some sum) o = refl
rule-of-number (some fork) o = refl
rule-of-number (some begin) o = refl
rule-of-number (some read_from_write_log) o = refl
rule-of-number (some read_from_read_log) o = refl
rule-of-number (some read_from_table) o = refl
rule-of-number (some write) o = refl
rule-of-number (some commit) o = refl
rule-of-number (some (sent_back_with v)) o = high (10 + v) (omega arith) ∙ rw (lt-ltb (10 + v) 74 (let l : v < 64 = o in omega arith), behind v)

above : (n : ℕ) → 10 ≤ n → n < 74 → rule_number (rule_of_number n) ≡ n
unfolding rule_number
above n l m =
    let a : cond (ltb n 74) (some (sent_back_with (n - 10))) none ≡ some (sent_back_with (n - 10)) = rw (lt-ltb n 74 m) in
    let b : 10 + (n - 10) ≡ n = omega arith in
    ap rule_number (high n l ∙ a) ∙ b

pub number_of_rule : (n : ℕ) → n < 74 → rule_number (rule_of_number n) ≡ n
unfolding rule_of_number rule_number
number_of_rule zero l = refl
number_of_rule (suc zero) l = refl
number_of_rule (suc (suc zero)) l = refl
number_of_rule (suc (suc (suc zero))) l = refl
number_of_rule (suc (suc (suc (suc zero)))) l = refl
number_of_rule (suc (suc (suc (suc (suc zero))))) l = refl
number_of_rule (suc (suc (suc (suc (suc (suc zero)))))) l = refl
number_of_rule (suc (suc (suc (suc (suc (suc (suc zero))))))) l = refl
number_of_rule (suc (suc (suc (suc (suc (suc (suc (suc zero)))))))) l = refl
number_of_rule (suc (suc (suc (suc (suc (suc (suc (suc (suc zero))))))))) l = refl
number_of_rule (suc (suc (suc (suc (suc (suc (suc (suc (suc (suc v)))))))))) l =
    above (suc (suc (suc (suc (suc (suc (suc (suc (suc (suc v)))))))))) (omega arith) l

-- a number that names no rule
pub no_rule : (n : ℕ) → 74 ≤ n → rule_of_number n ≡ none
no_rule n l =
    high n (omega arith) ∙ rw (le-ltb n 74 l)

-- the two numbers of a step's answer, added up, are the number of its rule
pub answer_number : (e : Event) → event_number e + event_register e ≡ rule_number (used_by e)
unfolding event_number event_register used_by rule_number
answer_number idle = refl
answer_number pushed = refl
answer_number (summed inside) = refl
answer_number forked = refl
answer_number begun = refl
answer_number (looked from_writes) = refl
answer_number (looked from_reads) = refl
answer_number (looked from_table) = refl
answer_number wrote = refl
answer_number committed = refl
answer_number (sent_back v) = refl
