-- The source's rule of an event is that of its machine rule. Assumes nothing.
use Prim.Native.Nat.{ℕ}
use mathlib.Core.Path.{◌≡◌, ap}
use mathlib.Core.Option.{Option, none, some}
use native.Mathlib.Omega.{arith}
use Rattle.source.specs.Soup.{named, source_rule}
use Rattle.stm.specs.Events.{from_writes, from_reads, from_table, Event, idle, pushed, summed, forked, begun, looked, wrote, committed, sent_back}
use Rattle.stm.specs.Rules.{MachineRule, used_by}

never_some : {A : Type 0} {m : MachineRule} → ◌≡◌ {A = Option MachineRule} none (some m) → A
never_some e = absurd (let z : ◌≡◌ {A = ℕ} 0 1 = cc in omega arith)

same_rule : {a b : MachineRule} → ◌≡◌ {A = Option MachineRule} (some a) (some b) → a ≡ b
same_rule e = cc

-- the source's rule of an event is that of its machine rule
pub named_used : (e : Event) (m : MachineRule) → used_by e ≡ some m → named e ≡ some (source_rule m)
unfolding used_by source_rule
named_used idle m q = never_some q
named_used pushed m q = ap (λ (r : MachineRule). some (source_rule r)) (same_rule q)
named_used (summed inside) m q = ap (λ (r : MachineRule). some (source_rule r)) (same_rule q)
named_used forked m q = ap (λ (r : MachineRule). some (source_rule r)) (same_rule q)
named_used begun m q = ap (λ (r : MachineRule). some (source_rule r)) (same_rule q)
named_used (looked from_writes) m q = ap (λ (r : MachineRule). some (source_rule r)) (same_rule q)
named_used (looked from_reads) m q = ap (λ (r : MachineRule). some (source_rule r)) (same_rule q)
named_used (looked from_table) m q = ap (λ (r : MachineRule). some (source_rule r)) (same_rule q)
named_used wrote m q = ap (λ (r : MachineRule). some (source_rule r)) (same_rule q)
named_used committed m q = ap (λ (r : MachineRule). some (source_rule r)) (same_rule q)
named_used (sent_back v) m q = ap (λ (r : MachineRule). some (source_rule r)) (same_rule q)
