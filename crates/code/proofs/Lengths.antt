-- Every FORK in a job's code, in its children's code too, states the length of its child's code. Assumes nothing.
use Prim.Native.Nat.{◌/◌, ◌%◌, ◌≤◌, ◌<◌}
use mathlib.Core.Path.{◌≡◌, refl, ap, ◌∙◌}
use mathlib.Core.List.{append-nil}
use native.Mathlib.Omega.{arith}
use lib.ListN.{length, length-append}
use Rattle.code.specs.Compile.{Code, FORK, ε, compile_p}
use Rattle.code.specs.Bytes.{instruction_bytes, instructions_bytes, OccursIn, first, later, inside}
use Rattle.code.specs.InnerLengths.{StatesLength}
use Rattle.script.specs.Bytes.{bytes16}
use Rattle.script.specs.Count.{code_p}
use Rattle.script.specs.Jobs.{Job}
use Rattle.script.specs.Limits.{Within}
use Rattle.script.proofs.Numbers.{number16_bytes16}
use Rattle.code.proofs.Flat.{flat_p, flat_proc, flat_length_p}
use Rattle.code.proofs.ReadBack.{code_small}

shorter : {child c : Code} → OccursIn (FORK child) c → length (instructions_bytes child) ≤ length (instructions_bytes c)
unfolding instruction_bytes instructions_bytes bytes16
shorter {child} (first {c = c}) = omega (arith, length-append (instruction_bytes (FORK child)) (instructions_bytes c))
shorter (later {k = k} {c = c} o) = omega (arith, shorter o, length-append (instruction_bytes k) (instructions_bytes c))
shorter (inside {child = d} {c = c} o) = omega (arith, shorter o, length-append (instruction_bytes (FORK d)) (instructions_bytes c))

states : (child : Code) → length (instructions_bytes child) < 65536 → StatesLength child
unfolding instruction_bytes bytes16
states child h =
    let n = length (instructions_bytes child) in
    record { high = n / 256 % 256; low = n % 256; text = refl; exact = number16_bytes16 n h (instructions_bytes child) }

pub fork_length : (j : Job) → Within j.tree → (child : Code) → OccursIn (FORK child) (compile_p j.tree ε) → StatesLength child
unfolding instructions_bytes
fork_length j w child o =
    let l : length (instructions_bytes (compile_p j.tree ε)) ≡ code_p j.tree = ap length (flat_proc j.tree ε ∙ append-nil (flat_p j.tree)) ∙ flat_length_p j.tree in
    states child (omega (arith, shorter o, l, code_small j.tree, w.sized.few))
