-- The opcodes, the first bytes of instructions, as numbers.
use Rattle.std.specs.Prelude.{ℕ, ◌≡◌, ◌<◌, ◌⊎◌, Result, MatchResult}
use Rattle.decompiler.specs.declared.Opcode.{Opcode}
use Rattle.decompiler.specs.declared.Opcode.TheVariants as opcode
use Rattle.decompiler.specs.declared.UnknownOpcode.{UnknownOpcode}

abbrev pub opcode_number : Opcode → ℕ
opcode_number opcode.Push = 1
opcode_number opcode.Add = 2
opcode_number opcode.Read = 3
opcode_number opcode.Write = 4
opcode_number opcode.Begin = 5
opcode_number opcode.Commit = 6
opcode_number opcode.Fork = 7

-- a byte is the opcode of this number, or no opcode has it
abbrev pub Decodes : ℕ → Result Opcode UnknownOpcode → Type 0
Decodes byte r = MatchResult r (λ o. opcode_number o ≡ byte) (λ _. (byte ≡ 0) ⊎ (7 < byte))
