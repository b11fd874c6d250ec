-- `text::digits` meets its contract. The loop's invariant: what is left makes of the value what the text makes of 0. Assumes nothing.
use Rattle.std.proofs.Common.{◌≡◌, drop}
use Rattle.text.specs.Texts.{onward}
use Rattle.text.proofs.digits.Given as goal

abbrev pub invariant-loop-byte : goal.invariant-loop-byte
invariant-loop-byte l = onward 0 l.text ≡ onward l.value (drop l.byte-index l.text)
