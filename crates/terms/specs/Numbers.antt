-- The numbers that the papers give refusals and kinds, and what an answer says in these numbers.
use Rattle.std.specs.Prelude.{ℕ, ◌≡◌, ◌<◌, ◌⊎◌, Result, Ok, Err, MatchResult}
use Rattle.script.specs.Outcome.{Outcome, refused, done}
use Rattle.terms.specs.declared.Kind.{Kind}
use Rattle.terms.specs.declared.Kind.TheVariants as kind
use Rattle.terms.specs.declared.Reason.{Reason}
use Rattle.terms.specs.declared.Reason.TheVariants as reason
use Rattle.terms.specs.declared.Refusal.{Refusal}
use Rattle.terms.specs.declared.UnknownKind.{UnknownKind}

-- document 01, "Turning a job down", and 14 and 15 of document 02
abbrev pub reason_number : Reason → ℕ
reason_number reason.Cut = 1
reason_number reason.Mark = 2
reason_number reason.Version = 3
reason_number reason.Count = 4
reason_number reason.Kind = 5
reason_number reason.Register = 6
reason_number reason.Depth = 7
reason_number reason.Forks = 8
reason_number reason.Length = 9
reason_number reason.ShortTray = 10
reason_number reason.ForeignCode = 11
reason_number reason.ForeignState = 12
reason_number reason.LongList = 13
reason_number reason.LongTransaction = 14
reason_number reason.NoScript = 15

-- an answer as the papers tell it: the refusal's number and place, or what the call gives
abbrev pub outcome : {A : Type 0} → Result A Refusal → Outcome A
outcome (Ok a) = done a
outcome (Err r) = refused (reason_number r.reason) r.place

-- the kind bytes of a job's nodes
abbrev pub kind_number : Kind → ℕ
kind_number kind.Valp = 1
kind_number kind.Addp = 2
kind_number kind.Atomic = 3
kind_number kind.Fork = 4
kind_number kind.Valt = 5
kind_number kind.Addt = 6
kind_number kind.Read = 7
kind_number kind.Write = 8

-- a byte is the kind of this number, or no kind has it
abbrev pub Decodes : ℕ → Result Kind UnknownKind → Type 0
Decodes byte r = MatchResult r (λ k. kind_number k ≡ byte) (λ _. (byte ≡ 0) ⊎ (8 < byte))
