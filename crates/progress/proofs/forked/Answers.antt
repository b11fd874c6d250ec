use Prim.Native.Nat.{ℕ}
use mathlib.Core.Path.{◌≡◌, refl}
use Rattle.std.specs.Prelude as std
use Rattle.progress.specs.InnerProgress.{child_of}
use Rattle.progress.specs.declared.Child.{Child}
use Rattle.stm.specs.Events.{event_number}
use Rattle.thread.specs.Shown.{child_of as own_of, shown_event}
use Rattle.thread.specs.declared.Child as own
use Rattle.thread.specs.declared.Event.{Event}
use Rattle.thread.specs.declared.Event.TheVariants as event
use Rattle.thread.specs.declared.Source.TheVariants as source
use Rattle.progress.proofs.forked.Goals as goal

-- no other event has a child
none : (e : Event) (threads : ℕ) → ((c : own.Child) → e ≡ event.Forked c → ⊥) → ◌≡◌ {A = std.Option Child} std.None (child_of (event_number (shown_event e)) threads (own_of e).start (own_of e).end)
unfolding child_of event_number
none event.Idle threads n = refl
none event.Pushed threads n = refl
none (event.Summed inside) threads n = refl
none (event.Forked c) threads n = absurd (n c refl)
none event.Begun threads n = refl
none (event.Looked source.Writes) threads n = refl
none (event.Looked source.Reads) threads n = refl
none (event.Looked source.Table) threads n = refl
none event.Wrote threads n = refl
none event.Committed threads n = refl
none (event.SentBack v) threads n = refl

pub returns-in-Forked : goal.returns-in-Forked
unfolding child_of event_number
returns-in-Forked c = rw c.in-Forked.is

pub returns-in_default : goal.returns-in_default
returns-in_default c = none c.args.event c.args.threads c.in_default.not-Forked
