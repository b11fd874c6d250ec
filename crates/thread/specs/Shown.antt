-- What a step did, as the event of the definitions that the papers number.
use Rattle.stm.specs.Events as events
use Rattle.thread.specs.declared.Child.{Child}
use Rattle.thread.specs.declared.Event.{Event}
use Rattle.thread.specs.declared.Event.TheVariants as event
use Rattle.thread.specs.declared.Source.{Source}
use Rattle.thread.specs.declared.Source.TheVariants as source

-- where a READ found its value
abbrev pub shown_source : Source → events.Source
shown_source source.Writes = events.from_writes
shown_source source.Reads = events.from_reads
shown_source source.Table = events.from_table

-- what a step did; a FORK's child is handed on beside it
abbrev pub shown_event : Event → events.Event
shown_event event.Idle = events.idle
shown_event event.Pushed = events.pushed
shown_event (event.Summed inside) = events.summed inside
shown_event (event.Forked child) = events.forked
shown_event event.Begun = events.begun
shown_event (event.Looked from) = events.looked (shown_source from)
shown_event event.Wrote = events.wrote
shown_event event.Committed = events.committed
shown_event (event.SentBack v) = events.sent_back v

-- a forked child's code, else 0 and 0
abbrev pub child_of : Event → Child
child_of (event.Forked child) = child
child_of _ = record { start = 0; end = 0 }
