-- For the proofs of functions over records, nobody has to believe it: what the by-value step of a record hands back, as an instruction leaves
-- it, and what an instruction leaves, as it is handed back.
use Rattle.std.specs.Prelude.{ℕ, cond, List, [], ◌∷◌, eqb}
use Rattle.machine.specs.Steps.{Acted, Child}
use Rattle.stm.specs.Events.{event_of, event_number, event_register, turn_number}
use Rattle.thread.specs.InnerStep.{Handed}

-- a FORK, event 3, has a child
abbrev pub children_as : (event start end : ℕ) → List Child
children_as event start end = cond (eqb event 3) (record { start = start; end = end } ∷ []) []

-- what is handed back, as an instruction leaves it
unfoldable pub acted_as : Handed → Acted
acted_as h =
    record {
      thread = h.acted.thread;
      table = h.table;
      children = children_as h.acted.event h.acted.start h.acted.end;
      event = event_of h.acted.event h.acted.register h.acted.turn;
      over = h.acted.over;
    }

-- a child's code, or 0 and 0
abbrev pub child_of : List Child → Child
child_of [] = record { start = 0; end = 0 }
child_of (c ∷ cs) = c

-- what an instruction leaves, as it is handed back
unfoldable pub handed_as : Acted → Handed
handed_as a =
    record {
      acted =
          record {
            thread = a.thread;
            event = event_number a.event;
            register = event_register a.event;
            turn = turn_number a.event;
            over = a.over;
            start = (child_of a.children).start;
            end = (child_of a.children).end;
          };
      table = a.table;
    }
