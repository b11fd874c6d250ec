-- For the proof of `read_back` only: what its functions do to the state of the pass.
use Rattle.std.specs.Prelude.{ℕ, ◌+◌, ◌-◌, ◌≤◌, ◌<◌, Bool, ◌&&◌, List, eqb, ltb, get_or, set, replicate}
use Rattle.decompiler.specs.declared.Pass.{Pass}

-- before the first instruction: behind both headers
abbrev pub first_state : Pass
first_state =
    record {
      starts = replicate 64 0;
      height = 0;
      ends = replicate 15 0;
      forked = 0;
      inside = Bool.false;
      place = 5;
      size = 7;
    }

-- a part is put on the stack
unfoldable pub part_pushed : Pass → (read written : ℕ) → Bool → Pass
part_pushed s read written inside =
    record {
      starts = set s.starts s.height s.size;
      height = s.height + 1;
      ends = s.ends;
      forked = s.forked;
      inside = inside;
      place = s.place + read;
      size = s.size + written;
    }

-- the topmost part becomes part of the one below it
unfoldable pub parts_merged : Pass → (read written : ℕ) → Bool → Pass
parts_merged s read written inside =
    record {
      starts = s.starts;
      height = s.height - 1;
      ends = s.ends;
      forked = s.forked;
      inside = inside;
      place = s.place + read;
      size = s.size + written;
    }

-- the topmost part grows
unfoldable pub part_grown : Pass → (read written : ℕ) → Pass
part_grown s read written =
    record {
      starts = s.starts;
      height = s.height;
      ends = s.ends;
      forked = s.forked;
      inside = s.inside;
      place = s.place + read;
      size = s.size + written;
    }

-- a child begins
unfoldable pub child_opened : Pass → ℕ → Pass
child_opened s end =
    record {
      starts = s.starts;
      height = s.height;
      ends = set s.ends s.forked end;
      forked = s.forked + 1;
      inside = s.inside;
      place = s.place;
      size = s.size;
    }

-- the innermost child has ended
unfoldable pub child_shut : Pass → Pass
child_shut s =
    record {
      starts = s.starts;
      height = s.height - 1;
      ends = s.ends;
      forked = s.forked - 1;
      inside = s.inside;
      place = s.place;
      size = s.size;
    }

-- it ends here
unfoldable pub at_end : Pass → Bool
at_end s = ltb 0 s.forked && eqb (get_or s.ends (s.forked - 1) 0) s.place

-- there is room for a part that takes so many bytes of the code, of `code` bytes, and gives so many of the job, to `out` bytes
pub record Room (height place size read written code out : ℕ) : Type 0 where
  pub low : height < 64
  pub early : place + read ≤ code
  pub short : size + written ≤ out

-- the topmost parts, or the one, that start there can be moved on
pub record CanMove (starts : List ℕ) (height place size top read written code out : ℕ) : Type 0 where
  pub some : top ≤ height
  pub low : height ≤ 64
  pub start : get_or starts (height - top) 0 ≤ size
  pub early : place + read ≤ code
  pub short : size + written ≤ out
