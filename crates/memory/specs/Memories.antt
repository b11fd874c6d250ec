-- The memory of the test program: how it begins.
use Rattle.std.specs.Prelude.{replicate, pos, negsuc}
use Rattle.memory.specs.declared.Memory.{Memory}
use Rattle.thread.specs.declared.Thread.{Thread}

-- a record with every number 7
abbrev pub sevens : Thread
sevens =
    record {
      start = 7;
      end = 7;
      place = 7;
      height = 7;
      cells = replicate 64 (pos 7);
      begin = 7;
      base = 7;
      over = 7;
      reads = 7;
      readlog = replicate 64 (pos 7);
      readcounts = replicate 64 7;
      writes = 7;
      writelog = replicate 64 (pos 7);
      rule = 7;
      backs = 7;
    }

-- every register -7, every count and every number of a record 7; 64 registers, 64 counts and 16 records are lent
abbrev pub untouched : Memory
untouched =
    record {
      state = record { registers = replicate 65 (negsuc 6); counts = replicate 65 7; threads = replicate 17 sevens };
      lent = record { registers = 64; counts = 64; records = 16 };
    }
