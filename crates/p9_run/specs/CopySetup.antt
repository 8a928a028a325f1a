-- What the run of a copy's text starts from.
use Rattle.std.specs.Prelude.{ℕ, [], ◌∷◌, List, codes}
use Rattle.p9_word.specs.declared.limits.TheConstants.{BLOCK_BYTES}
use Rattle.p9_word.specs.declared.setup.Setup.{Setup}
use Rattle.p9_word.specs.declared.setup.ThreadSetup.{ThreadSetup}

-- a thread in proc 1, with argument 0
abbrev pub thread : ℕ → List ℕ → ThreadSetup
thread program name = record { proc_no = 1; program = program; arg = 0; name = name }

-- one proc with the threads `r` and `w`, of programs 1 and 2; channel 1 hands each value of up to a block over;
-- files 1 and 2 are the in file and the out file
abbrev pub copy_setup : Setup
copy_setup =
    record {
      places = 1;
      opened = 1;
      threads = thread 1 (codes "r") ∷ thread 2 (codes "w") ∷ [];
      programs = 2;
      chans = record { cap = 0; elsize = BLOCK_BYTES } ∷ [];
      locks = 0;
      qlocks = 0;
      rwlocks = 0;
      rendezes = [];
      refs = [];
      files = 2;
      procs = 0;
      start = 42;
    }
