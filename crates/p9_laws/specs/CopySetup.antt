-- The setup of the worked example of a copy.
use Rattle.std.specs.Prelude.{ℕ, List, [], ◌∷◌}
use Rattle.p9_word.specs.declared.setup.Setup.{Setup}
use Rattle.p9_word.specs.declared.setup.ThreadSetup.{ThreadSetup}
use Rattle.p9_word.specs.declared.setup.ChanSetup.{ChanSetup}

-- the letters r and w, and the text hi, as bytes
abbrev pub letter_r : List ℕ
letter_r = 114 ∷ []

abbrev pub letter_w : List ℕ
letter_w = 119 ∷ []

abbrev pub hi : List ℕ
hi = 104 ∷ 105 ∷ []

abbrev pub reader : ThreadSetup
reader = record { proc_no = 1; program = 1; arg = 0; name = letter_r }

abbrev pub writer : ThreadSetup
writer = record { proc_no = 1; program = 2; arg = 0; name = letter_w }

abbrev pub between_them : ChanSetup
between_them = record { cap = 0; elsize = 8192 }

-- one proc with a thread r that reads file 1 and a thread w that writes file 2, and a channel between them
abbrev pub copy_setup : Setup
copy_setup =
    record {
      places = 1;
      opened = 1;
      threads = reader ∷ writer ∷ [];
      programs = 2;
      chans = between_them ∷ [];
      locks = 0;
      qlocks = 0;
      rwlocks = 0;
      rendezes = [];
      refs = [];
      files = 2;
      procs = 0;
      start = 42;
    }
