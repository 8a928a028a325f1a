-- Where memory was taken for what ioprocs do, the board stands for the same.
use Rattle.std.proofs.Common.{◌≡◌, refl}
use Rattle.p9_io.specs.Calls.{begun_count}
use Rattle.p9_io.specs.Desks.{Desks}
use Rattle.p9_io.specs.Stands.{Tracks}
use Rattle.p9_machine.specs.declared.board.Board.{Board}
use Rattle.p9_machine.specs.Board.{TakesMemory}

pub io_memory : (board : Board) (io : Desks) → Tracks (λ s. s) board.io io → io.rooms ≡ board.io.rooms → begun_count io.ioprocs ≡ begun_count board.io.ioprocs → TakesMemory board (record board { io = io })
io_memory board io tracks rooms calls = record {
  stands = λ s st. record {
    sched = st.sched;
    alts = st.alts;
    locks = st.locks;
    io = tracks s st.io;
    notes = st.notes;
    draws = st.draws;
    position = st.position;
    over = st.over;
  };
  setup = refl;
  rooms = rooms;
  calls = calls;
}
