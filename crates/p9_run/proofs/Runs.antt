-- A run that has done nothing yet, and what a run over two files comes to.
use Rattle.std.proofs.Common.{◌≡◌, ℕ, ◌+◌, ◌-◌, ◌<◌, take, get_or, Bool, true, false, List, [], ◌∷◌, ◌++◌, refl, ap, subst, arith}
use Rattle.std.specs.Prelude.{Option, Some}
use Rattle.std.specs.Io.KnownBytes.{Consumes, Appends}
use Rattle.p9_word.specs.declared.answer.Answer.{Answer}
use Rattle.p9_word.specs.declared.io_call.IoCall.{IoCall}
use Rattle.p9_word.specs.declared.io_call.Effect.{Effect}
use Rattle.p9_word.specs.declared.request.Request.{Request}
use Rattle.p9_word.specs.declared.trail.Entry.{Entry}
use Rattle.p9_manual.specs.Programs.{Unborn, life, Asks, RunsPrograms}
use Rattle.p9_manual.specs.FilesInHistory.{calls_at, effects_at, services_at}
use Rattle.p9_outside.specs.declared.reading.ReadDevice.{ReadDevice}
use Rattle.p9_outside.specs.declared.writing.WriteDevice.{WriteDevice}
use Rattle.p9_outside.specs.declared.file_device.FileDevice.{FileDevice}
use Rattle.p9_outside.specs.declared.file_device.FileDevice.TheVariants.{In, Out}
use Rattle.p9_manual.specs.Files.{At, TreatsAsFile, at_first}
use Rattle.p9_outside.specs.Reading.{reader_at, FullReads}
use Rattle.p9_outside.specs.Writing.{writer_at}
use Rattle.p9_outside.specs.FileServices.{FileServes}
use Rattle.p9_outside.specs.FileRuns.{FilesRun}
use Rattle.p9_outside.specs.Promised.{SourceTells, SinkTells}
use Rattle.p9_run.specs.Stands.{Between}
use Rattle.p9_run.specs.Services.{Serves, AllServe}
use Rattle.p9_run.specs.Moves.{RunsOnFiles, Moves, MovesOver}
use Rattle.p9_run.specs.Directions.{in_of, out_of}

runs_none : (asks : Asks) → RunsPrograms asks []
unfolding RunsPrograms
runs_none asks = tt

life_none : (u : ℕ) → life u [] ≡ Unborn
unfolding life
life_none u = refl

pub calls_none : (k : ℕ) → calls_at k [] ≡ []
unfolding calls_at
calls_none k = refl

effects_none : (k : ℕ) → effects_at k [] ≡ []
unfolding effects_at
effects_none k = refl

pub between_none : {B : Type 0} (asks : Asks) (plan : B → List Answer → Request) (stands : B → List Answer → Type 0) (bodies : List (Option B)) (requests : List (Option Request)) → Between asks plan stands [] bodies requests
between_none asks plan stands bodies requests = record { runs = runs_none asks; each = λ u. rw life_none tt }

serves_none : {D : Type 0} (serves : D → IoCall → Effect → D → Type 0) (k : ℕ) (d : D) → Serves serves k [] d d
serves_none serves k d = record { is_done = rw (calls_none, effects_none) refl; reached = rw calls_none refl }

pub all_serve_none : {D : Type 0} (serves : D → IoCall → Effect → D → Type 0) (k : ℕ) (devices : List D) → AllServe serves [] k devices devices
all_serve_none serves k [] = tt
all_serve_none serves k (d ∷ devices) = (serves_none serves k d, all_serve_none serves (k + 1) devices)

pub history_none : (asks : Asks) → RunsOnFiles asks []
history_none asks =
    record {
      runs = runs_none asks;
      reads = rw calls_none tt;
      writes = rw calls_none tt;
      read_done = rw (calls_none, effects_none) refl;
      write_done = rw (calls_none, effects_none) refl;
    }

pub moves_none : (none : (bytes : Option (List ℕ)) → Consumes bytes bytes [] × Appends bytes bytes []) (left held : Option (List ℕ)) (faults counts : ℕ) (steady : Bool) (firm : ℕ) → Moves [] left left held held faults faults counts counts steady steady firm firm
moves_none none left held faults counts steady firm =
    record {
      given = rw calls_none (none left).0;
      full = rw calls_none tt;
      written = rw calls_none (none held).1;
      read_faults = rw calls_none (omega arith);
      write_faults = rw calls_none (omega arith);
      steady = λ is. (rw calls_none refl, is);
      firm = λ within. rw calls_none refl;
      lowered = rw calls_none (omega arith);
    }

module _ {S K : Type 0} (from : SourceTells S) (to : SinkTells K) (law : FilesRun from to) where
  -- what the two devices are after a run
  pub record RanFiles (asks : Asks) (history : List Entry) (source : S) (sink : K) (devices : List (FileDevice S K)) : Type 0 where
    pub reader : ReadDevice S
    pub writer : WriteDevice K
    pub devices_are : devices ≡ In reader ∷ Out writer ∷ []
    pub history_is : RunsOnFiles asks history
    pub moves : MovesOver from to history source reader.source sink writer.sink

  pub ran_files : (asks : Asks) (history : List Entry) (reader : ReadDevice S) (writer : WriteDevice K) (devices : List (FileDevice S K)) → RunsPrograms asks history → reader_at reader ≡ at_first → writer_at writer ≡ at_first → AllServe (FileServes from to) history 1 (In reader ∷ Out writer ∷ []) devices → RanFiles asks history reader.source writer.sink devices
  ran_files asks history reader writer [] runs a b all = absurd all
  ran_files asks history reader writer (d ∷ []) runs a b all = absurd all.1
  ran_files asks history reader writer (d ∷ e ∷ f ∷ devices) runs a b all = absurd all.1.1
  ran_files asks history reader writer (Out d ∷ e ∷ []) runs a b all = absurd (law (In reader) (services_at 1 history) (Out d) all.0.reached)
  ran_files asks history reader writer (In d ∷ In e ∷ []) runs a b all = absurd (law (Out writer) (services_at 2 history) (In e) all.1.0.reached)
  ran_files asks history reader writer (In d ∷ Out e ∷ []) runs a b all =
      let read = law (In reader) (services_at 1 history) (In d) all.0.reached in
      let wrote = law (Out writer) (services_at 2 history) (Out e) all.1.0.reached in
      record {
        reader = d;
        writer = e;
        devices_are = refl;
        history_is = record {
          runs = runs;
          reads = subst (λ (at : At). TreatsAsFile false at (services_at 1 history)) a read.file;
          writes = subst (λ (at : At). TreatsAsFile true at (services_at 2 history)) b wrote.file;
          read_done = all.0.is_done;
          write_done = all.1.0.is_done;
        };
        moves = record {
          given = read.given;
          full = subst (λ (b : Bool). FullReads b (from.left reader.source) (services_at 1 history)) (ap (λ (at : At). at.failed) a) read.full;
          written = wrote.written;
          read_faults = read.tells;
          write_faults = wrote.tells;
          steady = read.steady;
          firm = wrote.firm;
          lowered = wrote.lowered;
        };
      }

  pub ended : (asks : Asks) (before history : List Entry) (reader : ReadDevice S) (writer : WriteDevice K) (source : S) (sink : K) (devices devices' : List (FileDevice S K)) → before ≡ [] → RunsPrograms asks history → reader_at reader ≡ at_first → writer_at writer ≡ at_first → reader.source ≡ source → writer.sink ≡ sink → devices ≡ In reader ∷ Out writer ∷ [] → ((firsts : List (FileDevice S K)) → AllServe (FileServes from to) before 1 firsts devices → AllServe (FileServes from to) history 1 firsts devices') → RanFiles asks history source sink devices'
  ended asks before history reader writer source sink devices devices' none runs a b is_source is_sink are served =
      let start : AllServe (FileServes from to) before 1 (In reader ∷ Out writer ∷ []) devices = rw (none, are) (all_serve_none (FileServes from to) 1 (In reader ∷ Out writer ∷ [])) in
      rw⁻¹ (is_source, is_sink) (ran_files asks history reader writer devices' runs a b (served (In reader ∷ Out writer ∷ []) start))

  pub writer_is : (asks : Asks) (history : List Entry) (source : S) (sink : K) (xs ys : List (FileDevice S K)) (n : ℕ) (o : Option (FileDevice S K)) (ran : RanFiles asks history source sink xs) → n ≡ 2 → ((d : FileDevice S K) → 0 < n → o ≡ Some (get_or (take n (xs ++ ys)) (n - 1) d)) → out_of o ≡ Some ran.writer
  writer_is asks history source sink xs ys n o ran two value =
      let v : o ≡ Some (Out ran.writer) = rw (two, ran.devices_are) at (value (Out ran.writer) (omega (arith, two))) in
      rw v refl

  pub reader_is : (asks : Asks) (history : List Entry) (source : S) (sink : K) (xs ys rest : List (FileDevice S K)) (n m : ℕ) (o : Option (FileDevice S K)) (ran : RanFiles asks history source sink xs) → n ≡ 2 → m ≡ 1 → rest ≡ take (n - 1) (take n (xs ++ ys)) → ((d : FileDevice S K) → 0 < m → o ≡ Some (get_or rest (m - 1) d)) → in_of o ≡ Some ran.reader
  reader_is asks history source sink xs ys rest n m o ran two one rest_is value =
      let r : rest ≡ In ran.reader ∷ [] = rw (two, ran.devices_are) at rest_is in
      let v : o ≡ Some (In ran.reader) = rw (one, r) at (value (In ran.reader) (omega (arith, one))) in
      rw v refl

  pub moves_at : (asks : Asks) (history : List Entry) (source : S) (sink : K) (xs : List (FileDevice S K)) (ran : RanFiles asks history source sink xs) (reader : ReadDevice S) (writer : WriteDevice K) → Some reader ≡ Some ran.reader → Some writer ≡ Some ran.writer → MovesOver from to history source reader.source sink writer.sink
  moves_at asks history source sink xs ran reader writer r w =
      let r' : reader ≡ ran.reader = cc in
      let w' : writer ≡ ran.writer = cc in
      rw (r', w') ran.moves
