-- What a list of services of a file shows.
use Rattle.std.proofs.Common.{◌∙◌, ap, inr, ◌≡◌, ◌≤◌, ◌+◌, ◌-◌, ℕ, Bool, true, false, List, [], ◌∷◌, ◌++◌, length, length-append, refl, sym, subst, arith}
use Rattle.std.proofs.lemmas.List.{length-take}
use Rattle.std.proofs.Math.Seq.{drop-append_seam}
use Rattle.std.specs.Prelude.{Option, Some, None, ◌||◌, if◌then◌else◌}
use Rattle.p9_outside.specs.declared.file_device.FileDevice.{FileDevice}
use Rattle.p9_outside.specs.declared.file_device.FileDevice.TheVariants.{In, Out}
use Rattle.std.specs.Io.KnownBytes.{Consumes}
use Rattle.p9_word.specs.declared.io_call.IoCall.{IoCall}
use Rattle.p9_word.specs.declared.io_call.IoCall.TheVariants.{IoOpen, IoRead, IoReadN, IoWrite, IoClose, IoOwn}
use Rattle.p9_word.specs.declared.io_call.Effect.{Effect}
use Rattle.p9_word.specs.declared.io_call.Effect.TheVariants.{Opened, Shut, Got, Wrote, Refused}
use Rattle.p9_outside.specs.declared.reading.ReadDevice.{ReadDevice}
use Rattle.p9_outside.specs.declared.writing.WriteDevice.{WriteDevice}
use Rattle.p9_manual.specs.Effects.{got, has_failed, put}
use Rattle.p9_manual.specs.Files.{At, TreatsAsFile, after, written}
use Rattle.p9_outside.specs.Reading.{ReadServes, reader_at, GotSome, GotAll, IsFull, FullReads, rest_after, has_got_failed}
use Rattle.p9_outside.specs.Writing.{WriteServes, writer_at, message}
use Rattle.p9_outside.specs.FileServices.{FileServes}
use Rattle.p9_outside.specs.DeviceRuns.{DevicesRun, failures}
use Rattle.p9_outside.specs.FileRuns.{messages, RunsSteady, FileRuns, FilesRun}
use Rattle.p9_outside.specs.Promised.{SourceTells, SinkTells}
use Rattle.p9_outside.specs.Reached.{Reached}
use Rattle.p9_outside.proofs.DeviceRuns.{devices_run}

or_false : (b : Bool) → (b || false) ≡ b
or_false true = refl
or_false false = refl

fails_on : (at : At) (effect : Effect) → (after at effect).failed ≡ (at.failed || has_got_failed effect)
fails_on at (Got failed got_bytes) = refl
fails_on at (Wrote count failed) = sym (or_false at.failed)
fails_on at Refused = sym (or_false at.failed)
fails_on at Opened = sym (or_false at.failed)
fails_on at Shut = sym (or_false at.failed)

some_none : (effect : Effect) → GotSome effect None
some_none (Got true got_bytes) = tt
some_none (Got false got_bytes) = inr tt
some_none (Wrote count failed) = tt
some_none Refused = tt
some_none Opened = tt
some_none Shut = tt

all_none : (n : ℕ) (effect : Effect) → GotAll n effect None
all_none n (Got true got_bytes) = tt
all_none n (Got false got_bytes) = inr tt
all_none n (Wrote count failed) = tt
all_none n Refused = tt
all_none n Opened = tt
all_none n Shut = tt

full_none : (failed : Bool) (call : IoCall) (effect : Effect) → IsFull failed call effect None
full_none true call effect = tt
full_none false (IoRead n) effect = some_none effect
full_none false (IoReadN n) effect = all_none n effect
full_none false IoOpen effect = tt
full_none false (IoWrite m) effect = tt
full_none false IoClose effect = tt
full_none false (IoOwn code m) effect = tt

-- what a device has left is what is left of the first
abbrev pub IsRest : Option (List ℕ) → Option (List ℕ) → Type 0
IsRest None now = Unit {0}
IsRest (Some xs) now = now ≡ Some xs

rest_on : (told now next : Option (List ℕ)) (bs : List ℕ) → IsRest told now → Consumes now next bs → IsRest (rest_after bs told) next
rest_on None now next bs is takes = tt
rest_on (Some xs) None next bs is takes = cc is
rest_on (Some xs) (Some ys) None bs is takes = absurd takes
rest_on (Some xs) (Some ys) (Some zs) bs is takes =
    let same : ys ≡ xs = cc in
    let e : xs ≡ bs ++ zs = sym same ∙ takes in
    rw (e, drop-append_seam) refl

full_told : (failed : Bool) (call : IoCall) (effect : Effect) (told now : Option (List ℕ)) → IsRest told now → IsFull failed call effect now → IsFull failed call effect told
full_told failed call effect None now is full = full_none failed call effect
full_told failed call effect (Some xs) now is full = rw is at full

rest_self : (told : Option (List ℕ)) → IsRest told told
rest_self None = tt
rest_self (Some xs) = refl

-- of two counts of failures neither has risen
none_more : (failed : Bool) (n : ℕ) → failed ≡ false → n ≡ 0 → (if failed then 1 else 0) + n ≡ 0
none_more true n a b = absurd (cc a)
none_more false n a b = omega (arith, b)

-- the bytes that a write took are no more than its message
put_within : (call : IoCall) (effect : Effect) → length (put call effect) ≤ length (message call)
put_within (IoWrite m) (Wrote count failed) =
    let taken = length-take count m in
    omega (arith, taken)
put_within (IoWrite m) Opened = omega arith
put_within (IoWrite m) Shut = omega arith
put_within (IoWrite m) (Got failed got_bytes) = omega arith
put_within (IoWrite m) Refused = omega arith
put_within IoOpen effect = omega arith
put_within (IoRead n) effect = omega arith
put_within (IoReadN n) effect = omega arith
put_within IoClose effect = omega arith
put_within (IoOwn code m) effect = omega arith

module _ {S : Type 0} (source : SourceTells S) where
  reader_is_file : (first last : ReadDevice S) (services : List (IoCall × Effect)) → Reached (ReadServes source) first services last → TreatsAsFile false (reader_at first) services
  reader_is_file first last [] reached = tt
  reader_is_file first last (s ∷ services) reached =
      (reached.1.file, subst (λ (at : At). TreatsAsFile false at services) reached.1.state (reader_is_file reached.0 last services reached.2))

  reader_full : (first last : ReadDevice S) (services : List (IoCall × Effect)) (told : Option (List ℕ)) → IsRest told (source.left first.source) → Reached (ReadServes source) first services last → FullReads first.has_failed told services
  reader_full first last [] told is reached = tt
  reader_full first last (s ∷ services) told is reached =
      let is' = rest_on told _ _ _ is reached.1.bytes in
      let failed : reached.0.has_failed ≡ (first.has_failed || has_got_failed s.1) = ap (λ (at : At). at.failed) reached.1.state ∙ fails_on (reader_at first) s.1 in
      (full_told first.has_failed s.0 s.1 _ _ is' reached.1.full, subst (λ (b : Bool). FullReads b (rest_after (got s.1) told) services) failed (reader_full reached.0 last services _ is' reached.2))

  -- no effect fails over a steady source
  reader_steady : (first last : ReadDevice S) (services : List (IoCall × Effect)) → Reached (ReadServes source) first services last → RunsSteady (source.steady first.source) (source.steady last.source) services
  reader_steady first last [] reached = λ is. (refl, rw reached is)
  reader_steady first last (s ∷ services) reached = λ is.
      let now = reached.1.steady is in
      let rest = reader_steady reached.0 last services reached.2 now.1 in
      (none_more (has_failed s.1) (failures services) now.0 rest.0, rest.1)

  -- what any device's services come to, of a file that is read
  reader_runs : DevicesRun (ReadServes source) (λ d. source.left d.source) (λ d. None) (λ d. source.faults d.source)
  reader_runs =
      devices_run (ReadServes source) (λ d. source.left d.source) (λ d. None) (λ d. source.faults d.source) (λ old call effect new done. done.bytes) (λ old call effect new done. tt) (λ old call effect new done. done.tells)

module _ {K : Type 0} (sink : SinkTells K) where
  writer_is_file : (first last : WriteDevice K) (services : List (IoCall × Effect)) → Reached (WriteServes sink) first services last → TreatsAsFile true (writer_at first) services
  writer_is_file first last [] reached = tt
  writer_is_file first last (s ∷ services) reached =
      (reached.1.file, subst (λ (at : At). TreatsAsFile true at services) reached.1.state (writer_is_file reached.0 last services reached.2))

  -- the bytes written lower what the sink takes without a failure
  writer_lowered : (first last : WriteDevice K) (services : List (IoCall × Effect)) → Reached (WriteServes sink) first services last → sink.firm last.sink ≡ sink.firm first.sink - length (written services)
  writer_lowered first last [] reached = rw reached (omega arith)
  writer_lowered first last (s ∷ services) reached =
      let now = reached.1.lowered in
      let rest = writer_lowered reached.0 last services reached.2 in
      let joins = length-append (put s.0 s.1) (written services) in
      omega (arith, now, rest, joins)

  -- no effect fails where all messages together are within that
  writer_firm : (first last : WriteDevice K) (services : List (IoCall × Effect)) → Reached (WriteServes sink) first services last → length (messages services) ≤ sink.firm first.sink → failures services ≡ 0
  writer_firm first last [] reached within = refl
  writer_firm first last (s ∷ services) reached within =
      let joins = length-append (message s.0) (messages services) in
      let now : length (message s.0) ≤ sink.firm first.sink = omega (arith, within, joins) in
      let lowered = reached.1.lowered in
      let least = put_within s.0 s.1 in
      let next : length (messages services) ≤ sink.firm reached.0.sink = omega (arith, within, joins, lowered, least) in
      none_more (has_failed s.1) (failures services) (reached.1.firm now) (writer_firm reached.0 last services reached.2 next)

  -- what any device's services come to, of a file that is written
  writer_runs : DevicesRun (WriteServes sink) (λ d. None) (λ d. sink.held d.sink) (λ d. sink.faults d.sink)
  writer_runs =
      devices_run (WriteServes sink) (λ d. None) (λ d. sink.held d.sink) (λ d. sink.faults d.sink) (λ old call effect new done. tt) (λ old call effect new done. done.bytes) (λ old call effect new done. done.tells)

module _ {S K : Type 0} (source : SourceTells S) (sink : SinkTells K) where
  -- a device keeps its direction
  stays_in : (first : ReadDevice S) (last : FileDevice S K) (services : List (IoCall × Effect)) → Reached (FileServes source sink) (In first) services last → (now : ReadDevice S) × (last ≡ In now) × Reached (ReadServes source) first services now
  stays_in first last [] reached = (first, reached, refl)
  stays_in first last (s ∷ services) (In next, step, on) =
      let rest = stays_in next last services on in
      (rest.0, rest.1, (next, step, rest.2))
  stays_in first last (s ∷ services) (Out next, step, on) = absurd step

  stays_out : (first : WriteDevice K) (last : FileDevice S K) (services : List (IoCall × Effect)) → Reached (FileServes source sink) (Out first) services last → (now : WriteDevice K) × (last ≡ Out now) × Reached (WriteServes sink) first services now
  stays_out first last [] reached = (first, reached, refl)
  stays_out first last (s ∷ services) (Out next, step, on) =
      let rest = stays_out next last services on in
      (rest.0, rest.1, (next, step, rest.2))
  stays_out first last (s ∷ services) (In next, step, on) = absurd step

  pub files_run : FilesRun source sink
  files_run (In first) services last reached =
      let now = stays_in first last services reached in
      subst (λ (d : FileDevice S K). FileRuns source sink (In first) services d) (sym now.1)
      (record {
        file = reader_is_file source first now.0 services now.2;
        given = (reader_runs source first services now.0 now.2).given;
        full = reader_full source first now.0 services (source.left first.source) (rest_self (source.left first.source)) now.2;
        tells = (reader_runs source first services now.0 now.2).tells;
        steady = reader_steady source first now.0 services now.2;
      })
  files_run (Out first) services last reached =
      let now = stays_out first last services reached in
      subst (λ (d : FileDevice S K). FileRuns source sink (Out first) services d) (sym now.1)
      (record {
        file = writer_is_file sink first now.0 services now.2;
        written = (writer_runs sink first services now.0 now.2).taken;
        tells = (writer_runs sink first services now.0 now.2).tells;
        firm = writer_firm sink first now.0 services now.2;
        lowered = writer_lowered sink first now.0 services now.2;
      })

-- nothing is said where nothing is told
pub full_untold : (failed : Bool) (services : List (IoCall × Effect)) → FullReads failed None services
full_untold failed [] = tt
full_untold failed (s ∷ services) = (full_none failed s.0 s.1, full_untold (failed || has_got_failed s.1) services)
