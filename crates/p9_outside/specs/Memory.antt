-- The source and the sink in memory: what each has left or holds, and which of its calls fail.
use Rattle.std.specs.Prelude.{ℕ, ◌≡◌, ◌-◌, ◌⊎◌, min, Bool, true, false, List, [], ◌∷◌, length, drop, Contains}
use Rattle.p9_outside.specs.declared.memory.source.MemSource.{MemSource}
use Rattle.p9_outside.specs.declared.memory.sink.MemSink.{MemSink}
use Rattle.p9_outside.specs.Counts.{raised}

-- the bytes that are not read yet
abbrev pub source_left : MemSource → List ℕ
source_left s = drop s.at s.bytes

-- the most bytes that one read gives
abbrev pub source_most : MemSource → ℕ
source_most s = s.most

-- the numbers, from 1, of the reads that fail
abbrev pub source_fails : MemSource → List ℕ
source_fails s = s.fails

-- how many reads there were, and how many of them failed
abbrev pub source_calls : MemSource → ℕ
source_calls s = s.calls

abbrev pub source_faults : MemSource → ℕ
source_faults s = s.faults

-- the bytes that were taken
abbrev pub sink_held : MemSink → List ℕ
sink_held s = s.bytes.items

-- how many bytes it takes in all
abbrev pub sink_room : MemSink → ℕ
sink_room s = s.room

-- the most bytes that one write takes
abbrev pub sink_most : MemSink → ℕ
sink_most s = s.most

-- the numbers, from 1, of the writes that fail
abbrev pub sink_fails : MemSink → List ℕ
sink_fails s = s.fails

-- how many writes there were, and how many of them failed
abbrev pub sink_calls : MemSink → ℕ
sink_calls s = s.calls

abbrev pub sink_faults : MemSink → ℕ
sink_faults s = s.faults

-- no failure is planned
abbrev pub none_fails : List ℕ → Bool
none_fails [] = true
none_fails (n ∷ fails) = false

-- so much, where no failure is planned, and else nothing
abbrev pub unless_planned : List ℕ → ℕ → ℕ
unless_planned [] n = n
unless_planned (m ∷ fails) n = 0

-- no read is planned to fail
abbrev pub source_steady : MemSource → Bool
source_steady s = none_fails (source_fails s)

-- the room that is left, where no write is planned to fail
abbrev pub sink_firm : MemSink → ℕ
sink_firm s = unless_planned (sink_fails s) (sink_room s - length (sink_held s))

-- a count after one more
abbrev pub counted : ℕ → ℕ
counted n = raised n 1

-- what no read changes, and one more read
pub record ReadsOn (old new : MemSource) : Type 0 where
  pub most : source_most new ≡ source_most old
  pub fails : source_fails new ≡ source_fails old
  pub calls : source_calls new ≡ counted (source_calls old)

-- how many bytes one read gives: the fewest of those left, those that fit, and the most
abbrev pub read_count : MemSource → ℕ → ℕ
read_count s wanted = min (min (length (source_left s)) wanted) (source_most s)

-- what no write changes, and one more write
pub record WritesOn (old new : MemSink) : Type 0 where
  pub room : sink_room new ≡ sink_room old
  pub most : sink_most new ≡ sink_most old
  pub fails : sink_fails new ≡ sink_fails old
  pub calls : sink_calls new ≡ counted (sink_calls old)

-- the next write fails: that is planned, or the room is full
abbrev pub WriteFails : MemSink → Type 0
WriteFails s = Contains (sink_fails s) (counted (sink_calls s)) ⊎ (length (sink_held s) ≡ sink_room s)

-- how many bytes one write takes: the fewest of those offered, those that there is room for, and the most
abbrev pub write_count : MemSink → ℕ → ℕ
write_count s offered = min (min offered (sink_room s - length (sink_held s))) (sink_most s)
