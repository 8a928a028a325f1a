-- Files in memory: their contents, the failures planned, the room of a sink, and the calls that failed.
use Rattle.std.specs.Prelude.{ℕ, ◌≡◌, ◌⊎◌, ◌++◌, ◌&&◌, List, [], ◌∷◌, true, false, not, Option, Some, None, is_some, cond, bytes_eq}
use Rattle.p9_word.specs.declared.limits.TheConstants.{BLOCK_BYTES}
use Rattle.p9_outside.specs.declared.memory.files.TheConstants.{ROOM}
use Rattle.p9_outside.specs.declared.memory.files.Held.{Held}
use Rattle.p9_outside.specs.declared.memory.files.MemFiles.{MemFiles}
use Rattle.p9_outside.specs.declared.memory.plans.Plan.{Plan}
use Rattle.p9_outside.specs.declared.memory.plans.PathFail.{PathFail}
use Rattle.p9_outside.specs.declared.memory.plans.PathFail.TheVariants.{Source, Sink, Close}
use Rattle.p9_outside.specs.declared.memory.source.MemSource.{MemSource}
use Rattle.p9_outside.specs.declared.memory.sink.MemSink.{MemSink}
use Rattle.p9_outside.specs.Contents.{Told}
use Rattle.p9_outside.specs.Memory.{counted, none_fails, unless_planned, source_left, source_most, source_fails, source_calls, source_faults, sink_held, sink_room, sink_most, sink_fails, sink_calls, sink_faults}
use Rattle.p9_outside.specs.Plans.{planned, is_planned, spent, numbers}
use Rattle.p9_outside.specs.Promised.{PathTold}

-- the contents of a path: those of its entry
abbrev pub found : List Held → List ℕ → Option (List ℕ)
found [] path = None
found (h ∷ held) path = cond (bytes_eq h.path path) (Some h.bytes) (found held path)

-- the entries without the first of this path, if there is one
abbrev pub without : List Held → List ℕ → List Held
without [] path = []
without (h ∷ held) path = cond (bytes_eq h.path path) held (h ∷ without held path)

-- an entry
abbrev pub entry : List ℕ → List ℕ → Held
entry path bytes = record { path = path; bytes = bytes }

-- what is in the files: the entries, the plans that are not used up, the room of each later sink, and how many
-- calls failed
pub record Parts : Type 0 where
  pub held : List Held
  pub plans : List Plan
  pub room : ℕ
  pub faults : ℕ

abbrev pub parts_of : MemFiles → Parts
parts_of f = record { held = f.held.items; plans = f.plans.items; room = f.room; faults = f.faults }

-- no contents, nothing planned, and the room that no call has set
abbrev pub no_files : Parts
no_files = record { held = []; plans = []; room = ROOM; faults = 0 }

-- the contents by path, which are told
abbrev pub contents_of : MemFiles → Told
contents_of f = Some (found (parts_of f).held)

-- the contents of a path, or None
abbrev pub bytes_at : MemFiles → List ℕ → Option (List ℕ)
bytes_at f path = found (parts_of f).held path

-- what is told of a path: what isn't planned to fail doesn't, where there is room, and contents to be read
abbrev pub told_of : Parts → List ℕ → PathTold
told_of parts path = record {
  steady = none_fails (numbers true parts.plans path);
  firm = unless_planned (numbers false parts.plans path) parts.room;
  found = not (is_planned parts.plans path Source) && is_some (found parts.held path);
  made = not (is_planned parts.plans path Sink);
  closes = not (is_planned parts.plans path Close);
}

-- one failure more is planned
abbrev pub with_plan : Parts → List ℕ → PathFail → Parts
with_plan parts path fail = record parts { plans = parts.plans ++ planned path fail ∷ [] }

-- no source of the path can be opened: that is planned to fail, or the path has no contents
abbrev pub CannotOpen : Parts → List ℕ → Type 0
CannotOpen parts path = (is_planned parts.plans path Source ≡ true) ⊎ (found parts.held path ≡ None)

-- a call that failed is counted, and uses up the plan that failed it, if one did
abbrev pub after_failure : Parts → List ℕ → PathFail → Parts
after_failure parts path fail = record parts { plans = spent parts.plans path fail; faults = counted parts.faults }

-- all but the contents stays
pub record KeepsPlans (old new : MemFiles) : Type 0 where
  pub plans : (parts_of new).plans ≡ (parts_of old).plans
  pub room : (parts_of new).room ≡ (parts_of old).room
  pub faults : (parts_of new).faults ≡ (parts_of old).faults

-- a new source of a path: at most a block a read, with the failures planned
pub record IsSourceOf (parts : Parts) (path : List ℕ) (s : MemSource) : Type 0 where
  pub left : found parts.held path ≡ Some (source_left s)
  pub most : source_most s ≡ BLOCK_BYTES
  pub fails : source_fails s ≡ numbers true parts.plans path
  pub calls : source_calls s ≡ 0
  pub faults : source_faults s ≡ 0

-- a new sink of a path: at most a block a write, with the room and the failures planned
pub record IsSinkOf (parts : Parts) (path : List ℕ) (s : MemSink) : Type 0 where
  pub held : sink_held s ≡ []
  pub room : sink_room s ≡ parts.room
  pub most : sink_most s ≡ BLOCK_BYTES
  pub fails : sink_fails s ≡ numbers false parts.plans path
  pub calls : sink_calls s ≡ 0
  pub faults : sink_faults s ≡ 0

-- what opening a path for reading came to
abbrev pub OpensIn : Parts → List ℕ → Option MemSource → Type 0
OpensIn parts path None = found parts.held path ≡ None
OpensIn parts path (Some s) = IsSourceOf parts path s
