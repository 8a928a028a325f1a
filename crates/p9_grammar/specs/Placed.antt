-- The pipeline of a draft. A program's name stands as the number of that program in the setup, where the threads of the text
-- come first, so it is known once all lines are read.
use Rattle.std.specs.Prelude.{ℕ, ◌+◌, map, length}
use Rattle.p9_grammar.specs.declared.instr.Num.{Num}
use Rattle.p9_grammar.specs.declared.instr.Num.TheVariants as nums
use Rattle.p9_grammar.specs.declared.instr.Instr.{Instr}
use Rattle.p9_grammar.specs.declared.instr.Instr.TheVariants as instr
use Rattle.p9_grammar.specs.declared.pipeline.ProgDecl.{ProgDecl}
use Rattle.p9_grammar.specs.declared.pipeline.Pipeline.{Pipeline}
use Rattle.p9_grammar.specs.Draft.{Draft, all_procs}
use Rattle.p9_grammar.specs.Decls.{later_or_none}

-- the number of a program behind this many threads
abbrev pub placed_number : ℕ → Num → Num
placed_number threads (nums.Fixed prog) = nums.Fixed (threads + prog)
placed_number threads nums.Dollar = nums.Dollar

-- an instruction that names a program has its number; the others stay
abbrev pub placed : ℕ → Instr → Instr
placed threads (instr.ThreadCreate program arg) = instr.ThreadCreate (placed_number threads program) arg
placed threads (instr.ProcCreate program arg) = instr.ProcCreate (placed_number threads program) arg
placed threads i = i

abbrev pub placed_prog : ℕ → ProgDecl → ProgDecl
placed_prog threads p = record p { code = map (placed threads) p.code }

abbrev pub pipeline_of : Draft → Pipeline
pipeline_of d = record {
  files = d.files.decls;
  chans = d.chans.decls;
  locks = d.locks;
  qlocks = d.qlocks;
  rwlocks = d.rwlocks;
  rendezes = d.rendezes.decls;
  refs = d.refs.decls;
  later = later_or_none d.later;
  progs = map (placed_prog (length d.procs.thread_names)) d.progs.done;
  procs = all_procs d.procs.done d.procs.current;
}
