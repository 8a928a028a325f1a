-- What the reader's lists and tables stand for.
use Rattle.std.specs.Prelude.{Option, Some, None}
use Rattle.p9_grammar.specs.declared.pipeline.ProcDecl.{ProcDecl}
use Rattle.p9_grammar.specs.Draft.{Files as FilesDraft, Chans as ChansDraft, Rendezes as RendezesDraft, Refs as RefsDraft, OpenProg as ProgDraft, Progs as ProgsDraft, Procs as ProcsDraft, Draft as TextDraft}
use Rattle.p9_lang.specs.declared.draft.Files.{Files}
use Rattle.p9_lang.specs.declared.draft.Chans.{Chans}
use Rattle.p9_lang.specs.declared.draft.Rendezes.{Rendezes}
use Rattle.p9_lang.specs.declared.draft.Refs.{Refs}
use Rattle.p9_lang.specs.declared.draft.OpenProg.{OpenProg}
use Rattle.p9_lang.specs.declared.draft.Progs.{Progs}
use Rattle.p9_lang.specs.declared.draft.OpenProc.{OpenProc}
use Rattle.p9_lang.specs.declared.draft.Procs.{Procs}
use Rattle.p9_lang.specs.declared.draft.Draft.{Draft}

abbrev pub files_of : Files → FilesDraft
files_of f = record { names = f.names; decls = f.decls.items; used = f.used.items }

abbrev pub chans_of : Chans → ChansDraft
chans_of c = record { names = c.names; decls = c.decls.items; ends = c.ends.items }

abbrev pub rendezes_of : Rendezes → RendezesDraft
rendezes_of r = record { names = r.names; decls = r.decls.items }

abbrev pub refs_of : Refs → RefsDraft
refs_of r = record { names = r.names; decls = r.decls.items }

abbrev pub prog_of : OpenProg → ProgDraft
prog_of p = record { name = p.name; code = p.code.items; depth = p.depth; loops = p.loops }

abbrev pub some_prog : Option OpenProg → Option ProgDraft
some_prog None = None
some_prog (Some p) = Some (prog_of p)

abbrev pub progs_of : Progs → ProgsDraft
progs_of p = record { names = p.names; done = p.done.items; current = some_prog p.current }

abbrev pub proc_of : OpenProc → ProcDecl
proc_of p = record { name = p.name; threads = p.threads.items }

abbrev pub some_proc : Option OpenProc → Option ProcDecl
some_proc None = None
some_proc (Some p) = Some (proc_of p)

abbrev pub procs_of : Procs → ProcsDraft
procs_of p = record {
  names = p.names;
  done = p.done.items;
  current = some_proc p.current;
  thread_names = p.thread_names;
  coded = p.coded;
}

abbrev pub draft_of : Draft → TextDraft
draft_of d = record {
  files = files_of d.files;
  chans = chans_of d.chans;
  locks = d.locks;
  qlocks = d.qlocks;
  rwlocks = d.rwlocks;
  rendezes = rendezes_of d.rendezes;
  refs = refs_of d.refs;
  later = d.later;
  progs = progs_of d.progs;
  procs = procs_of d.procs;
}
