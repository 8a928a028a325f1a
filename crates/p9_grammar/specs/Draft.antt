-- What the lines so far declare, sort by sort. Names of a sort and its things stand in the same order.
use Rattle.std.specs.Prelude.{ℕ, Bool, false, List, [], ◌∷◌, ◌++◌, Option, Some, None}
use Rattle.p9_grammar.specs.declared.ends.ChanEnds.{ChanEnds}
use Rattle.p9_grammar.specs.declared.instr.Instr.{Instr}
use Rattle.p9_grammar.specs.declared.pipeline.FileDecl.{FileDecl}
use Rattle.p9_grammar.specs.declared.pipeline.ChanDecl.{ChanDecl}
use Rattle.p9_grammar.specs.declared.pipeline.RendezDecl.{RendezDecl}
use Rattle.p9_grammar.specs.declared.pipeline.RefDecl.{RefDecl}
use Rattle.p9_grammar.specs.declared.pipeline.ProgDecl.{ProgDecl}
use Rattle.p9_grammar.specs.declared.pipeline.ProcDecl.{ProcDecl}

-- files, and the places of those that a stage uses
pub record Files : Type 0 where
  pub names : List (List ℕ)
  pub decls : List FileDecl
  pub used : List ℕ

-- channels, and which of their ends stages use
pub record Chans : Type 0 where
  pub names : List (List ℕ)
  pub decls : List ChanDecl
  pub ends : List ChanEnds

pub record Rendezes : Type 0 where
  pub names : List (List ℕ)
  pub decls : List RendezDecl

pub record Refs : Type 0 where
  pub names : List (List ℕ)
  pub decls : List RefDecl

-- a prog whose `done` hasn't come: its instructions, how many blocks are open, and whether the line before began a loop
pub record OpenProg : Type 0 where
  pub name : List ℕ
  pub code : List Instr
  pub depth : ℕ
  pub loops : Bool

-- progs: those that are done, and the one that isn't
pub record Progs : Type 0 where
  pub names : List (List ℕ)
  pub done : List ProgDecl
  pub current : Option OpenProg

-- procs: all but the last, and the last one, which threads still join; the threads' names; whether one of them runs a prog
pub record Procs : Type 0 where
  pub names : List (List ℕ)
  pub done : List ProcDecl
  pub current : Option ProcDecl
  pub thread_names : List (List ℕ)
  pub coded : Bool

pub record Draft : Type 0 where
  pub files : Files
  pub chans : Chans
  pub locks : List (List ℕ)
  pub qlocks : List (List ℕ)
  pub rwlocks : List (List ℕ)
  pub rendezes : Rendezes
  pub refs : Refs
  pub later : Option ℕ
  pub progs : Progs
  pub procs : Procs

-- nothing is declared
abbrev pub nothing : Draft
nothing = record {
  files = record { names = []; decls = []; used = [] };
  chans = record { names = []; decls = []; ends = [] };
  locks = [];
  qlocks = [];
  rwlocks = [];
  rendezes = record { names = []; decls = [] };
  refs = record { names = []; decls = [] };
  later = None;
  progs = record { names = []; done = []; current = None };
  procs = record { names = []; done = []; current = None; thread_names = []; coded = false };
}

-- the last proc behind the others
abbrev pub all_procs : List ProcDecl → Option ProcDecl → List ProcDecl
all_procs done None = done
all_procs done (Some p) = done ++ p ∷ []
