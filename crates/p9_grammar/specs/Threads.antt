-- thread NAME KIND ARGS from CHANS to CHANS, thread NAME code PROG, thread NAME code PROG NUMBER.
use Rattle.std.specs.Prelude.{ℕ, ◌+◌, ◌-◌, ◌^◌, Bool, true, List, [], ◌∷◌, ◌++◌, codes, Some, Result, Ok, if◌then◌else◌}
use Rattle.p9_word.specs.declared.limits.TheConstants.{MOST_THREADS}
use Rattle.p9_word.specs.declared.words.Word.{Word}
use Rattle.p9_grammar.specs.declared.pipeline.Job.{Job}
use Rattle.p9_grammar.specs.declared.pipeline.Job.TheVariants as jobs
use Rattle.p9_grammar.specs.declared.pipeline.ProcDecl.{ProcDecl}
use Rattle.p9_grammar.specs.declared.why.Why.{Why}
use Rattle.p9_grammar.specs.declared.why.Why.TheVariants as whys
use Rattle.p9_grammar.specs.Steps.{◌>>=◌, present}
use Rattle.p9_grammar.specs.Sorts.{first, the_end, is_word, new_name, known, number_in}
use Rattle.p9_grammar.specs.Draft.{Files, Chans, Procs, Draft}
use Rattle.p9_grammar.specs.Ports.{ports}
use Rattle.p9_grammar.specs.Kinds.{kind_of, ins_of, outs_of}

-- the argument of a prog, 0 where it is left out
abbrev pub argument : List Word → Result ℕ Why
argument [] = Ok 0
argument (w ∷ ws) = do
  n ← number_in 0 (2 ^ 64 - 1) w
  _ ← the_end ws
  Ok n

-- PROG, PROG NUMBER
unfoldable pub code_job : List (List ℕ) → List Word → Result Job Why
code_job progs ws = do
  prog ← first ws
  place ← known progs prog.0
  arg ← argument prog.1
  Ok (jobs.Code (place + 1) arg)

-- KIND ARGS from CHANS to CHANS: the stage, the files and the channels with what it uses
unfoldable pub stage_job : Word → Files → Chans → List Word → Result (Job × Files × Chans) Why
stage_job w f c ws = do
  kind ← kind_of w f ws
  part ← ports (ins_of kind.0) (outs_of kind.0) c.names c.ends kind.2
  Ok (jobs.Stage kind.0 part.0 part.1, kind.1, record c { ends = part.2 })

-- the last proc has this thread too; coded tells whether the thread runs a prog
abbrev pub joined_by : Procs → ProcDecl → List (List ℕ) → List ℕ → Job → Bool → Procs
joined_by p proc names name job coded = record p {
  current = Some (record proc { threads = proc.threads ++ record { name = name; job = job } ∷ [] });
  thread_names = names;
  coded = coded;
}

-- a thread that runs a prog
unfoldable pub code_thread : Draft → ProcDecl → List (List ℕ) → List ℕ → List Word → Result Draft Why
code_thread d proc names name ws = do
  job ← code_job d.progs.names ws
  Ok (record d { procs = joined_by d.procs proc names name job true })

-- a thread that is a stage
unfoldable pub stage_thread : Draft → ProcDecl → List (List ℕ) → List ℕ → Word → List Word → Result Draft Why
stage_thread d proc names name w ws = do
  stage ← stage_job w d.files d.chans ws
  Ok (record d { files = stage.1; chans = stage.2; procs = joined_by d.procs proc names name stage.0 d.procs.coded })

-- A thread is in the last proc, so there must be one.
unfoldable pub thread_line : Draft → List Word → Result Draft Why
thread_line d ws = do
  proc ← present whys.NoProc d.procs.current
  name ← first ws
  names ← new_name MOST_THREADS d.procs.thread_names name.0
  kind ← first name.1
  if is_word (codes "code") kind.0 then code_thread d proc names name.0.bytes kind.1 else stage_thread d proc names name.0.bytes kind.0 kind.1
