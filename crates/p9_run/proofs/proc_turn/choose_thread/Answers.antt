use Rattle.std.proofs.Common.{rules}
use Rattle.p9_manual.specs.Programs.{RunsPrograms}
use Rattle.p9_run.proofs.Turns.{begins, turns, quiet, runs_on}
use Rattle.p9_run.proofs.Untouched.{touches_with, touches_none}
use Rattle.p9_run.proofs.proc_turn.choose_thread.Goals as goal

pub returns-in_err-body-in-Begin-clause-refused : goal.returns-in_err-body-in-Begin-clause-refused
returns-in_err-body-in-Begin-clause-refused g c =
    let entries = rw c.in-Begin.is at c.in_ok-tid.ensures.entries in
    let runs : RunsPrograms (g.P.Programs.asks c.args.programs.now) (g.E.Engine.entries c.next.new.self) = rw entries (runs_on _ g.P.B.Body.plan g.P.B.Body.stands_for _ _ _ c.requires.between.runs) in
    search rules

pub returns-in_err-body-in-Begin-clause-files : goal.returns-in_err-body-in-Begin-clause-files
returns-in_err-body-in-Begin-clause-files g c = touches_with _ _ _ _ _ _ (touches_none _) c.in_ok-tid.ensures.entries

pub returns-in_err-answer-in-Begin-clause-refused : goal.returns-in_err-answer-in-Begin-clause-refused
returns-in_err-answer-in-Begin-clause-refused g c =
    let entries = rw c.in-Begin.is at c.in_ok-tid.ensures.entries in
    let runs : RunsPrograms (g.P.Programs.asks c.args.programs.now) (g.E.Engine.entries c.next.new.self) = rw entries (runs_on _ g.P.B.Body.plan g.P.B.Body.stands_for _ _ _ c.requires.between.runs) in
    search rules

pub returns-in_err-answer-in-Begin-clause-files : goal.returns-in_err-answer-in-Begin-clause-files
returns-in_err-answer-in-Begin-clause-files g c = touches_with _ _ _ _ _ _ (touches_none _) c.in_ok-tid.ensures.entries

pub returns-in-Begin-clause-ok : goal.returns-in-Begin-clause-ok
returns-in-Begin-clause-ok g c =
    let entries = rw c.in-Begin.is at c.in_ok-tid.ensures.entries in
    c.in_ok-answer-in-Begin.ensures _ _ (rw entries (begins _ _ _ _ _ _ _ _ _ _ _ c.requires.between c.in_ok-body-in-Begin.ensures.plan c.in_ok-body-in-Begin.ensures.stands))

pub returns-in-Begin-clause-files : goal.returns-in-Begin-clause-files
returns-in-Begin-clause-files g c = touches_with _ _ _ _ _ _ (touches_none _) c.in_ok-tid.ensures.entries

pub returns-in_err-answer-in-Turn-clause-refused : goal.returns-in_err-answer-in-Turn-clause-refused
returns-in_err-answer-in-Turn-clause-refused g c =
    let entries = rw c.in-Turn.is at c.in_ok-tid.ensures.entries in
    let runs : RunsPrograms (g.P.Programs.asks c.args.programs.now) (g.E.Engine.entries c.next.new.self) = rw entries (runs_on _ g.P.B.Body.plan g.P.B.Body.stands_for _ _ _ c.requires.between.runs) in
    search rules

pub returns-in_err-answer-in-Turn-clause-files : goal.returns-in_err-answer-in-Turn-clause-files
returns-in_err-answer-in-Turn-clause-files g c = touches_with _ _ _ _ _ _ (touches_none _) c.in_ok-tid.ensures.entries

pub returns-in-Turn-clause-ok : goal.returns-in-Turn-clause-ok
returns-in-Turn-clause-ok g c =
    let entries = rw c.in-Turn.is at c.in_ok-tid.ensures.entries in
    let living = rw c.in-Turn.is at c.in_ok-tid.ensures.may in
    c.in_ok-answer-in-Turn.ensures _ _ (rw entries (turns _ _ _ _ _ _ _ _ _ _ _ c.requires.between living c.in-Some.ensures.value c.in-Some.ensures.others))

pub returns-in-Turn-clause-files : goal.returns-in-Turn-clause-files
returns-in-Turn-clause-files g c = touches_with _ _ _ _ _ _ (touches_none _) c.in_ok-tid.ensures.entries

pub returns : goal.returns
returns g c =
    record {
      setup = c.in_ok-tid.ensures.setup;
      ok = rw c.in_ok-tid.ensures.entries (quiet _ _ _ _ _ _ _ _ c.requires.between c.in_default.not-Begin c.in_default.not-Turn);
      refused = tt;
      is_over = search rules;
      over = c.in_ok-tid.ensures.over;
      files = touches_with _ _ _ _ _ _ (touches_none _) c.in_ok-tid.ensures.entries;
    }
