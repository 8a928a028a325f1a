use Rattle.std.proofs.Common.{refl, rules}
use Rattle.p9_manual.specs.Programs.{RunsPrograms}
use Rattle.p9_run.proofs.Lives.{runs-push}
use Rattle.p9_run.proofs.Turns.{request_taken, is_asked, call_now, call_ended, call_waits}
use Rattle.p9_run.proofs.Untouched.{touches_with, touches_none}
use Rattle.p9_run.proofs.proc_turn.make_request.Goals as goal

pub returns-in-Now-clause-ok : goal.returns-in-Now-clause-ok
returns-in-Now-clause-ok g c = λ asks between.
    let said = c.in_ok-last.ensures in
    let entries = rw c.in-Now.is at said.entries in
    let living = (rw c.in-Now.is at said.living) refl in
    let here = request_taken asks _ _ _ _ _ _ _ c.take.ensures.others between in
    let asked = is_asked asks _ _ _ _ _ _ _ between c.in-Some.ensures.value living in
    c.in_ok-answer-in-Now.ensures asks _ (rw entries (call_now asks _ _ _ _ _ _ _ _ _ _ _ here asked living c.in-Some-take.ensures.value c.in-Some-take.ensures.others))

pub returns-in_err-answer-in-Now-clause-refused : goal.returns-in_err-answer-in-Now-clause-refused
returns-in_err-answer-in-Now-clause-refused g c = λ asks between.
    let said = c.in_ok-last.ensures in
    let entries = rw c.in-Now.is at said.entries in
    let living = (rw c.in-Now.is at said.living) refl in
    let asked = is_asked asks _ _ _ _ _ _ _ between c.in-Some.ensures.value living in
    let runs : RunsPrograms asks (g.E.Engine.entries c.call.new.self) = rw entries (runs-push asks _ _ between.runs asked) in
    search rules

pub returns-in_err-answer-in-Now-clause-files : goal.returns-in_err-answer-in-Now-clause-files
returns-in_err-answer-in-Now-clause-files g c = touches_with _ _ _ _ _ _ (touches_none _) c.in_ok-last.ensures.entries

pub returns-in-Now-clause-files : goal.returns-in-Now-clause-files
returns-in-Now-clause-files g c = touches_with _ _ _ _ _ _ (touches_none _) c.in_ok-last.ensures.entries

pub returns-in-Ended-clause-ok : goal.returns-in-Ended-clause-ok
returns-in-Ended-clause-ok g c = λ asks between.
    let said = c.in_ok-last.ensures in
    let entries = rw c.in-Ended.is at said.entries in
    let living = (rw c.in-Ended.is at said.living) refl in
    let here = request_taken asks _ _ _ _ _ _ _ c.take.ensures.others between in
    let asked = is_asked asks _ _ _ _ _ _ _ between c.in-Some.ensures.value living in
    rw entries (call_ended asks _ _ _ _ _ _ _ _ _ here asked c.take-in-Ended.ensures.others)

pub returns-in-Ended-clause-files : goal.returns-in-Ended-clause-files
returns-in-Ended-clause-files g c = touches_with _ _ _ _ _ _ (touches_none _) c.in_ok-last.ensures.entries

pub returns : goal.returns
returns g c =
    let said = c.in_ok-last.ensures in
    record {
      setup = said.setup;
      ok = λ asks between.
          rw said.entries (call_waits asks _ _ _ _ _ _ _ _ _ (request_taken asks _ _ _ _ _ _ _ c.take.ensures.others between) (λ makes. is_asked asks _ _ _ _ _ _ _ between c.in-Some.ensures.value (said.living makes)) c.in_default-2.not-Now c.in_default-2.not-Ended);
      refused = λ asks between. tt;
      over = said.over;
      files = touches_with _ _ _ _ _ _ (touches_none _) said.entries;
    }
