-- New threads and new procs keep a sound state sound.
use Rattle.std.proofs.Common.{◌≡◌, ◌≢◌, inl, inr, ℕ, ◌+◌, ◌<◌, ◌≤◌, Bool, true, false, ◌&&◌, eqb, List, [], ◌∷◌, ◌++◌, length, refl, ap, sym, subst, ◌∙◌, arith}
use Rattle.std.specs.Prelude.{Some}
use Rattle.std.proofs.lemmas.Bool.{cases_eq}
use Rattle.std.proofs.lemmas.List.Elements.{All-push, All-weaker}
use Rattle.p9_word.specs.Setup.{IsBetween}
use Rattle.p9_word.specs.declared.setup.Setup.{Setup}
use Rattle.p9_word.specs.declared.answer.Answer.TheVariants.{Number}
use Rattle.p9_manual.specs.declared.state.Place.TheVariants.{New, Ended}
use Rattle.p9_manual.specs.declared.state.Thread.{Thread}
use Rattle.p9_manual.specs.declared.state.Waiter.{Waiter}
use Rattle.p9_manual.specs.LockWaits.{lock_waiters}
use Rattle.p9_manual.specs.Places.{runs_in}
use Rattle.p9_manual.specs.State.{State, by_id, now, done}
use Rattle.p9_manual.specs.Create.{fresh, with_thread}
use Rattle.p9_manual.specs.Standing.{StandOnce, times, place_of, place_in, times_in_line, times_in_waits}
use Rattle.p9_manual.specs.Sound.{IsSound, IsThreadIn}
use Rattle.p9_laws.proofs.LockWaiters.{nobody_past}
use Rattle.p9_laws.proofs.Pending.{pushed_lives, read_on}
use Rattle.p9_laws.proofs.Sound.Counts.{times-push}
use Rattle.p9_laws.proofs.Sound.InTurn.{made_in_turn}
use Rattle.p9_laws.proofs.Sound.Places.{by_id-push_same, by_id-push_other, by_id-past, runs_before}
use Rattle.p9_laws.proofs.Sound.Stand.{eqb_same, eqb_other, member_at}
use Rattle.p9_laws.proofs.Sound.Outcomes.{IsFine, RunsIn, now_fine, done_fine}

no_one : (b : Bool) → (b && false) ≡ false
no_one true = refl
no_one false = refl

-- a new thread has the next id and stands last in the line
created_stands : (threads : List Thread) (line : List ℕ) (waits : List Waiter) (p program arg group : ℕ) → StandOnce threads line waits → StandOnce (threads ++ fresh p program arg group ∷ []) (line ++ (length threads + 1) ∷ []) waits
created_stands threads line waits p program arg group stand =
    record {
      in_line = λ u. elim (cases_eq u (length threads + 1)) [
        | inl e ↦ subst (λ (x : ℕ). times (λ v. eqb v x) (line ++ (length threads + 1) ∷ []) ≡ times_in_line (place_of (threads ++ fresh p program arg group ∷ []) x)) (sym e) line_here
        | inr ne ↦ line_elsewhere u ne
      ];
      in_waits = λ u. elim (cases_eq u (length threads + 1)) [
        | inl e ↦ subst (λ (x : ℕ). times (λ w. eqb w.tid x) waits ≡ times_in_waits (place_of (threads ++ fresh p program arg group ∷ []) x)) (sym e) waits_here
        | inr ne ↦ stand.in_waits u ∙ ap times_in_waits (sym (other_place u ne))
      ];
      one_runs = λ q.
          let more = times-push (runs_in q) false threads (fresh p program arg group) (no_one (eqb p q)) in
          let one = stand.one_runs q in
          omega (arith, more, one);
    }
  where
    here : place_of (threads ++ fresh p program arg group ∷ []) (length threads + 1) ≡ New
    here = ap place_in (by_id-push_same (fresh p program arg group) threads)

    past : place_of threads (length threads + 1) ≡ Ended
    past = ap place_in (by_id-past threads)

    other_place : (u : ℕ) → u ≢ length threads + 1 → place_of (threads ++ fresh p program arg group ∷ []) u ≡ place_of threads u
    other_place u ne = ap place_in (by_id-push_other (fresh p program arg group) threads u ne)

    line_here : times (λ v. eqb v (length threads + 1)) (line ++ (length threads + 1) ∷ []) ≡ times_in_line (place_of (threads ++ fresh p program arg group ∷ []) (length threads + 1))
    line_here =
        times-push (λ v. eqb v (length threads + 1)) true line (length threads + 1) (eqb_same (length threads + 1))
        ∙ ap (λ n. n + 1) (stand.in_line (length threads + 1) ∙ ap times_in_line past) ∙ sym (ap times_in_line here)

    line_elsewhere : (u : ℕ) → u ≢ length threads + 1 → times (λ v. eqb v u) (line ++ (length threads + 1) ∷ []) ≡ times_in_line (place_of (threads ++ fresh p program arg group ∷ []) u)
    line_elsewhere u ne =
        let more = times-push (λ v. eqb v u) false line (length threads + 1) (eqb_other (length threads + 1) u ne) in
        let before = stand.in_line u ∙ ap times_in_line (sym (other_place u ne)) in
        omega (arith, more, before)

    waits_here : times (λ w. eqb w.tid (length threads + 1)) waits ≡ times_in_waits (place_of (threads ++ fresh p program arg group ∷ []) (length threads + 1))
    waits_here = stand.in_waits (length threads + 1) ∙ ap times_in_waits past ∙ sym (ap times_in_waits here)

-- a new thread in an open proc, with one of the programs
with_thread_sound : (setup : Setup) (s : State) (p program arg group : ℕ) → IsBetween 1 s.opened p → IsBetween 1 setup.programs program → IsSound setup s → IsSound setup (with_thread p program arg group s)
with_thread_sound setup s p program arg group here one sound =
    record {
      stand = created_stands s.threads s.line s.waits p program arg group sound.stand;
      members = All-push (IsThreadIn s.opened setup.programs) s.threads (fresh p program arg group) sound.members (record { proc_no = here; program = one });
      opened = sound.opened;
      waits_right = sound.waits_right;
      within = sound.within;
      in_turn = made_in_turn s.threads s.holds (lock_waiters s.waits) (fresh p program arg group) (λ q. no_one (eqb p q)) (nobody_past s.threads s.line s.waits sound.stand) sound.in_turn;
      order = sound.order;
      calls = sound.calls;
      notes = read_on s.procs s.procs s.threads (s.threads ++ fresh p program arg group ∷ []) (λ q. refl) (pushed_lives s.threads (fresh p program arg group)) sound.notes;
    }

-- a thread that runs runs on when another one is made
with_thread_runs : (s : State) (p program arg group t : ℕ) → RunsIn s t → RunsIn (with_thread p program arg group s) t
with_thread_runs s p program arg group t runs =
    ap place_in (by_id-push_other (fresh p program arg group) s.threads t (runs_before s.threads t runs)) ∙ runs

-- one more proc is open
opened_sound : (setup : Setup) (s : State) → s.opened + 1 ≤ setup.places → IsSound setup s → IsSound setup (record s { opened = s.opened + 1 })
opened_sound setup s room sound =
    record {
      stand = sound.stand;
      members = All-weaker (IsThreadIn s.opened setup.programs) (IsThreadIn (s.opened + 1) setup.programs)
          (λ x m. record { proc_no = record { from = m.proc_no.from; to = omega (arith, m.proc_no.to) }; program = m.program }) s.threads sound.members;
      opened = room;
      waits_right = sound.waits_right;
      within = sound.within;
      in_turn = sound.in_turn;
      order = sound.order;
      calls = sound.calls;
      notes = sound.notes;
    }

pub made_thread_fine : (setup : Setup) (t program arg : ℕ) (s : State) (caller : Thread) → by_id s.threads t ≡ Some caller → IsBetween 1 setup.programs program → IsSound setup s → IsFine setup s.position (now (Number (length s.threads + 1)) (with_thread caller.proc_no program arg caller.group s))
made_thread_fine setup t program arg s caller at own sound =
    now_fine setup _ (Number (length s.threads + 1))
    (with_thread_sound setup s caller.proc_no program arg caller.group (member_at s.opened setup.programs s.threads t caller sound.members at).proc_no own sound)

pub made_proc_fine : (setup : Setup) (t program arg : ℕ) (s : State) (caller : Thread) → IsBetween 1 setup.programs program → s.opened < setup.places → IsSound setup s → RunsIn s t → IsFine setup s.position (done t (Number (length s.threads + 1)) (with_thread (s.opened + 1) program arg caller.group (record s { opened = s.opened + 1 })))
made_proc_fine setup t program arg s caller own room sound runs =
    done_fine setup _ t (Number (length s.threads + 1))
    (with_thread_sound setup (record s { opened = s.opened + 1 }) (s.opened + 1) program arg caller.group (record { from = omega arith; to = omega arith }) own (opened_sound setup s (omega (arith, room)) sound))
    (with_thread_runs (record s { opened = s.opened + 1 }) (s.opened + 1) program arg caller.group t runs)
