-- What an alt comes to, on channels that are alike and by the draw for it.
use Rattle.std.proofs.Common.{◌≡◌, ℕ, zero, suc, ◌+◌, ◌%◌, ◌<◌, ◌≤◌, Bool, true, false, not, cond, ◌&&◌, ◌||◌, List, [], ◌∷◌, length, get_or, Option, Some, None, refl, ap, sym, subst, arith, rules, tests}
use Rattle.std.specs.Prelude.{nat_lt}
use Rattle.std.specs.List.{list_all}
use Rattle.rand_pcg.specs.Lcg.{state_after, next_state, started, increment_of}
use Rattle.rand_pcg.specs.Pcg.{multiplier_64, pcg32}
use Rattle.p9_word.specs.declared.alt.AltEntry.{AltEntry}
use Rattle.p9_word.specs.declared.alt.AltOp.{AltOp}
use Rattle.p9_word.specs.declared.alt.AltOp.TheVariants.{Snd, Rcv, Nop}
use Rattle.p9_word.specs.declared.alt.Ending.{Ending}
use Rattle.p9_word.specs.declared.alt.Ending.TheVariants.{End, NoBlk}
use Rattle.p9_manual.specs.declared.state.Channel.{Channel}
use Rattle.p9_manual.specs.declared.state.Party.{Party}
use Rattle.p9_manual.specs.AltEntries.{is_nop}
use Rattle.p9_manual.specs.ReadyEntries.{can_go_on, is_ready, ready_entries, numbers_of, fits}
use Rattle.p9_manual.specs.Commit.{Deal}
use Rattle.p9_manual.specs.Draws.{generator_after}
use Rattle.p9_manual.specs.Alt.{Verdict, AllClosed, Commits, NoneReady, MustWait, is_closed_list, chosen, unready, verdict_on, verdict, needs_draw}
use Rattle.p9_manual.specs.State.{by_id}
use Rattle.p9_alt.specs.Exchange.{chans_after}
use Rattle.p9_alt.specs.For.{AreAlike}
use Rattle.p9_chan_calls.proofs.AlikeDeals.{DealsAlike, IsNumber, numbers_pass, alike_ready, alike_commit}

-- the verdict, with these channels after it
abbrev pub over : List Channel → Verdict → Verdict
over chans (Commits d) = Commits (record d { chans = chans })
over chans AllClosed = AllClosed
over chans NoneReady = NoneReady
over chans MustWait = MustWait

-- of two verdicts, on channels a and b, that agree but for the channels after them, and these are alike
pub record VerdictsAlike (a b : List Channel) (v w : Verdict) : Type 0 where
  pub is : w ≡ over (chans_after w b) v
  pub chans : AreAlike (chans_after v a) (chans_after w b)

commits_alike : (a b : List Channel) (d e : Deal) → DealsAlike d e → VerdictsAlike a b (Commits d) (Commits e)
commits_alike a b d e h = record { is = rw (h.answer, h.woken, h.moved) refl; chans = h.chans }

unready_alike : (a b : List Channel) (ending : Ending) → AreAlike a b → VerdictsAlike a b (unready ending) (unready ending)
unready_alike a b NoBlk h = record { is = refl; chans = h }
unready_alike a b End h = record { is = refl; chans = h }

-- the entry that a draw says is a ready one
chosen_number : (p : AltEntry → Bool) (entries : List AltEntry) (draw i j : ℕ) (more : List ℕ) → numbers_of p 0 entries ≡ i ∷ j ∷ more → IsNumber p entries 0 (chosen draw (i ∷ j ∷ more))
chosen_number p entries draw i j more e =
    let lt : draw % length (i ∷ j ∷ more) < length (i ∷ j ∷ more) = omega arith in
    subst (λ ns. draw % length (i ∷ j ∷ more) < length ns → IsNumber p entries 0 (get_or ns (draw % length (i ∷ j ∷ more)) 0)) e (numbers_pass p entries 0 (draw % length (i ∷ j ∷ more))) lt

first_number : (p : AltEntry → Bool) (entries : List AltEntry) (i : ℕ) → numbers_of p 0 entries ≡ i ∷ [] → IsNumber p entries 0 i
first_number p entries i e = subst (λ ns. 0 < length ns → IsNumber p entries 0 (get_or ns 0 0)) e (numbers_pass p entries 0 0) (omega arith)

on_alike : (draw : ℕ) (me : Party) (ending : Ending) (a b : List Channel) (waits : List Party) (ns : List ℕ) → AreAlike a b → fits a me.entries ≡ true → ready_entries a waits me.entries ≡ ns → VerdictsAlike a b (verdict_on draw me ending a waits ns) (verdict_on draw me ending b waits ns)
on_alike draw me ending a b waits [] h f e = unready_alike a b ending h
on_alike draw me ending a b waits (i ∷ []) h f e =
    commits_alike a b _ _ (alike_commit me i a b waits h f (first_number (is_ready a waits) me.entries i e))
on_alike draw me ending a b waits (i ∷ j ∷ more) h f e =
    commits_alike a b _ _ (alike_commit me (chosen draw (i ∷ j ∷ more)) a b waits h f (chosen_number (is_ready a waits) me.entries draw i j more e))

verdicts_if : (closed : Bool) (a b : List Channel) (v w : Verdict) → AreAlike a b → VerdictsAlike a b v w → VerdictsAlike a b (cond closed AllClosed v) (cond closed AllClosed w)
verdicts_if true a b v w h k = record { is = refl; chans = h }
verdicts_if false a b v w h k = k

-- the verdicts on channels that are alike
pub alike_verdict : (draw : ℕ) (me : Party) (ending : Ending) (a b : List Channel) (waits : List Party) → AreAlike a b → fits a me.entries ≡ true → VerdictsAlike a b (verdict draw me ending a waits) (verdict draw me ending b waits)
alike_verdict draw me ending a b waits h f =
    verdicts_if (is_closed_list me.entries) a b _ _ h (rw (← alike_ready a b waits me.entries h f) (on_alike draw me ending a b waits (ready_entries a waits me.entries) h f refl))

on_any_draw : (v w : ℕ) (me : Party) (ending : Ending) (chans : List Channel) (waits : List Party) (ns : List ℕ) → length ns ≤ 1 → verdict_on v me ending chans waits ns ≡ verdict_on w me ending chans waits ns
on_any_draw v w me ending chans waits [] h = refl
on_any_draw v w me ending chans waits (i ∷ []) h = refl
on_any_draw v w me ending chans waits (i ∷ j ∷ more) h = absurd (omega arith)

-- without a choice the draw doesn't matter
pub any_draw : (v w : ℕ) (me : Party) (ending : Ending) (chans : List Channel) (waits : List Party) → length (ready_entries chans waits me.entries) ≤ 1 → verdict v me ending chans waits ≡ verdict w me ending chans waits
any_draw v w me ending chans waits h =
    ap (λ x. cond (is_closed_list me.entries) AllClosed x) (on_any_draw v w me ending chans waits (ready_entries chans waits me.entries) h)

closed_unready : (err : Bool) (op : AltOp) (c : ℕ) (o : Option Channel) (waits : List Party) → (is_nop op || err) ≡ true → (not err && can_go_on op c o waits) ≡ false
closed_unready true op c o waits h = refl
closed_unready false Snd c o waits h = absurd (cc h)
closed_unready false Rcv c o waits h = absurd (cc h)
closed_unready false Nop c None waits h = refl
closed_unready false Nop c (Some x) waits h = refl

none_of : (p : AltEntry → Bool) (e : AltEntry) (i : ℕ) (ns : List ℕ) → p e ≡ false → ns ≡ [] → cond (p e) (i ∷ ns) ns ≡ []
none_of p e i ns h t = rw (h, t) refl

none_ready : (chans : List Channel) (waits : List Party) → (es : List AltEntry) (i : ℕ) → list_all (λ e. is_nop e.op || e.err) es ≡ true → numbers_of (is_ready chans waits) i es ≡ []
none_ready chans waits [] i h = refl
none_ready chans waits (e ∷ es) i h =
    let head : (is_nop e.op || e.err) ≡ true = search (rules, tests) in
    let tail : list_all (λ e. is_nop e.op || e.err) es ≡ true = search (rules, tests) in
    none_of (is_ready chans waits) e i _ (closed_unready e.err e.op e.chan (by_id chans e.chan) waits head) (none_ready chans waits es (suc i) tail)

draws_if : (closed : Bool) (ns : List ℕ) → (closed ≡ true → ns ≡ []) → (not closed && nat_lt 1 (length ns)) ≡ nat_lt 1 (length ns)
draws_if true ns h = rw (h refl) refl
draws_if false ns h = refl

-- a draw is made exactly where two or more entries are ready: of a closed list none is
pub draws_where : (chans : List Channel) (waits : List Party) (entries : List AltEntry) → needs_draw chans waits entries ≡ nat_lt 1 (length (ready_entries chans waits entries))
draws_where chans waits entries =
    draws_if (is_closed_list entries) (ready_entries chans waits entries) (λ h. none_ready chans waits entries 0 (search (rules, tests)))

later : (w m increment n state : ℕ) → state_after w m increment (suc n) state ≡ next_state w m increment (state_after w m increment n state)
unfolding state_after
later w m increment zero state = refl
later w m increment (suc n) state = later w m increment n (next_state w m increment state)

-- one more draw is made
pub drawn : (start draws : ℕ) → (pcg32 (generator_after start draws)).1 ≡ generator_after start (draws + 1)
drawn start draws =
    let g = started 64 multiplier_64 start (increment_of 64 54) in
    let n : draws + 1 ≡ suc draws = omega arith in
    rw n (ap (λ (s : ℕ). record g { state = s }) (sym (later 64 multiplier_64 g.increment draws g.state)))
