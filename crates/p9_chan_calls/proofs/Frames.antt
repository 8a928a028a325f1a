-- What stays of a state where threads are made ready.
use Rattle.std.proofs.Common.{◌≡◌, ℕ, List, [], ◌∷◌, refl, ap, sym, subst, ◌∙◌}
use Rattle.p9_word.specs.declared.answer.Answer.{Answer}
use Rattle.p9_manual.specs.declared.state.Channel.{Channel}
use Rattle.p9_manual.specs.declared.state.Thread.{Thread}
use Rattle.p9_manual.specs.declared.state.Waiter.{Waiter}
use Rattle.p9_manual.specs.State.{State, readied}
use Rattle.p9_alt.specs.declared.offer.Offer.{Offer}
use Rattle.p9_alt.specs.declared.offer.Offer.TheVariants as offer
use Rattle.p9_chan_calls.specs.Wakes.{all_readied, told}

-- only the threads and their line change
abbrev pub Moves : State → State → Type 0
Moves m n = n ≡ record m { threads = n.threads; line = n.line }

pub all_readied_moves : (ws : List (ℕ × Answer)) (m : State) → Moves m (all_readied ws m)
all_readied_moves [] m = refl
all_readied_moves (w ∷ ws) m = all_readied_moves ws (readied w.0 w.1 m)

told_moves : (t : ℕ) (o : Offer) (m : State) → Moves m (told t o m)
told_moves t (offer.Done a) m = refl
told_moves t offer.NoBlock m = refl
told_moves t offer.Closed m = refl
told_moves t offer.Waits m = refl

-- also where the caller is told after those that are woken
pub both_move : (t : ℕ) (o : Offer) (ws : List (ℕ × Answer)) (m : State) → Moves m (told t o (all_readied ws m))
both_move t o ws m =
    let n = told t o (all_readied ws m) in
    told_moves t o (all_readied ws m) ∙ ap (λ (x : State). record x { threads = n.threads; line = n.line }) (all_readied_moves ws m)

-- a state with other threads, line, waits, channels and draws
pub same_by : (s n : State) (threads : List Thread) (line : List ℕ) (waits : List Waiter) (chans : List Channel) (draws : ℕ) → n ≡ record s { threads = threads; line = line; waits = waits; chans = chans; draws = draws } → n ≡ record s { threads = n.threads; line = n.line; waits = n.waits; chans = n.chans; draws = n.draws }
same_by s n threads line waits chans draws e =
    subst (λ (y : State). y ≡ record s { threads = y.threads; line = y.line; waits = y.waits; chans = y.chans; draws = y.draws }) (sym e) refl
