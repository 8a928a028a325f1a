-- What each event keeps true of a state, after values have moved and threads were told receipts: each receipt that a thread
-- is about to be told is of a value that moved by its last call; and whoever is about to be told that it sent a value sent
-- one by the entry of its last call that is told.
use Rattle.std.proofs.Common.{◌≡◌, inl, inr, ℕ, ◌+◌, ◌-◌, ◌≤◌, not, eqb, List, [], ◌∷◌, ◌++◌, Option, Some, refl, sym, subst, arith, append-nil}
use Rattle.std.specs.Prelude.{All, slice_get}
use Rattle.std.specs.List.{filter}
use Rattle.std.proofs.lemmas.List.Elements.{All-nil, All-weaker, All-filter, All-push}
use Rattle.p9_manual.specs.declared.state.Place.{Place}
use Rattle.p9_manual.specs.declared.state.Place.TheVariants.{New, Ended}
use Rattle.p9_manual.specs.declared.state.Thread.{Thread}
use Rattle.p9_manual.specs.declared.state.Waiter.{Waiter}
use Rattle.p9_manual.specs.declared.state.Channel.{Channel}
use Rattle.p9_laws.specs.Moves.{times_moved}
use Rattle.p9_laws.specs.Receipts.{Receipt, IsReceived}
use Rattle.p9_manual.specs.Ends.{Gone, ended_if}
use Rattle.p9_manual.specs.State.{Move, by_id, changed, each_from, placed, waits_without}
use Rattle.p9_word.specs.declared.trail.Entry.{Entry}
use Rattle.p9_laws.specs.Senders.{IsSendBy}
use Rattle.p9_laws.proofs.Moves.Sent.{slice_get-longer}
use Rattle.p9_laws.proofs.Received.Grows.{IsThere, Grows, there_more}
use Rattle.p9_manual.specs.Standing.{place_of}
use Rattle.p9_laws.proofs.Sound.Counts.{times-append}
use Rattle.p9_laws.proofs.Received.Places.{due, says_sent, IsQuiet, told, dues, dues-changed, dues-left, dues-push, dues-ended, place_moved, place_left, place_pushed, place_ended}

-- entry n of a thread's last call sends a value, which has left its channel or is among that channel's elements
pub record IsHeld (H : List Entry) (last : Option ℕ) (n : ℕ) (ms : List Move) (chans : List Channel) : Type 0 where
  pub position : ℕ
  pub c : ℕ
  pub bytes : List ℕ
  pub chan : Channel
  pub is_last : last ≡ Some position
  pub is_chan : by_id chans c ≡ Some chan
  pub sent : IsSendBy n c chan.elsize bytes (slice_get H position)
  pub held : IsThere c position bytes ms chans

-- what thread u at this place is about to be told is so
pub record IsRight (H : List Entry) (ms : List Move) (chans : List Channel) (last : Option ℕ) (u : ℕ) (pl : Place) : Type 0 where
  pub receipts : All (IsReceived H ms last) (due u pl)
  pub sent : (n : ℕ) → says_sent pl ≡ Some n → IsHeld H last n ms chans

-- a thread that waits does so in its last call
pub record IsCaller (last : ℕ → Option ℕ) (w : Waiter) : Type 0 where
  pub made : 1 ≤ w.tid
  pub is_last : last w.tid ≡ Some w.at

-- H is the whole history, of which ms moved and rs was told so far
pub record Agrees (H : List Entry) (ms : List Move) (rs : List Receipt) (last : ℕ → Option ℕ) (threads : List Thread) (waits : List Waiter) (chans : List Channel) : Type 0 where
  pub counts : (p : ℕ) → told p rs + dues p threads ≤ times_moved p ms
  pub right : (u : ℕ) → IsRight H ms chans (last u) u (place_of threads u)
  pub calls : All (IsCaller last) waits

received_more : (H : List Entry) (last : Option ℕ) (ms mv : List Move) (r : Receipt) → IsReceived H ms last r → IsReceived H (ms ++ mv) last r
received_more H last ms mv r k =
    record { position = k.position; index = k.index; move = k.move; is_last = k.is_last; is_move = slice_get-longer mv k.move ms k.index k.is_move; is_of = k.is_of }

pub all_more : (H : List Entry) (last : Option ℕ) (ms mv : List Move) (rs : List Receipt) → All (IsReceived H ms last) rs → All (IsReceived H (ms ++ mv) last) rs
all_more H last ms mv rs h = All-weaker (IsReceived H ms last) (IsReceived H (ms ++ mv) last) (received_more H last ms mv) rs h

pub moved-append : (p : ℕ) (ms mv : List Move) → times_moved p (ms ++ mv) ≡ times_moved p ms + times_moved p mv
moved-append p ms mv = times-append (λ m. eqb m.from p) ms mv

size_at : (n c : ℕ) (bytes : List ℕ) (found : Option Entry) (old new : ℕ) → new ≡ old → IsSendBy n c old bytes found → IsSendBy n c new bytes found
size_at n c bytes found old new e s = subst (λ (size : ℕ). IsSendBy n c size bytes found) (sym e) s

pub held_more : (H : List Entry) (last : Option ℕ) (n : ℕ) (ms mv : List Move) (chans more : List Channel) → Grows mv chans more → IsHeld H last n ms chans → IsHeld H last n (ms ++ mv) more
held_more H last n ms mv chans more grows h =
    let g = grows.each h.c h.chan h.is_chan in
    record {
      position = h.position;
      c = h.c;
      bytes = h.bytes;
      chan = g.new;
      is_last = h.is_last;
      is_chan = g.there;
      sent = size_at n h.c h.bytes (slice_get H h.position) h.chan.elsize g.new.elsize g.sized h.sent;
      held = there_more h.c h.position h.bytes ms mv chans more grows h.held;
    }

pub right_more : (H : List Entry) (ms mv : List Move) (chans more : List Channel) (last : Option ℕ) (u : ℕ) (pl : Place) → Grows mv chans more → IsRight H ms chans last u pl → IsRight H (ms ++ mv) more last u pl
right_more H ms mv chans more last u pl grows r =
    record { receipts = all_more H last ms mv (due u pl) r.receipts; sent = λ n s. held_more H last n ms mv chans more grows (r.sent n s) }

pub right_quiet : (H : List Entry) (ms : List Move) (chans : List Channel) (last : Option ℕ) (u : ℕ) (pl : Place) → IsQuiet pl → IsRight H ms chans last u pl
right_quiet H ms chans last u pl q =
    record {
      receipts = subst (All (IsReceived H ms last)) (sym (q.nothing u)) (All-nil (IsReceived H ms last));
      sent = λ n s. let k = q.unsent in cc;
    }

pub right_at : (H : List Entry) (ms : List Move) (chans : List Channel) (last : Option ℕ) (u : ℕ) (pl after : Place) → after ≡ pl → IsRight H ms chans last u pl → IsRight H ms chans last u after
right_at H ms chans last u pl after e r = subst (IsRight H ms chans last u) (sym e) r

quiet_told : (p : ℕ) (pl : Place) → IsQuiet pl → told p (due 0 pl) ≡ 0
quiet_told p pl q = let n = q.nothing 0 in rw n refl

module _ {H : List Entry} {ms : List Move} {rs : List Receipt} {last : ℕ → Option ℕ} {threads : List Thread} {waits : List Waiter} {chans : List Channel} (a : Agrees H ms rs last threads waits chans) where
  -- a thread is put where it is told nothing
  pub put_quietly : (t : ℕ) (pl : Place) → IsQuiet pl → Agrees H ms rs last (placed t pl threads) waits chans
  put_quietly t pl q =
      record {
        counts = λ p. let c = a.counts p in let d = dues-changed p pl threads (t - 1) in let z = quiet_told p pl q in omega (arith, c, d, z);
        right = λ u. elim (place_moved t pl threads u) [
          | inl e ↦ right_at H ms chans (last u) u (place_of threads u) _ e (a.right u)
          | inr k ↦ right_at H ms chans (last u) u pl _ k.1 (right_quiet H ms chans (last u) u pl q)
        ];
        calls = a.calls;
      }

  -- a thread changes, and stays where it is
  pub left_there : (f : Thread → Thread) → ((x : Thread) → (f x).place ≡ x.place) → (i : ℕ) → Agrees H ms rs last (changed f threads i) waits chans
  left_there f h i =
      record {
        counts = λ p. let c = a.counts p in let d = dues-left p f h threads i in omega (arith, c, d);
        right = λ u. right_at H ms chans (last u) u (place_of threads u) _ (place_left f h threads i u) (a.right u);
        calls = a.calls;
      }

  -- one more thread
  pub one_more : (y : Thread) → y.place ≡ New → Agrees H ms rs last (threads ++ y ∷ []) waits chans
  one_more y h =
      record {
        counts = λ p. let c = a.counts p in let d = dues-push p y h threads in omega (arith, c, d);
        right = λ u. elim (place_pushed y threads u) [
          | inl e ↦ right_at H ms chans (last u) u (place_of threads u) _ e (a.right u)
          | inr e ↦ right_at H ms chans (last u) u y.place _ e (right_at H ms chans (last u) u New y.place h (right_quiet H ms chans (last u) u New (record { nothing = λ t. refl; unsent = refl })))
        ];
        calls = a.calls;
      }

  -- these threads have ended, and wait no more
  pub some_gone : (ends : Gone) → Agrees H ms rs last (each_from (ended_if ends) 1 threads) (filter (λ w. not (ends w.tid)) waits) chans
  some_gone ends =
      record {
        counts = λ p. let c = a.counts p in let d = dues-ended p ends 1 threads in omega (arith, c, d);
        right = λ u. elim (place_ended ends threads u) [
          | inl e ↦ right_at H ms chans (last u) u (place_of threads u) _ e (a.right u)
          | inr e ↦ right_at H ms chans (last u) u Ended _ e (right_quiet H ms chans (last u) u Ended (record { nothing = λ t. refl; unsent = refl }))
        ];
        calls = All-filter (λ w. not (ends w.tid)) (IsCaller last) waits a.calls;
      }

  -- a thread waits no more
  pub fewer_waits : (t : ℕ) → Agrees H ms rs last threads (waits_without t waits) chans
  fewer_waits t = record { counts = a.counts; right = a.right; calls = All-filter (λ w. not (eqb w.tid t)) (IsCaller last) waits a.calls }

  -- one more thread waits
  pub more_waits : (w : Waiter) → IsCaller last w → Agrees H ms rs last threads (waits ++ w ∷ []) chans
  more_waits w c = record { counts = a.counts; right = a.right; calls = All-push (IsCaller last) waits w a.calls c }

  -- others wait, each in its last call
  pub other_waits : {more : List Waiter} → All (IsCaller last) more → Agrees H ms rs last threads more chans
  other_waits calls = record { counts = a.counts; right = a.right; calls = calls }

  -- values move, and elements come
  pub values_move : (mv : List Move) (more : List Channel) → Grows mv chans more → Agrees H (ms ++ mv) rs last threads waits more
  values_move mv more grows =
      record {
        counts = λ p. let c = a.counts p in let k = moved-append p ms mv in omega (arith, c, k);
        right = λ u. right_more H ms mv chans more (last u) u (place_of threads u) grows (a.right u);
        calls = a.calls;
      }

  -- the channels change, and no element is gone
  pub other_chans : (more : List Channel) → Grows [] chans more → Agrees H ms rs last threads waits more
  other_chans more grows =
      subst (λ (x : List Move). Agrees H x rs last threads waits more) (append-nil ms) (values_move [] more grows)
