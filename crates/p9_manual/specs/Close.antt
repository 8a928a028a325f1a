-- How channels are closed and freed. chanclose and chanclosing are this project's own; chanfree in thread(2).
use Rattle.std.specs.Prelude.{ℕ, ◌-◌, true, List, [], ◌∷◌, Option, Some, None, if◌then◌else◌, map, length}
use Rattle.std.specs.List.{filter}
use Rattle.p9_word.specs.declared.answer.Answer.{Answer}
use Rattle.p9_word.specs.declared.answer.Answer.TheVariants.{Done, Number, Minus}
use Rattle.p9_manual.specs.declared.state.Channel.{Channel}
use Rattle.p9_manual.specs.declared.state.Party.{Party}
use Rattle.p9_manual.specs.Offers.{parties}
use Rattle.p9_manual.specs.AltEntries.{is_on, waits_on, first_number}
use Rattle.p9_manual.specs.Told.{failed_answer}
use Rattle.p9_manual.specs.State.{State, Outcome, changed, bad, now, wake}

-- the channel, closed
abbrev pub closed_chan : Channel → Channel
closed_chan chan = record chan { closed = true }

-- the channel, freed
abbrev pub freed_chan : Channel → Channel
freed_chan chan = record chan { freed = true }

-- a thread that waits on channel c, with its answer where the channel is closed: its first entry there failed
abbrev pub failed_on : ℕ → Party → ℕ × Answer
failed_on c w = (w.tid, failed_answer w.single (first_number (is_on c) w.entries))

-- the threads that wait on channel c, each once, with their answers, in the order of the waits
abbrev pub all_failed : ℕ → List Party → List (ℕ × Answer)
all_failed c waits = map (failed_on c) (filter (waits_on c) waits)

-- these threads leave the waits and are ready with their answers, in this order
abbrev pub all_woken : List (ℕ × Answer) → State → State
all_woken [] s = s
all_woken (w ∷ ws) s = all_woken ws (wake w.0 w.1 s)

-- the channel is closed, and each thread that waits on it is woken once. Its elements stay
abbrev pub close_channel : ℕ → State → Outcome
close_channel c s =
    now (Number 1) (all_woken (all_failed c (parties s.waits)) (record s { chans = changed closed_chan s.chans (c - 1) }))

-- a channel is closed once: the answer tells whether it was now
abbrev pub close : ℕ → State → Option Channel → Outcome
close c s None = bad s
close c s (Some chan) = if chan.closed then now (Number 0) s else close_channel c s

-- no request may name the channel any more. Threads that wait on it wait on
abbrev pub free : ℕ → State → Option Channel → Outcome
free c s None = bad s
free c s (Some chan) = now Done (record s { chans = changed freed_chan s.chans (c - 1) })

-- how many elements are left on a closed channel
abbrev pub closing : State → Option Channel → Outcome
closing s None = bad s
closing s (Some chan) = if chan.closed then now (Number (length chan.elements)) s else now Minus s
