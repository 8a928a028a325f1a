use Rattle.std.proofs.Common.{◌∙◌, arith}
use Rattle.p9_chan_calls.proofs.Drawn.{others_ready, few_ready, no_choice, a_choice}
use Rattle.p9_chan_calls.proofs.alternation.draw.Goals.{then-len-lt2-via-then-len-lt2, then-len-lt2-via-else-len-lt2+then-ready_count-lt2}
use Rattle.p9_chan_calls.proofs.alternation.draw.Goals as goal

pub returns-then-len-lt2 : goal.returns-then-len-lt2
returns-then-len-lt2 c =
    let chans = c.args.alts.now.channels.chans in
    let waits = c.args.alts.now.waits in
    elim c.then-len-lt2.branch [
      | then-len-lt2-via-then-len-lt2 w ↦
          let few = few_ready chans waits c.args.entries.now in
          no_choice _ c.args.generator.now (omega arith)
      | then-len-lt2-via-else-len-lt2+then-ready_count-lt2 w ↦
          let same = w.ready_count.ensures ∙ others_ready chans c.args.t waits c.args.entries.now c.requires.idle in
          no_choice _ c.args.generator.now (omega arith)
    ]

pub returns : goal.returns
returns c =
    let same = c.ready_count.ensures ∙ others_ready c.args.alts.now.channels.chans c.args.t c.args.alts.now.waits c.args.entries.now c.requires.idle in
    a_choice _ c.args.generator.now c.next_word.result c.next_word.new.self (omega arith) c.next_word.ensures
