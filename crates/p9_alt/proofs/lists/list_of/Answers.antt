use Rattle.p9_alt.proofs.Numbers.{only_set}
use Rattle.p9_alt.proofs.lists.list_of.Goals as goal

pub returns : goal.returns
returns c = only_set c.args.list c.args.entry c.replace-blank.new.dest c.requires c.replace-blank.ensures.after
