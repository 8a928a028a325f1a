use Rattle.std.proofs.Common.{Ok, ap, sym}
use Rattle.p9_lang.proofs.NameLists.{is_put}
use Rattle.p9_lang.proofs.names.put_name.Goals as goal

pub returns : goal.returns
returns c = ap Ok (sym (is_put c.args.name c.args.set.now.keys c.insert.new.self.keys c.requires c.in_ok-insert.ensures.keys))
