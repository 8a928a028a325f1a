use Rattle.p9_lang.proofs.NameLists.{still_none}
use Rattle.p9_lang.proofs.names.Names.push.Goals as goal

pub put_name-requires : goal.put_name-requires
put_name-requires c = still_none _ _ c.self.inside.set.keys _ c.in_ok-name.ensures.items c.self.view_is c.requires
