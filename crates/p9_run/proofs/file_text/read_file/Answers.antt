use Rattle.p9_run.proofs.TextReads.{was_read}
use Rattle.p9_run.proofs.file_text.read_file.Goals as goal

pub returns-clause-text : goal.returns-clause-text
returns-clause-text g c =
    was_read (g.F.Files.contents c.args.files.now) c.args.file.now (g.F.Src.Source.left c.in-Ok.source) (g.F.Src.Source.left c.read_whole.new.source) c.in_ok-text.text.items c.in-Ok.ensures.opens c.in_ok-text.ensures.bytes c.in_ok-text.ensures.ends c.in_ok-text.ensures.most
