use Rattle.p9_laws.proofs.IoLaws.{begun_stays}
use Rattle.p9_laws.proofs.running.begun_calls_stay.Goals as goal

pub returns : goal.returns
returns c = begun_stays
