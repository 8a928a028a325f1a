use Rattle.p9_outside.proofs.Reached.{lead_on}
use Rattle.p9_outside.proofs.laws.services_lead_on.Goals as goal

pub returns : goal.returns
returns g c = lead_on g.D.Device.serves
