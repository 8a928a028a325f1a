use Rattle.p9_outside.proofs.DeviceRuns.{devices_run}
use Rattle.p9_outside.proofs.laws.devices_run.Goals as goal

pub returns : goal.returns
returns g c =
    let device = g.D.Device in
    devices_run device.serves device.left device.held device.faults g.met.D.Device.gives g.met.D.Device.takes g.met.D.Device.counts
