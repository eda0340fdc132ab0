use Rattle.std.proofs.Common.{arith}
use Rattle.memory.proofs.Parts.{paste_same}
use Rattle.memory.proofs.battery.BatteryModule.settle.Goals as goal

pub returns : goal.returns
returns c = grind (arith, paste_same)
