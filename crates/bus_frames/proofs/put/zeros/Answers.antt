use Rattle.std.proofs.Common.{refl}
use Rattle.bus_frames.proofs.put.zeros.Goals as goal

pub loop-init : goal.loop-init
loop-init c = rw c.new-zeros.ensures (record { count = refl; zero = λ k. refl })
