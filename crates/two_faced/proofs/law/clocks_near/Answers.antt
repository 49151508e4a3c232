use Rattle.two_faced.proofs.FacedClocks.{faced-clocks, faced-window}
use Rattle.two_faced.proofs.law.clocks_near.Goals as goal

pub returns-clause-clocks : goal.returns-clause-clocks
returns-clause-clocks c list script start z plan turn history valid follows none clocks =
    faced-clocks list script start z plan
    (record { valid = valid; follows = follows; none = none; clocks = clocks }) turn history

pub returns-clause-window : goal.returns-clause-window
returns-clause-window c list script start z plan turn history valid follows none clocks =
    faced-window list script start z plan
    (record { valid = valid; follows = follows; none = none; clocks = clocks }) turn history
