use Rattle.std.proofs.Common.{◌∷◌, [], length, ap, sym, subst, arith, length-append}
use Rattle.ttp_world.specs.declared.script.Script.{Script}
use Rattle.single_faults.specs.Tried.{MayStand}
use Rattle.pair_runs.proofs.Begins.{may-stand_also}
use Rattle.pair_runs.proofs.tried.try_one.Goals as goal

pub more_is_valid-requires-clause-fault : goal.more_is_valid-requires-clause-fault
more_is_valid-requires-clause-fault c =
    let setting = c.args.setting.now in
    subst (λ (s : Script). MayStand setting.common.list.now s c.args.two.now) (sym c.requires.may.more)
    (may-stand_also setting.common.list.now setting.common.script.now setting.one.now c.args.two.now c.requires.two)

pub more_is_valid-requires-clause-room : goal.more_is_valid-requires-clause-room
more_is_valid-requires-clause-room c =
    let setting = c.args.setting.now in
    let long = length-append setting.common.script.now.events (setting.one.now ∷ []) in
    let same = ap (λ (s : Script). length s.events) c.requires.may.more in
    omega (arith, long, same, c.requires.may.may.room)

pub with_fault-requires-clause-room : goal.with_fault-requires-clause-room
with_fault-requires-clause-room c =
    let setting = c.args.setting.now in
    let long = length-append setting.common.script.now.events (setting.one.now ∷ []) in
    let same = ap (λ (s : Script). length s.events) c.requires.may.more in
    omega (arith, long, same, c.requires.may.may.room)
