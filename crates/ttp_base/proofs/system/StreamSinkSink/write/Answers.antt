use Rattle.std.proofs.Common.{refl, arith}
use Rattle.ttp_base.proofs.Outputs.{CutShort-one}
use Rattle.ttp_base.proofs.system.StreamSinkSink.write.Goals as goal

pub returns-in-Err-clause-failed : goal.returns-in-Err-clause-failed
returns-in-Err-clause-failed g c =
    CutShort-one _ _ c.args.piece.now c.in-Err.ensures.front refl (omega arith) (omega arith) (omega arith)
