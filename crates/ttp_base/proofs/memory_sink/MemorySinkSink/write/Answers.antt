use Rattle.std.proofs.Common.{length, Some, refl, arith}
use Rattle.ttp_base.proofs.Outputs.{CutShort-one}
use Rattle.ttp_base.proofs.Written.{Appends-none}
use Rattle.ttp_base.proofs.Sinks.{not_taken}
use Rattle.ttp_base.proofs.memory_sink.MemorySinkSink.write.Goals as goal

pub returns-then-is_to_fail-clause-failed : goal.returns-then-is_to_fail-clause-failed
returns-then-is_to_fail-clause-failed c =
    CutShort-one _ _ c.args.piece.now (0, Appends-none (Some c.args.self.now.bytes.items)) refl (omega arith)
    (omega arith)
    (not_taken c.args.self.now.fail c.is_next_to_fail-is_to_fail.new.calls c.args.self.now.room
    (length c.args.self.now.bytes.items) (length c.args.piece.now) (grind arith) (omega arith))
