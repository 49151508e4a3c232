use Rattle.cluster_run.proofs.Words.{◌<◌, All, subst, arith, at_any}
use Rattle.cluster_run.proofs.sending.write_one.Goals as goal

pub tell_bytes-requires : goal.tell_bytes-requires
tell_bytes-requires g c =
    λ k d near. omega (arith, (c.type_inv.payload k).fits, at_any c.bytes-payload.result.now k d 0 near)

pub returns-clause-bytes : goal.returns-clause-bytes
returns-clause-bytes g c = subst (All (λ b. b < 256)) c.bytes-payload.ensures.value c.tell_bytes.ensures
