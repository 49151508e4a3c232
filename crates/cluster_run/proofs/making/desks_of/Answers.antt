use Rattle.cluster_run.proofs.Words.{◌∷◌, [], None, map-append, Desk, desk_ends}
use Rattle.cluster_run.proofs.NewNodes.{made_more}
use Rattle.cluster_run.proofs.making.desks_of.Goals as goal

pub loop-k-preserved : goal.loop-k-preserved
loop-k-preserved c =
    let port = c.in_ok-end in
    let desks = c.loop-k.desks in
    let parts = map-append (λ (d : Desk). d.end) desks (record { end = port.end; delivered = None } ∷ []) in
    rw (c.in_ok-push.ensures.ok, c.in_ok-push-2.ensures.ok, parts)
    (made_more c.args.list.now c.loop-k.k (desk_ends desks) c.loop-k.host_ends port.end port.host_end
    c.loop-k.invariant port.ensures.incoming port.ensures.outgoing)
