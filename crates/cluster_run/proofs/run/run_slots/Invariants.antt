use Rattle.cluster_run.proofs.Words.{◌≡◌, ◌+◌, cluster_at, IsOnCourse}
use Rattle.cluster_run.proofs.run.run_slots.Given as goal

-- The loop's counter says how many slots were done, and the watcher was told of each.
abbrev pub invariant-loop : goal.invariant-loop
invariant-loop g l = record {
  within : IsOnCourse l.course l.at;
  done : l.at.done ≡ l.fn.at.done + l.counter;
  follows : (start : g.W.Watch.Start) → g.W.Watch.follows start l.fn.out (cluster_at l.course l.fn.at)
      → g.W.Watch.follows start l.out (cluster_at l.course l.at);
}
