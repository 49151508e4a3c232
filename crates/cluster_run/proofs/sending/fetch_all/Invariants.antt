use Rattle.cluster_run.proofs.Words.{◌≡◌, ℕ, ◌<◌, ◌≤◌, length, get_or, None, Fetches}
use Rattle.cluster_run.proofs.sending.fetch_all.Given as goal

-- the first fetchers have made their attempt
abbrev pub invariant-loop-k : goal.invariant-loop-k
invariant-loop-k g l = record {
  count : length l.fetchers.items ≡ length l.fn.fetchers.items;
  done : (j : ℕ) → j < l.k → Fetches (get_or l.fn.fetchers.items j None) (get_or l.fetchers.items j None);
  rest : (j : ℕ) → l.k ≤ j → get_or l.fetchers.items j None ≡ get_or l.fn.fetchers.items j None;
}
