use Rattle.cluster_run.proofs.Words.{◌≡◌, ℕ, ◌<◌, length, get_or, None, vec_len, vec_capacity, BegunSlot, is_loaded}
use Rattle.cluster_run.proofs.Words.{HaveBegun, host_at, fetcher_lent}
use Rattle.cluster_run.proofs.sending.lend_fetchers.Given as goal

abbrev pub invariant-loop-k : goal.invariant-loop-k
invariant-loop-k l = record {
  ends : l.ends.items ≡ l.fn.ends.items;
  count : vec_len l.fetchers ≡ l.k;
  room : vec_capacity l.fetchers ≡ length l.fn.ends.items;
  lent : (s : BegunSlot) → HaveBegun s 0 l.seats → (j : ℕ) → j < l.k
      → get_or l.fetchers.items j None ≡ fetcher_lent (is_loaded s j) (host_at l.fn.ends.items j);
}
