-- The lemmas of crates below that the proofs of this crate cite.
pub use Rattle.commands.proofs.ForAbove.{all_written, right_held, right_once, surely_in_memory}
pub use Rattle.ttp_top.proofs.ForAbove.{judged_trace, own_text, ran, trace_within}
