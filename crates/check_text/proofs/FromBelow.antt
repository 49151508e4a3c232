-- The lemmas of crates below that the proofs of this crate cite.
pub use Rattle.broken_rules.proofs.Told.{named, not-named}
pub use Rattle.fault_runs.proofs.ForAbove.{fewer-after, fewer-more, fewer-none}
pub use Rattle.line_text.proofs.ForAbove.{concat-lines_of, first_line}
pub use Rattle.list_errors.proofs.TableAgree.{agrees, large_wrongs, small_wrongs}
