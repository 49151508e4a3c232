-- The lemmas of this crate that the proofs of crates above cite.
pub use Rattle.margin_laws.proofs.Added.{sweep-counted, together}
pub use Rattle.margin_laws.proofs.Behind.{any-behind, closed-end, closed-more, closed-open, counts-behind, most-behind}
pub use Rattle.margin_laws.proofs.Behind.{open-end, ranges-behind, spread-behind, total-behind, values-parts}
pub use Rattle.margin_laws.proofs.Spread.{apart-all, sweep-spread}
