-- The lemmas of crates below that the proofs of this crate cite.
pub use Rattle.controller.proofs.ForAbove.{each-back, each-front, each-joined, each-of, left_at, payloads-chosen}
pub use Rattle.controller.proofs.ForAbove.{possible-at}
pub use Rattle.host_port.proofs.LineQueues.{if_taken, queue_after, queue_other}
pub use Rattle.host_port.proofs.ReaderLists.{read_alike, set_back, within_list, written_rings}
pub use Rattle.line_text.proofs.ForAbove.{state_of-digits, words_tell}
