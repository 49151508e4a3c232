-- The lemmas of this crate that the proofs of crates above cite.
pub use Rattle.controller.proofs.Endings.{possible-at, sends-own}
pub use Rattle.controller.proofs.LaterEvents.{agree-more}
pub use Rattle.controller.proofs.Near.{ended-clock}
pub use Rattle.controller.proofs.Parts.{each-back, each-front, each-joined, each-of}
pub use Rattle.controller.proofs.Payloads.{chosen-step, nothing-chosen, payloads-chosen}
pub use Rattle.controller.proofs.Plants.{is-step, left_at}
pub use Rattle.controller.proofs.SameSlots.{armed-same, error-same, heard-same, jump-same, surroundings_in-same}
pub use Rattle.controller.proofs.SameWorlds.{node_past-same, step-same}
pub use Rattle.controller.proofs.Sets.{HaveRooms, candidates-room, only-room, with_node-room}
