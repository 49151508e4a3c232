-- The lemmas of this crate that the proofs of crates above cite.
pub use Rattle.commands.proofs.Both.{CameBoth, both_ask, both_came, both_told, list_came}
pub use Rattle.commands.proofs.Fronts.{list_from-front, script_from-front}
pub use Rattle.commands.proofs.Lines.{AreOfLines, IsFinal, SaysLine, line_final, lines_front, one_text}
pub use Rattle.commands.proofs.Lines.{refused_list-final, refused_script-final, text_final}
pub use Rattle.commands.proofs.Loads.{CameTo, bytes_came, no_bytes, no_pair, no_value, pair_came, said, said_as}
pub use Rattle.commands.proofs.Loads.{same_said, value_came}
pub use Rattle.commands.proofs.Plans.{AllAsk, Every, after_every, all_come, both_every, end_comes, every_weaker}
pub use Rattle.commands.proofs.Plans.{list_every, told_comes}
pub use Rattle.commands.proofs.Promises.{promise, wrote_nothing}
pub use Rattle.commands.proofs.Right.{list_from-right, may_be, right_list, right_script, script_from-right}
pub use Rattle.commands.proofs.Sure.{HoldsSurely, all_written, none_rose, right_held, right_once, surely_in_memory}
pub use Rattle.commands.proofs.Sure.{surely_told, unless_cut}
pub use Rattle.commands.proofs.Told.{Quiet, told_cut, told_leaves, told_shows}
