-- The lemmas of crates below that the proofs of this crate cite.
pub use Rattle.cluster_run.proofs.ReportTexts.{tells_next}
pub use Rattle.commands.proofs.ForAbove.{AllAsk, AreOfLines, Every, HoldsSurely, IsFinal, Quiet, SaysLine, all_come}
pub use Rattle.commands.proofs.ForAbove.{both_ask, both_came, both_every, both_told, bytes_came, end_comes}
pub use Rattle.commands.proofs.ForAbove.{every_weaker, line_final, lines_front, list_came, list_every, list_from-front}
pub use Rattle.commands.proofs.ForAbove.{list_from-right, no_bytes, no_pair, no_value, none_rose, one_text, pair_came}
pub use Rattle.commands.proofs.ForAbove.{promise, refused_list-final, refused_script-final, said, said_as, surely_told}
pub use Rattle.commands.proofs.ForAbove.{text_final, told_cut, told_leaves, told_shows, unless_cut, value_came}
pub use Rattle.commands.proofs.ForAbove.{wrote_nothing}
pub use Rattle.frame_fates.proofs.ForAbove.{is_sending-unnumbered, legal-names, named-run, older, runs-pasts}
pub use Rattle.medl_text.proofs.ForAbove.{medl_of-valid, slot_table-each}
pub use Rattle.mode_change.proofs.TextLines.{mode_lines-each}
pub use Rattle.script_text.proofs.ForAbove.{script_of-valid}
pub use Rattle.theorems.proofs.ForAbove.{back-run, faced-run, kept-run, mode-text, some-run, trace-short}
pub use Rattle.trace_check.proofs.ForAbove.{HaveAtMost, differs-none, differs_line-is_line, first_wrong-front}
pub use Rattle.trace_check.proofs.ForAbove.{is_trace-front, is_trace-numbers, is_trace-short, length-read_messages}
pub use Rattle.trace_check.proofs.ForAbove.{numbers-is_trace}
pub use Rattle.two_faced.proofs.ForAbove.{rules-hold, runs-seen}
