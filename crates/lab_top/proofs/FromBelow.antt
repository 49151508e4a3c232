-- The lemmas of crates below that the proofs of this crate cite.
pub use Rattle.campaign_laws.proofs.SafeLines.{campaign_lines-safe}
pub use Rattle.check_text.proofs.Telling.{is_told}
pub use Rattle.check_text.proofs.Written.{check_lines-each, check_lines-some, check_status-one}
pub use Rattle.commands.proofs.ForAbove.{AllAsk, AreOfLines, CameBoth, CameTo, Every, IsFinal, Quiet, SaysLine}
pub use Rattle.commands.proofs.ForAbove.{after_every, all_come, both_ask, both_came, both_every, both_told, bytes_came}
pub use Rattle.commands.proofs.ForAbove.{end_comes, every_weaker, line_final, lines_front, list_every, list_from-front}
pub use Rattle.commands.proofs.ForAbove.{list_from-right, may_be, no_bytes, no_pair, no_value, one_text, pair_came}
pub use Rattle.commands.proofs.ForAbove.{promise, refused_list-final, refused_script-final, right_list, right_script}
pub use Rattle.commands.proofs.ForAbove.{said, said_as, same_said, script_from-front, script_from-right, text_final}
pub use Rattle.commands.proofs.ForAbove.{told_comes, told_cut, told_leaves, told_shows, value_came, wrote_nothing}
pub use Rattle.fault_runs.proofs.ForAbove.{fewer-none}
pub use Rattle.line_form.proofs.ForAbove.{spelled-more}
pub use Rattle.margin_laws.proofs.ForAbove.{apart-all, sweep-counted, sweep-spread, together}
pub use Rattle.margin_runs.proofs.Drifts.{drift-valid}
pub use Rattle.margin_safety.proofs.Fewer.{never-split}
pub use Rattle.margin_safety.proofs.Safe.{yes-harmless}
pub use Rattle.medl_text.proofs.ForAbove.{medl_of-valid}
pub use Rattle.pair_laws.proofs.Counted.{classes-counted, counts-append, counts-flat, counts-parted}
pub use Rattle.pair_laws.proofs.Distances.{counts-by_distance}
pub use Rattle.pair_laws.proofs.Firsts.{faults-same, pairs-near}
pub use Rattle.pair_laws.proofs.Joined.{each-cut}
pub use Rattle.pair_laws.proofs.Kept.{none-divided, pair-unharmed, pairs-mild}
pub use Rattle.picture_text.proofs.ForAbove.{end_failed, end_ok}
pub use Rattle.script_text.proofs.ForAbove.{AreValid, AreValid-none, line_right, script_of-valid, size-lines_of}
pub use Rattle.script_text.proofs.ForAbove.{size_of, with_end}
pub use Rattle.single_faults.proofs.ForAbove.{with_fault-valid}
pub use Rattle.theorems.proofs.ForAbove.{trace-short}
pub use Rattle.trace_check.proofs.ForAbove.{HaveAtMost, differs-none, differs_line-is_line, first_wrong-front}
pub use Rattle.trace_check.proofs.ForAbove.{is_trace-front, is_trace-short}
pub use Rattle.view_laws.proofs.CampaignsRead.{campaign-draws}
pub use Rattle.view_laws.proofs.LinesAndTitles.{picture_lines-each}
pub use Rattle.wave_text.proofs.DeclaredLines.{wave_lines-each}
pub use Rattle.wave_text.proofs.Feeds.{HasNone, none-append, none-decimal, none-source}
