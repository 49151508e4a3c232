-- The words of this crate's proofs, from one place.
pub use Rattle.cluster_run.specs.NextSlots.{next_row}
pub use Rattle.cluster_run.specs.Runs.{HasDoneSlot}
pub use Rattle.cluster_run.specs.Standing.{ClusterStandsFor, ClusterView}
pub use Rattle.ttp_top.proofs.FromBelow.{both_ask, both_came, both_told, list_came, list_from-front, IsFinal, SaysLine}
pub use Rattle.ttp_top.proofs.FromBelow.{bytes_came, no_bytes, no_pair, no_value, pair_came, said_as, value_came}
pub use Rattle.ttp_top.proofs.FromBelow.{AllAsk, end_comes, list_every, list_from-right, Quiet, told_cut, told_shows}
pub use Rattle.ttp_top.proofs.FromBelow.{medl_of-valid, script_of-valid, is_trace-numbers, trace-short}
pub use Rattle.commands.specs.Files.{both_plan, list_file, refused_list, trace_file, trace_plan}
pub use Rattle.commands.specs.Lines.{AreLines}
pub use Rattle.commands.specs.Outcome.{Says, Showed, ShowsEnding}
pub use Rattle.commands.specs.Plan.{Comes, Outside, ends, line_ending, outside, told_ending, whole_ending}
pub use Rattle.commands.specs.Read.{list_from, trace_limit}
pub use Rattle.commands.specs.Right.{AreRight, AreTold}
pub use Rattle.commands.specs.Texts.{IsAmong, alone, answer, one, those}
pub use Rattle.medl_text.specs.Schedule.{slot_table}
pub use Rattle.mode_change.specs.ModeText.{mode_lines}
pub use Rattle.script_gen.specs.Generator.{generated}
pub use Rattle.std.proofs.Common.{Bool, List, None, Option, Some, [], ap, append_assoc, arith, cond, drop, false}
pub use Rattle.std.proofs.Common.{if◌then◌else◌, inl, inr, length, refl, subst, suc, sym, take, true, zero, ℕ, ◌&&◌}
pub use Rattle.std.proofs.Common.{◌*◌, ◌++◌, ◌+◌, ◌-◌, ◌<◌, ◌∙◌, ◌∷◌, ◌≡◌, ◌≢◌, ◌≤◌, ◌⊎◌}
pub use Rattle.std.proofs.lemmas.Bool.{cases_lt}
pub use Rattle.std.proofs.lemmas.List.{length-map, take_all}
pub use Rattle.std.proofs.lemmas.List.Folds.{list_any-append}
pub use Rattle.std.proofs.lemmas.List.FromFn.{length-range_with_len}
pub use Rattle.std.proofs.lemmas.List.Sums.{sum_by-cons}
pub use Rattle.std.proofs.lemmas.Result.{on_ok_weaker}
pub use Rattle.std.specs.List.{AllByRecursion, concat}
pub use Rattle.std.specs.Prelude.{codes, count_by, decimal, is_some, map, ◌==◌}
pub use Rattle.trace_check.specs.Answer.{IsFirstWrong, is_trace}
pub use Rattle.ttp_base.proofs.Lines.{is_line-append}
pub use Rattle.ttp_base.proofs.Numerals.{has, has-decimal}
pub use Rattle.ttp_base.proofs.Outputs.{CutShort-after, CutShort-more, Wrote-join, Wrote-none}
pub use Rattle.ttp_base.specs.NodeSet.{below, set_bits}
pub use Rattle.ttp_base.specs.Outside.{CutShort, HasRisen, Output, Wrote, WroteLines}
pub use Rattle.ttp_base.specs.Text.{Lines, is_line, lines_of, newline}
pub use Rattle.ttp_top.specs.Calls.Answer.{BenchAnswer, CutOf, BenchEnding, BenchPlan, WroteOf, ttpbench}
pub use Rattle.trace_check.specs.Difference.{differs_line}
pub use Rattle.ttp_top.specs.Calls.Differences.{same_line}
pub use Rattle.ttp_top.specs.Calls.Forms.{keep_ending, modes_ending, plan_of, precision_ending, sample_ending}
pub use Rattle.ttp_top.specs.Calls.Forms.{table_ending, trace_ending, usage_line, verify_ending}
pub use Rattle.ttp_top.specs.Calls.Precision.{answer_line, broken_line, faced_line}
pub use Rattle.ttp_top.specs.Calls.Promise.{BenchPromise}
pub use Rattle.ttp_top.specs.Calls.Texts.{IsPrecision, IsSample, IsTrace, differences, fronts, traces}
pub use Rattle.ttp_top.specs.Calls.Words.{Form, is_run, modes, precision, run, runs_cluster, sample, schedule, verify}
pub use Rattle.ttp_top.specs.Samples.Counted.{HasCounted, states_in}
pub use Rattle.ttp_top.specs.Samples.Lines.{asked_line, hosts_line, sent_line, summary_lines}
pub use Rattle.ttp_top.specs.Samples.Promise.{HoldsRightList}
pub use Rattle.ttp_top.specs.Samples.Totals.{lowest_members, shows_left, shows_sent, states_after, totals_of}
pub use Rattle.ttp_top.specs.Scripts.Promise.{RunPromise, WroteTraceOf}
pub use Rattle.ttp_top.specs.Scripts.Written.{HasWritten}
pub use Rattle.ttp_top.specs.Tests.Promise.{CutSuch, TestPromise, WroteSuch}
pub use Rattle.ttp_top.specs.Traces.Promise.{AreAllTold, CutVerdict, HasJudged, OfTrace, TextPromise}
pub use Rattle.ttp_top.specs.declared.totals.Totals.{Totals}
pub use Rattle.ttp_world.proofs.LegalRuns.{legal-none, legal-whole}
pub use Rattle.ttp_world.proofs.LegalShapes.{legal-shapes}
pub use Rattle.ttp_world.proofs.ListFacts.{filter_map-few}
pub use Rattle.ttp_world.proofs.TraceLines.{trace_lines-each}
pub use Rattle.ttp_world.proofs.TraceNumbers.{numbers_in-trace}
pub use Rattle.ttp_world.proofs.Worlds.{length-world}
pub use Rattle.ttp_world.specs.Diary.{History, is_active_phase}
pub use Rattle.ttp_world.specs.Legal.{IsLegal, IsLegalRun}
pub use Rattle.ttp_world.specs.Medl.{IsValid}
pub use Rattle.ttp_world.specs.Past.{state_of}
pub use Rattle.ttp_world.specs.Script.{IsValidScript, read_in, reads_in, write_in, writes_in}
pub use Rattle.ttp_world.specs.Trace.{back_lines, keep_line, run_lines, slot_lines, test_lines, trace_head, trace_lines}
pub use Rattle.ttp_world.specs.World.{Numbers, SlotNumbers, node_past, world}
pub use Rattle.ttp_world.specs.declared.medl.Medl.{Medl}
pub use Rattle.ttp_world.specs.declared.node.Entry.{Entry}
pub use Rattle.ttp_world.specs.declared.node.NodeState.{NodeState}
pub use Rattle.ttp_world.specs.declared.script.Script.{Script}
pub use Rattle.two_faced.specs.Faced.{faced_of}
pub use Rattle.two_faced.specs.Seen.{seen_of}
pub use Rattle.two_faced.specs.declared.faced.Faced.{Faced}
