-- The words of this crate's proofs, from one place.
pub use Rattle.campaign.specs.CostText.{cost_words, fault_words, leave_word, listed, members_word, unended}
pub use Rattle.campaign.specs.Lines.{Summary, counts_line, fault_node, fault_slot, head_line, own_line, run_line}
pub use Rattle.campaign.specs.Lines.{summary, summary_with}
pub use Rattle.campaign.specs.Tried.{jump_sizes, losses_from}
pub use Rattle.ttp_world.specs.ZerosWorld.{zeros_world}
pub use Rattle.campaign.specs.declared.cost.Cost.{Cost}
pub use Rattle.campaign.specs.declared.cost.Counts.{Counts}
pub use Rattle.campaign.specs.declared.cost.Leave.{Leave}
pub use Rattle.campaign.specs.declared.cost.Span.{Span}
pub use Rattle.line_reader.specs.Reading.{◌>>=◌}
pub use Rattle.line_reader.specs.TraceLines.{slot_digits}
pub use Rattle.lab_laws.proofs.FromBelow.{label-again, numeral-again}
pub use Rattle.std.proofs.Common.{All, Bool, IfSome, List, None, Option, Some, [], ap, append_assoc, arith, codes, cond}
pub use Rattle.std.proofs.Common.{decimal, false, fold, length, not, refl, subst, suc, sym, true, zero, ℕ, ◌&&◌, ◌++◌}
pub use Rattle.std.proofs.Common.{◌+◌, ◌-◌, ◌<◌, ◌^◌, ◌||◌, ◌∙◌, ◌∷◌, ◌≡◌, ◌≤◌}
pub use Rattle.std.proofs.Math.Bool.{or-false, or-true}
pub use Rattle.std.proofs.lemmas.Bool.{and_parts, both_ways, cond_both, eq-eqb, false_from_ne_true, le-leb, lt-ltb}
pub use Rattle.std.proofs.lemmas.Bool.{or_parts}
pub use Rattle.std.proofs.lemmas.Bool.Decides.{nat_tests}
pub use Rattle.std.proofs.lemmas.List.Elements.{All-cons, All-head, All-nil, All-tail}
pub use Rattle.std.proofs.lemmas.List.Folds.{list_any-append}
pub use Rattle.std.proofs.lemmas.Slice.Eq.{bytes_eq-Decides}
pub use Rattle.std.specs.List.{AllByRecursion, list_any, range_with_len}
pub use Rattle.std.specs.Prelude.{filter, flat_map, is_some, map, nat_le, nat_lt, ◌==◌}
pub use Rattle.lab_laws.specs.TakenCampaign.{doing_of, own_told, shown_of_run, test_said, test_said_if}
pub use Rattle.lab_laws.proofs.TestBounds.{HasSlots}
pub use Rattle.ttp_base.proofs.Numerals.{has, has-append, has-decimal}
pub use Rattle.ttp_base.proofs.SetWords.{HasWord}
pub use Rattle.ttp_base.specs.Text.{Lines, is_line, newline}
pub use Rattle.ttp_world.proofs.Lists.{nodes-most}
pub use Rattle.ttp_world.proofs.NumberWords.{bytes_eq-same}
pub use Rattle.ttp_world.specs.Diary.{History, entry_of}
pub use Rattle.ttp_world.specs.Medl.{IsValid}
pub use Rattle.ttp_world.specs.Returning.{has_arm, is_arm}
pub use Rattle.ttp_world.specs.Script.{IsValidEvent, IsValidScript}
pub use Rattle.ttp_world.specs.declared.medl.Medl.{Medl}
pub use Rattle.ttp_world.specs.declared.node.Entry.{Entry}
pub use Rattle.ttp_world.specs.declared.script.Event.{Event}
pub use Rattle.ttp_world.specs.declared.script.Script.{Script}
pub use Rattle.whole_campaign.specs.Due.{is_between_groups, no_runs, piece_begun, spot_of}
unfoldable pub use Rattle.whole_campaign.specs.Due.{fault_told}
pub use Rattle.whole_campaign.specs.Due.{with_fault_counted}
pub use Rattle.whole_campaign.specs.Faults.{is_last_place, is_spot_due}
unfoldable pub use Rattle.whole_campaign.specs.Faults.{fault_line_in, fault_words_in, doing_in}
pub use Rattle.whole_campaign.specs.Faults.{lies_in, place_behind, stands_behind}
pub use Rattle.whole_campaign.specs.Own.{Common}
unfoldable pub use Rattle.whole_campaign.specs.Own.{own_in}
pub use Rattle.whole_campaign.specs.Runs.{RunWords, is_same_test}
unfoldable pub use Rattle.whole_campaign.specs.Runs.{cost_in, run_words_in, campaign_head_in, head_of_line}
pub use Rattle.whole_campaign.specs.Whole.{FaultTold, one_further}
pub use Rattle.whole_campaign.specs.Words.{is_dash, node_digits}
unfoldable pub use Rattle.whole_campaign.specs.Words.{members_listed, nodes_listed, sets_listed}
unfoldable pub use Rattle.whole_campaign.specs.Words.{without_feed, word_behind}
pub use Rattle.whole_campaign.specs.declared.due.Due.{Due}
pub use Rattle.whole_campaign.specs.declared.head.CampaignHead.{CampaignHead}
pub use Rattle.whole_campaign.specs.declared.listed.Kind.{Kind}
pub use Rattle.whole_campaign.specs.declared.listed.SetsSoFar.{SetsSoFar}
pub use Rattle.whole_campaign.specs.declared.shown.Doing.{Doing}
pub use Rattle.whole_campaign.specs.declared.shown.FaultShown.{FaultShown}
pub use Rattle.whole_campaign.specs.declared.shown.Piece.{Piece}
pub use Rattle.whole_campaign.specs.declared.spot.Spot.{Spot}
