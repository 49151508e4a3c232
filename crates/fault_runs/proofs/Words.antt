-- The words of this crate's proofs, from one place.
pub use Rattle.campaign.specs.CostText.{cost_words}
pub use Rattle.campaign.specs.Lines.{Summary, broken_counts, campaign_lines, counts_line, head_line, is_same_cost}
pub use Rattle.campaign.specs.Lines.{kept_counts, own_line, run_line, summary, summary_with}
pub use Rattle.campaign.specs.Tried.{faults_in, row_of}
pub use Rattle.ttp_world.specs.ZerosWorld.{zeros_world}
pub use Rattle.campaign.specs.declared.cost.Cost.{Cost}
pub use Rattle.campaign.specs.declared.cost.Counts.{Counts}
pub use Rattle.fault_runs.specs.Ends.{LeftBy, LeftFewerBy, WroteFewer}
pub use Rattle.fault_runs.specs.Runs.{AreAtMost, HasAtMost, IsTallyOf, end_lines, entries_of, fault_lines, front_lines}
pub use Rattle.fault_runs.specs.Runs.{most_tried, tried_before, tried_in}
pub use Rattle.fault_runs.specs.Tries.{all_tried, tried_at, tried_lines, tried_of}
pub use Rattle.fault_runs.specs.declared.put.CampaignFault.{CampaignFault}
pub use Rattle.fault_runs.specs.declared.tried.Tried.{Tried}
pub use Rattle.std.proofs.Common.{Bool, Err, List, Ok, Result, [], ap, append-nil, append_assoc, arith, cond, drop}
pub use Rattle.std.proofs.Common.{false, get_or, inl, inr, length, length-append, refl, subst, sym, take, true, ℕ, ◌&&◌}
pub use Rattle.std.proofs.Common.{◌*◌, ◌++◌, ◌+◌, ◌<◌, ◌∙◌, ◌∷◌, ◌≡◌, ◌≤◌}
pub use Rattle.std.proofs.lemmas.List.{get_or-map, length-map, map-append, take-append-drop, take_more}
pub use Rattle.std.specs.List.{list_any}
pub use Rattle.std.specs.Prelude.{IfErr, OnOk, codes, filter, if◌then◌else◌, map, nat_le}
pub use Rattle.ttp_base.proofs.Outputs.{Wrote-join, Wrote-none}
pub use Rattle.ttp_base.specs.NodeSet.{below}
pub use Rattle.ttp_base.specs.Outside.{Output, WroteLines}
pub use Rattle.ttp_base.specs.Text.{Lines}
pub use Rattle.ttp_world.proofs.Lists.{nodes-most}
pub use Rattle.ttp_world.specs.Diary.{History}
pub use Rattle.ttp_world.specs.Medl.{IsValid}
pub use Rattle.ttp_world.specs.declared.medl.Medl.{Medl}
pub use Rattle.ttp_world.specs.declared.node.Entry.{Entry}
pub use Rattle.ttp_world.specs.declared.script.Event.{Event}
pub use Rattle.ttp_world.specs.declared.script.Script.{Script}
