-- The words of this crate's proofs, from one place.
pub use Rattle.script_text.specs.Faults.{drift_stated, event_has_nodes, event_is_in_range, events_of}
unfoldable pub use Rattle.script_text.specs.Faults.{form_faults}
pub use Rattle.script_text.specs.Faults.{statement_has_payload, is_after_slots, is_write_at, keyword_faults, on_of}
unfoldable pub use Rattle.script_text.specs.Faults.{line_faults}
pub use Rattle.script_text.specs.Faults.{slots_of, when}
unfoldable pub use Rattle.script_text.specs.Faults.{stated_faults, statement_faults, statements_after}
pub use Rattle.script_text.specs.Lines.{has_bytes, is_blank, is_line_feed, is_part, without_empty_end}
unfoldable pub use Rattle.script_text.specs.Lines.{lines_of_file}
pub use Rattle.script_text.specs.Lines.{without_return, word_at}
unfoldable pub use Rattle.script_text.specs.Lines.{words_of_line}
pub use Rattle.script_text.specs.Numbers.{digit_bytes_in, is_hex_word, is_text, decimal_value, value_in}
pub use Rattle.script_text.specs.ScriptFile.{end_faults, errors_at, script_faults}
unfoldable pub use Rattle.script_text.specs.ScriptFile.{lines_script, script_of}
pub use Rattle.script_text.specs.ScriptFile.{script_or_fault, statements_of}
unfoldable pub use Rattle.script_text.specs.ScriptFile.{stated_script}
pub use Rattle.script_text.specs.SoFar.{HasNodes, LinesStandFor, is_event_form, is_uncounted}
pub use Rattle.script_text.specs.Statement.{Statement, is_spelled, keyword_of, number_at_word, says_drift, says_event}
pub use Rattle.script_text.specs.Statement.{says_on, says_slots, statement_of}
pub use Rattle.script_text.specs.declared.error.LineFault.{LineFault}
pub use Rattle.script_text.specs.declared.error.ScriptError.{ScriptError}
pub use Rattle.script_text.specs.declared.keyword.Keyword.{Keyword}
pub use Rattle.script_text.specs.declared.so_far.SoFar.{SoFar}
pub use Rattle.std.proofs.Common.{Bool, Err, List, None, Ok, Option, Result, Some, [], ap, arith, cond, count_by, drop}
pub use Rattle.std.proofs.Common.{false, filter, get_or, get_or-set_same, inl, inr, is_some, length, lit≤, map, nat_le}
pub use Rattle.std.proofs.Common.{pos, refl, set, suc, sym, take, true, unwrap_or, zero, ℕ, ℤ, ◌&&◌, ◌*◌, ◌++◌, ◌+◌}
pub use Rattle.std.proofs.Common.{◌-◌, ◌<◌, ◌==◌, ◌^◌, ◌∙◌, ◌∷◌, ◌≡◌, ◌≤◌, ◌⊎◌}
pub use Rattle.std.proofs.lemmas.Bool.{leb-true}
pub use Rattle.std.proofs.lemmas.Bool.Decides.{nat_tests}
pub use Rattle.std.proofs.lemmas.Grind.{common_steps}
pub use Rattle.std.proofs.lemmas.List.{append-nil, ext_get_or, get_or-take, length-take}
pub use Rattle.std.proofs.lemmas.List.FromFn.{get_or-map-range_with_len, length-map-range_with_len}
pub use Rattle.std.proofs.lemmas.List.Sums.{AllPass-from_list_all}
pub use Rattle.std.proofs.lemmas.Result.{err_from_is_err_and}
pub use Rattle.std.proofs.lemmas.Slice.Eq.{bytes_eq-Decides}
pub use Rattle.std.specs.Char.{digit_value, is_ascii_digit}
pub use Rattle.std.specs.List.{list_all, slice_split}
pub use Rattle.std.specs.Option.{option_or}
pub use Rattle.std.specs.Prelude.{All, IfSome, if◌then◌else◌}
pub use Rattle.ttp_base.specs.Faults.{first_fault}
pub use Rattle.ttp_base.specs.NodeSet.{below}
pub use Rattle.ttp_world.specs.Medl.{IsValid}
pub use Rattle.ttp_world.specs.Script.{IsBounded, IsValidEvent, IsWithinSpan}
pub use Rattle.ttp_world.specs.declared.medl.Medl.{Medl}
pub use Rattle.ttp_world.specs.declared.script.Event.{Event}
pub use Rattle.ttp_world.specs.declared.script.Script.{Script}
pub use Rattle.ttp_world.specs.declared.script.TheConstants.{DRIFT_LIMIT, EVENT_LIMIT, SLOT_LIMIT}
