-- The words of this crate's proofs, from one place.
pub use Rattle.host_port.specs.Queues.{AreQueued, all_lent, calls_at, pairs_at, queue_at, spare_of}
pub use Rattle.host_port.specs.Reading.{AreTheirRings, IsItsRing, IsLeft, IsReaderSettled, ReadersState, Reads}
pub use Rattle.host_port.specs.Reading.{all_settled, buffers_of, got_of, lent, pairs_from, reads_at, rings_read}
pub use Rattle.host_port.specs.Reading.{settled}
pub use Rattle.host_port.specs.Rings.{ControllerState, HaveBuffers, IsNew, PortState, at_source, incoming_shape}
pub use Rattle.host_port.specs.Rings.{message_shape, shape_of, source_place}
pub use Rattle.host_port.specs.declared.report.ReadLine.{ReadLine}
pub use Rattle.std.proofs.Common.{All, Bool, Err, IfSome, List, None, Ok, OnErr, Option, Result, Some, [], add-one, ap}
pub use Rattle.std.proofs.Common.{arith, below_more, cond, drop, false, get_or, inl, inr, length, lit<, map, option_map}
pub use Rattle.std.proofs.Common.{option_to_list, refl, set, slice_get, subst, suc, sum_by, sym, take, true, unwrap_or}
pub use Rattle.std.proofs.Common.{vec_capacity, vec_len, zero, zero-add, ℕ, ◌*◌, ◌++◌, ◌+◌, ◌<◌, ◌==◌, ◌^◌, ◌∙◌, ◌∷◌}
pub use Rattle.std.proofs.Common.{◌≡◌, ◌≢◌, ◌≤◌}
pub use Rattle.std.proofs.lemmas.Bool.{cases_eq, cases_lt, cond_both, false≢true}
pub use Rattle.std.proofs.lemmas.List.FromFn.{map-range_with_len_more}
pub use Rattle.std.specs.Vec.Iter.{into_iter_items, into_iter_len}
pub use Rattle.ttp_base.specs.NodeSet.{below}
pub use Rattle.ttp_world.specs.Fitting.{append_byte, number_in}
pub use Rattle.ttp_world.specs.Words.{payload_word, word_count, words_of_payload}
pub use Rattle.ttp_world.specs.declared.script.Source.{Source}
