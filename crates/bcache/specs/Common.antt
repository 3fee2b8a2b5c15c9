-- The names that most proofs of this crate cite, passed on from one place. Declares nothing.
pub use Rattle.std.proofs.lemmas.Bool.{and_left, and_parts, and_right, both_ways, cases_Bool, cases_eq, cases_lt, cond-false, cond-true, eq-eqb, eqb-true, false_from_ne_true, false≢true, le-leb, le-ltb, lt-leb, lt-ltb, ne_eqb}
pub use Rattle.std.proofs.lemmas.List.{append-nil, ext_get_or, get_or-map, get_or-set_other, get_or-set_same, get_or_default, get_or_past, length-replicate, length-reverse, reverse-append, reverse-reverse}
pub use Rattle.std.proofs.lemmas.List.FromFn.{get_or-map-range_with_len, length-map-range_with_len}
pub use Rattle.model.specs.Lemmas.Counts.{count_of-append, count_of-get_or}
pub use Rattle.model.specs.Soundness.{count_of}
pub use Rattle.bcache.specs.Buffers.{after_acquire, after_acquire_by, after_lock, after_take, answer_by, buffer, Buffers, changed, empty_buffer, filled, found, fresh_buffers, IsCache, IsOnce, lock_answer, released, take_answer, taken, victim, with_buffer}
pub use Rattle.bcache.specs.Current.{bytes_or, is_number_in, is_of, references_of, shows}
pub use Rattle.bcache.specs.Links.{changed_entries, differences, first_of, IsLinks, linked_in_front, links_of, next_of, order_of, unlinked, walk}
pub use Rattle.bcache.specs.Order.{first_order, IsOrder, later_or, moved_to_front, order_after_release, victim_in}
pub use Rattle.bcache.specs.declared.types.Buffer.{Buffer}
