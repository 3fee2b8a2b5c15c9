-- The names that most proofs of this crate cite, passed on from one place. Declares nothing.
pub use Rattle.std.proofs.lemmas.Option.{slice_get_read}
pub use Rattle.ports.specs.declared.lane.Lane.{Lane}
