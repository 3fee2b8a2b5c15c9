-- The names that most proofs of this crate cite, passed on from one place. Declares nothing.
pub use Rattle.std.proofs.lemmas.Bool.{both_ways, cases_eq, cases_lt, eq-eqb, eqb-true, or_cases, true≢false}
pub use Rattle.std.proofs.lemmas.List.{append-nil, get_or-append_right, get_or-drop, get_or-map, get_or-replicate, get_or-set_other, get_or-set_same, get_or-take, get_or_past, get_or_read, length-drop, length-map, length-replicate, length-take, length-take-le, take-append-drop}
pub use Rattle.blocks.specs.Block.{IsBlock, overwritten}
pub use Rattle.blocks.specs.Disk.{AddsNone, AddsOnly, counted, Elapses, HasTurned, Image, IsImage, IsOldOrNew, IsSettled, LeavesOldOrNew, LeavesOnly, MayLose, one_more}
pub use Rattle.blocks.specs.Held.{applied, AreInside, AreWhole, CanFloat, chosen, HadLeft, held_by, HeldImages, IsNoted, IsSettledOn, IsShadow, LeftSince, noted_by, Write}
pub use Rattle.blocks.specs.declared.faulty.Trap.{Trap}
pub use Rattle.blocks.specs.declared.floating.Floating.{Floating}
pub use Rattle.blocks.specs.declared.floating.Shadow.{Shadow}
pub use Rattle.blocks.specs.declared.held.Held.{Held}
pub use Rattle.blocks.specs.declared.held.Holding.{Holding}
