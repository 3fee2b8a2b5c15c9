-- Facts that hold where the disk has not failed.
pub use Rattle.wal.specs.Lemmas.Faults.{where_none, if_none, if_some, if_well}
