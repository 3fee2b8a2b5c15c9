-- Facts that hold where the disk has not failed.
use Rattle.std.specs.Prelude.{◌≡◌, IfNone, Option, Some, None}
use Rattle.wal.specs.Common.{DeviceFault}

pub where_none : {T : Type 0} (o : Option DeviceFault) → o ≡ None → IfNone o T → T
where_none None e t = t
where_none (Some fault) e t = absurd (cc e)

pub if_none : {T : Type 0} (o : Option DeviceFault) → T → IfNone o T
if_none None t = t
if_none (Some fault) t = tt

pub if_some : (T : Type 0) (o : Option DeviceFault) (fault : DeviceFault) → o ≡ Some fault → IfNone o T
if_some T None fault e = absurd (cc e)
if_some T (Some other) fault e = tt

pub if_well : {S T : Type 0} (o : Option DeviceFault) → (S → T) → IfNone o S → IfNone o T
if_well None f s = f s
if_well (Some fault) f s = tt
