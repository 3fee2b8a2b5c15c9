use Rattle.std.proofs.Common.{◌≡◌, length, map, take}
use Rattle.scripts.specs.Operation.{fields_of}
use Rattle.scripts.proofs.operation.fields_of.Given as goal

abbrev pub invariant-loop-field : goal.invariant-loop-field
invariant-loop-field l = record {
  counted : length l.fields.items ≡ length l.yielded;
  so_far : map (λ field. field.now) l.fields.items ≡ take (length l.yielded) (fields_of l.line);
}
