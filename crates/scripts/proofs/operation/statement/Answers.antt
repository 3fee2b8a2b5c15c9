use Rattle.std.proofs.Common.{◌==◌, arith}
use Rattle.std.proofs.lemmas.List.Splits.{length-slice_split}
use Rattle.scripts.proofs.OperationLemmas.{process_and_operation-long}
use Rattle.scripts.specs.Operation.{fields_of}
use Rattle.scripts.proofs.operation.statement.Goals as goal

pub returns-then-spaces-ge-MOST_FIELDS : goal.returns-then-spaces-ge-MOST_FIELDS
returns-then-spaces-ge-MOST_FIELDS c =
    process_and_operation-long (fields_of c.args.line.now) (omega (arith, length-slice_split (λ byte. byte == 32) c.args.line.now))
