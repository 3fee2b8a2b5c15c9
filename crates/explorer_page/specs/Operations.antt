-- The operations of a run, an object each.
use Rattle.std.specs.Prelude.{ℕ, List, ◌++◌, codes}
use Rattle.json_lines.specs.Fields.{bytes_field, first_number, number_field, word_field}
use Rattle.model.specs.declared.types.operations.Attribute.{Attribute}
use Rattle.model.specs.declared.types.operations.Op.{Op}
use Rattle.scripts.specs.declared.script.Task.{Task}

-- what an operation is, and a number
unfoldable pub word_fields : List ℕ → List ℕ → ℕ → List ℕ
word_fields word name n = word_field (codes "operation") word ++ number_field name n

-- what it is, and its file
abbrev pub file_fields : List ℕ → ℕ → List ℕ
file_fields word i = word_fields word (codes "inode") i

unfoldable pub write_fields : ℕ → ℕ → List ℕ → List ℕ
write_fields i off bytes =
    file_fields (codes "write") i ++ number_field (codes "offset") off ++ bytes_field bytes

unfoldable pub read_fields : ℕ → ℕ → ℕ → List ℕ
read_fields i off n =
    file_fields (codes "read") i ++ number_field (codes "offset") off
    ++ number_field (codes "count") n

-- to which number it sets something of its file
unfoldable pub set_fields : List ℕ → ℕ → ℕ → List ℕ
set_fields word i n = file_fields word i ++ number_field (codes "to") n

abbrev pub attribute_fields : ℕ → Attribute → List ℕ
attribute_fields i (Attribute.Links n) = set_fields (codes "links") i n
attribute_fields i (Attribute.Size n) = set_fields (codes "resize") i n

abbrev pub op_fields : Op → List ℕ
op_fields (Op.Create kind) = word_fields (codes "create") (codes "type") kind
op_fields (Op.Write i off bytes) = write_fields i off bytes
op_fields (Op.Read i off n) = read_fields i off n
op_fields (Op.Trunc i) = file_fields (codes "trunc") i
op_fields (Op.Remove i) = file_fields (codes "remove") i
op_fields (Op.Stat i) = file_fields (codes "stat") i
op_fields (Op.SetAttribute i attribute) = attribute_fields i attribute

-- THE OBJECT OF AN OPERATION, with its process and its line feed
unfoldable pub task_object : Task → List ℕ
task_object task = first_number (codes "process") task.pid ++ op_fields task.op ++ codes "}\n"
