use Rattle.std.proofs.Common.{◌≡◌, ◌≤◌}
use Rattle.json_lines.specs.Blocks.{kept_count}
use Rattle.json_lines.proofs.content.kept_count.Given as goal

-- it is counted up to this byte
abbrev pub invariant-loop-i : goal.invariant-loop-i
invariant-loop-i l = record {
  count : l.kept ≡ kept_count l.bytes l.i;
  inside : l.kept ≤ l.i;
}
