use Rattle.std.proofs.Common.{◌≡◌, ◌∙◌, ◌++◌, ◌≤◌, List, ℕ, length, take, ap, arith}
use Rattle.std.proofs.Math.ListN.{drop_of_length-le}
use Rattle.model.specs.Files.{bytes_in}
use Rattle.model.specs.Operations.{part_of}
use Rattle.offline.specs.Common.{append-nil, recovered, take_all}
use Rattle.offline.specs.Lemmas.Checked.{all_read}
use Rattle.offline.proofs.recovered.Recovered.all_bytes.Goals as goal

pub returns-clause-bytes : goal.returns-clause-bytes
returns-clause-bytes g c =
    let y = recovered (g.D.Disk.image c.args.disk.now) in
    let d = c.args.inode.now in
    let into = c.read.new.into in
    let bytes = c.in_ok-bytes.bytes in
    let size : length bytes.items ≡ d.size = c.in_ok-bytes.ensures in
    let read = c.in_ok-read.ensures.ok ∙ ap (λ (n : ℕ). part_of (bytes_in y d) 0 n) (omega (arith, size, c.deref_mut.ensures.len)) ∙ all_read y d in
    let all : length bytes.items ≤ length into = omega (arith, c.read.auto.into, c.deref_mut.ensures.len, size) in
    ap (λ (rest : List ℕ). take bytes.len (into ++ rest)) (drop_of_length-le bytes.items all)
    ∙ ap (take bytes.len) (append-nil into)
    ∙ take_all bytes.len into (omega (arith, c.read.auto.into, c.deref_mut.ensures.len, size))
    ∙ read
