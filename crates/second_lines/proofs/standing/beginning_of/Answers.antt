use Rattle.std.proofs.Common.{◌≡◌, ◌∙◌, false, true, length, take, ap, subst, sym}
use Rattle.std.specs.Str.{bytes_eq}
use Rattle.blocks.specs.Disk.{Image}
use Rattle.model.specs.Files.{bytes_in}
use Rattle.model.specs.Log.{recovered}
use Rattle.offline.specs.Recovered.{IsRecoveredOf}
use Rattle.second_lines.specs.Beginnings.{beginning_of, may_begin}
use Rattle.second_lines.proofs.BeginningLemmas.{begun, may_read_at, none_begun, not_begun}
use Rattle.second_lines.proofs.standing.beginning_of.Goals as goal

pub has_bytes-requires-clause-recovered : goal.has_bytes-requires-clause-recovered
has_bytes-requires-clause-recovered g c = subst (λ (z : Image). IsRecoveredOf z c.args.image.now) (sym c.inode.ensures.reads.image) c.requires.checked.recovered

pub has_bytes-requires-clause-file : goal.has_bytes-requires-clause-file
has_bytes-requires-clause-file g c =
    let d = g.D.Disk in
    may_read_at (d.image c.args.disk.now) (d.image c.inode.new.disk) c.args.image.now c.args.i (length c.args.bytes.now) c.in_ok-inode.inode (g.met.D.Disk.is_image c.args.disk.now) c.checked_files_may_be_read.ensures c.requires.checked c.requires.some c.requires.below
    c.in_ok-inode.ensures.ok (sym c.may_begin.ensures.same ∙ c.if-not-may_begin.false) c.inode.ensures.reads.image

pub returns-then-not-may_begin-clause-count : goal.returns-then-not-may_begin-clause-count
returns-then-not-may_begin-clause-count g c =
    let y = recovered (g.D.Disk.image c.args.disk.now) in
    let bytes = c.args.bytes.now in
    let inode = c.in_ok-inode.inode in
    let none : may_begin inode (length bytes) ≡ false = sym c.may_begin.ensures.same ∙ c.if-not-may_begin.true in
    none_begun y bytes inode none ∙ ap (beginning_of y bytes) c.in_ok-inode.ensures.ok

pub returns-then-not-begins-clause-count : goal.returns-then-not-begins-clause-count
returns-then-not-begins-clause-count g c =
    let y = recovered (g.D.Disk.image c.args.disk.now) in
    let bytes = c.args.bytes.now in
    let inode = c.in_ok-inode.inode in
    let may : may_begin inode (length bytes) ≡ true = sym c.may_begin.ensures.same ∙ c.if-not-may_begin.false in
    let other : false ≡ bytes_eq (bytes_in y inode) (take inode.size bytes) = sym c.if-not-begins.true ∙ c.in_ok-begins.ensures.same ∙ ap (λ (z : Image). bytes_eq (bytes_in (recovered z) inode) (take inode.size bytes)) c.inode.ensures.reads.image in
    not_begun y bytes inode may other ∙ ap (beginning_of y bytes) c.in_ok-inode.ensures.ok

pub returns-clause-count : goal.returns-clause-count
returns-clause-count g c =
    let y = recovered (g.D.Disk.image c.args.disk.now) in
    let bytes = c.args.bytes.now in
    let inode = c.in_ok-inode.inode in
    let may : may_begin inode (length bytes) ≡ true = sym c.may_begin.ensures.same ∙ c.if-not-may_begin.false in
    let same : true ≡ bytes_eq (bytes_in y inode) (take inode.size bytes) = sym c.if-not-begins.false ∙ c.in_ok-begins.ensures.same ∙ ap (λ (z : Image). bytes_eq (bytes_in (recovered z) inode) (take inode.size bytes)) c.inode.ensures.reads.image in
    begun y bytes inode may same ∙ ap (beginning_of y bytes) c.in_ok-inode.ensures.ok
