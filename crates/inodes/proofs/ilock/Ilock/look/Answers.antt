use Rattle.std.proofs.Common.{◌≡◌, ℕ, true, false, List, refl, ap, ◌∙◌, subst}
use Rattle.inodes.specs.Common.{buffer, Buffers, Dinode, eq-eqb, Holds, Image, inode_block, inode_bytes_in, inode_in, LockState, ne_eqb, Progress, ReadsInode, seen}
use Rattle.model.specs.Layout.{inode_of}
use Rattle.inodes.proofs.ilock.Ilock.look.Goals as goal

-- the inode in the bytes of a slot that holds its block is that of the current image
inode_read : (cur : Image) (c : Buffers) (p s : ℕ) (bytes : List ℕ) (d : Dinode) (o m : LockState) → o ≡ m → Holds cur c p (inode_block m.number) s → bytes ≡ (buffer c s).bytes → d ≡ inode_in (inode_bytes_in bytes o.number) → d ≡ inode_of cur m.number
unfolding inode_of
inode_read cur c p s bytes d o m same holds slot is = is ∙ ap (λ (b : List ℕ). inode_in (inode_bytes_in b o.number)) slot ∙ ap (λ (k : LockState). inode_in (inode_bytes_in (buffer c s).bytes k.number)) same
    ∙ ap (λ (b : List ℕ). inode_in (inode_bytes_in b m.number)) holds.bytes

pub returns-then-inode-eq0 : goal.returns-then-inode-eq0
returns-then-inode-eq0 g c =
    let v = c.args.volume.now in
    let read = inode_read (seen (g.D.Disk.image v.device) v.buffers) v.buffers c.args.pid c.args.slot c.data.result.now c.read_at-inode.result _ c.args.self.now c.self.view_is c.requires.holds c.data.ensures.bytes c.read_at-inode.ensures.value in
    subst (λ (d : Dinode). ReadsInode g.D.Disk.image v c.args.pid c.args.place c.args.slot d c.args.table.now (Progress.Over false) c.args.table.now c.release_block.new.volume) read (record {
      answer = rw (eq-eqb _ 0 c.if-inode-eq0.true) refl;
      table = rw (eq-eqb _ 0 c.if-inode-eq0.true) refl;
      block = c.release_block.ensures;
    })

pub returns : goal.returns
returns g c =
    let v = c.args.volume.now in
    let read = inode_read (seen (g.D.Disk.image v.device) v.buffers) v.buffers c.args.pid c.args.slot c.data.result.now c.read_at-inode.result _ c.args.self.now c.self.view_is c.requires.holds c.data.ensures.bytes c.read_at-inode.ensures.value in
    subst (λ (d : Dinode). ReadsInode g.D.Disk.image v c.args.pid c.args.place c.args.slot d c.args.table.now (Progress.Over true) c.renew.new.self c.release_block.new.volume) read (record {
      answer = rw (ne_eqb _ 0 c.if-inode-eq0.false) refl;
      table = rw (ne_eqb _ 0 c.if-inode-eq0.false) c.renew.ensures;
      block = c.release_block.ensures;
    })
