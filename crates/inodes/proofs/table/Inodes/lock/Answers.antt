use Rattle.std.proofs.Common.{rules, ◌≡◌, ap, Some, ◌∙◌}
use Rattle.inodes.specs.Common.{entry_at, is_of}
use Rattle.inodes.proofs.TableNumbers.{numbered_kept}
use Rattle.inodes.proofs.table.Inodes.lock.Goals as goal

pub invariant_of-self-2 : goal.invariant_of-self-2
invariant_of-self-2 c =
    let there : entry_at c.self.inside.places c.args.place ≡ Some c.in-Some.inode = search rules in
    numbered_kept c.self.inside.numbers c.self.inside.places c.args.place _ c.self.invariant (λ j has. ap (is_of j) there ∙ has) c.requires.place
