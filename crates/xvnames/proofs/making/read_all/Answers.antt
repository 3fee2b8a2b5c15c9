use Rattle.std.proofs.Common.{List, ℕ, ◌+◌, map, take, subst, sym}
use Rattle.xvnames.specs.Making.{AreNamed, IsNameOf, files_named}
use Rattle.xvnames.specs.declared.making.Named.{Named}
use Rattle.xvnames.proofs.Added.{path_more_named}
use Rattle.xvnames.proofs.making.read_all.Goals as goal

pub loop-path-preserved : goal.loop-path-preserved
loop-path-preserved g c =
    let one = subst (λ (text : List ℕ). IsNameOf text c.name_of.result.now) c.as_bytes.ensures.value c.name_of.ensures in
    subst (λ (files : List Named). AreNamed (map (λ path. path.now) (take (c.loop-path.path-index + 1) c.args.paths.now)) (files_named files)) (sym c.in_default.ensures.items)
    (path_more_named c.args.paths.now c.loop-path.path-index _ c.loop-path.files.items _ c.loop-path-test.true c.loop-path.invariant one)
