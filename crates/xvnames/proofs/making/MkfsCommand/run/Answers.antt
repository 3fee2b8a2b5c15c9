use Rattle.std.proofs.Common.{map, refl, subst, sym}
use Rattle.model.specs.Layout.{is_inode_count, is_size}
use Rattle.model.specs.Lemmas.Log.{both_of}
use Rattle.xvnames.specs.Making.{AreNamed, files_named}
use Rattle.xvnames.proofs.making.MkfsCommand.run.Goals as goal

pub returns-in-Ok-make_in_place-clause-refused : goal.returns-in-Ok-make_in_place-clause-refused
returns-in-Ok-make_in_place-clause-refused g c = (
  both_of (is_inode_count c.args.self.making.ninodes) (is_size c.args.self.making.size c.args.self.making.ninodes) (c.in_default.ensures.ok.0 refl),
  record {
    named = files_named c.as_slice.result.now;
    names = subst (λ files. AreNamed (map (λ file. file.now) c.args.self.files.now) (files_named files)) (sym c.as_slice.ensures.value) c.in-Ok.ensures;
    fields = c.in-Ok-make_in_place.fields;
    makes = c.in-Ok-make_in_place.ensures.made;
  },
)
