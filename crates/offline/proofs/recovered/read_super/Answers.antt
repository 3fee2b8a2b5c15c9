use Rattle.std.proofs.Common.{◌∙◌, ℕ, List, [], ap, cond, eqb, sym, length}
use Rattle.offline.specs.Common.{Form, get_or_from_slice_get, is_known_magic, is_lawful_super, magic_of, super_in, u32_at}
use Rattle.model.specs.declared.types.image.Form.TheVariants.{One, Two}
use Rattle.offline.proofs.CheckLemmas.{geometry_passes}
use Rattle.offline.proofs.recovered.read_super.Goals as goal

-- the form that a superblock tells
abbrev form_told : List ℕ → Form
form_told bytes = cond (eqb (u32_at bytes 0) (magic_of Two)) Two One

pub returns-clause-ok : goal.returns-clause-ok
returns-clause-ok g c =
    let x = g.D.Disk.image c.args.disk.now in
    let bytes = c.read.new.into in
    let same = c.as_slice-bytes.ensures.value in
    let sup = c.read-sup.ensures ∙ ap super_in same in
    let size = c.size.ensures ∙ ap length c.in_ok-read.ensures.image in (
      geometry_passes x bytes c.requires.long c.in_ok-read.ensures.ok
          (sym (c.is_known.ensures ∙ ap (λ b. is_known_magic (u32_at b 0)) same) ∙ c.if-not-is_known.false)
          (ap (λ fields. is_lawful_super fields (length x)) (sym sup) ∙ ap (is_lawful_super c.read-sup.result) (sym size)
          ∙ sym c.is_lawful.ensures ∙ c.if-not-is_lawful.false),
      sup ∙ ap super_in (sym (get_or_from_slice_get x 1 bytes [] c.in_ok-read.ensures.ok)),
      c.form.ensures ∙ ap form_told same ∙ ap form_told (sym (get_or_from_slice_get x 1 bytes [] c.in_ok-read.ensures.ok)),
    )
