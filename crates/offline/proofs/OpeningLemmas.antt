-- The superblock and the log's header of an image that has no fault.
use Rattle.std.proofs.Common.{◌≡◌, ◌∙◌, ℕ, ◌≤◌, List, [], length, Some, None, sym, ap, cond, eqb}
use Rattle.std.specs.Prelude.{slice_get}
use Rattle.std.proofs.lemmas.Option.{get_or_from_slice_get}
use Rattle.blocks.specs.Disk.{Image}
use Rattle.layout.specs.declared.header.Header.{Header}
use Rattle.model.specs.Fields.{u32_at}
use Rattle.model.specs.Layout.{form_of, magic_of, super_in, super_of}
use Rattle.model.specs.Lemmas.Super.{verdict_none}
use Rattle.model.specs.Log.{homes_in, logged_in}
use Rattle.model.specs.Verdict.{verdict}
use Rattle.model.specs.declared.types.image.Form.{Form}
use Rattle.model.specs.declared.types.image.Form.TheVariants.{One, Two}
use Rattle.model.specs.declared.types.image.Super.{Super}
use Rattle.offline.specs.Recovered.{IsHeaderOf}

abbrev pub form_told : List ℕ → Form
form_told bytes = cond (eqb (u32_at bytes 0) (magic_of Two)) Two One

pub form_read : (x : Image) (bytes : List ℕ) (form : Form) → slice_get x 1 ≡ Some bytes → form ≡ cond (eqb (u32_at bytes 0) (magic_of Two)) Two One → form ≡ form_of x
form_read x bytes form read is = is ∙ ap form_told (sym (get_or_from_slice_get x 1 bytes [] read))

pub super_read : (x : Image) (bytes : List ℕ) (sup : Super) → slice_get x 1 ≡ Some bytes → sup ≡ super_in bytes → sup ≡ super_of x
super_read x bytes sup read is = is ∙ ap super_in (sym (get_or_from_slice_get x 1 bytes [] read))

pub header_read : (x : Image) (bytes : List ℕ) (header : Header) → verdict x ≡ None → slice_get x 2 ≡ Some bytes → header.n ≡ logged_in bytes → header.homes.items ≡ homes_in bytes → length header.homes.items ≤ 30 → IsHeaderOf x header
header_read x bytes header sound read count homes few =
    let here = sym (get_or_from_slice_get x 2 bytes [] read) in
    record { count = count ∙ ap logged_in here; homes = homes ∙ ap homes_in here; few = few; lawful = (verdict_none x sound).1 }
