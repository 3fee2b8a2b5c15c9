-- The operations of a whole change leave a tree.
use Rattle.std.proofs.Common.{◌≡◌, ◌≢◌, ◌⊎◌, inl, inr, ℕ, List, [], Option, Some, refl, sym, ap, subst, ◌∙◌, ⊎_elim}
use Rattle.model.specs.declared.types.image.File.{File}
use Rattle.model.specs.declared.types.operations.Op.TheVariants.{Create, Write}
use Rattle.model.specs.declared.types.operations.Reply.{Reply}
use Rattle.model.specs.declared.types.operations.Reply.TheVariants.{Made, Wrote}
use Rattle.model.specs.declared.types.image.Form.{Form}
use Rattle.model.specs.Files.{Files, file_in}
use Rattle.model.specs.Operations.{after}
use Rattle.directories.specs.declared.entries.EntryWrite.{EntryWrite}
use Rattle.directories.specs.Trees.{bytes_of, directory_in, kind_of, new_directory, number_of, parent_name, IsDirectory, IsTidy, IsTree}
use Rattle.directories.specs.TreeChanges.{directory_file, empty_file, AddsName, IsUnnamed, LeadsTo, MovesDirectory, MovesName}
use Rattle.directories.specs.WholeChanges.{MakesDirectoryWhole, MakesFileWhole, MakesRootWhole, MovesDirectoryWhole, MovesFileWhole, RemovesFileWhole, RenamesFileWhole}
use Rattle.directories.specs.Writes.{operation_of, Links, MayHold, Repoints, Unlinks}
use Rattle.directories.specs.Lemmas.Adding.{adding_keeps}
use Rattle.directories.specs.Lemmas.Dropping.{dropping_keeps}
use Rattle.directories.specs.Lemmas.EntrySteps.{link_leads_there, links_to, unlink_leads_nowhere}
use Rattle.directories.specs.Lemmas.Moves.{link_moves, relink_leads, unlink_moves}
use Rattle.directories.specs.Lemmas.Moving.{moving_keeps}
use Rattle.directories.specs.Lemmas.MovingDirectory.{moving_directory_keeps}
use Rattle.directories.specs.Lemmas.NewDirectory.{files_are_new, root_is_tree}
use Rattle.directories.specs.Lemmas.Repoints.{repoint_leads_there}
use Rattle.directories.specs.Lemmas.Sizes.{after_sized}
use Rattle.directories.specs.Sizes.{AreSized}
use Rattle.directories.specs.Lemmas.TreeMeaning.{directories_are_tidy, steps_lead}
use Rattle.directories.specs.Lemmas.Unnamed.{apart_from, create_makes, link_adds, remove_drops, write_fills}

tidy_in : (files : Files) (from : ℕ) → IsTree files → IsDirectory files from → IsTidy (directory_in files from)
tidy_in files from tree is = (directories_are_tidy files from tree is).0

-- a file that was made is linked
pub linked_new : (form : Form) (files made new : Files) (from number : ℕ) (name : List ℕ) (file : File) (write : EntryWrite) (reply : Reply) →
    AreSized form made → IsTree files → IsDirectory files from → IsUnnamed files made number file → Links (directory_in files from) name number write →
    MayHold (directory_in files from) write.place → after form made (operation_of from write) reply ≡ Some new →
    ((reply ≡ Wrote 16) × AddsName files new from name number file) ⊎ ((reply ≡ Wrote 0) × (new ≡ made))
linked_new form files made new from i name file write reply sized tree is unnamed links room h =
    let stays : file_in made from ≡ file_in files from = unnamed.rest from (apart_from files i from unnamed.free is) in
    let made_is : IsDirectory made from = ap kind_of stays ∙ is in
    let made_tidy : IsTidy (directory_in made from) = subst (λ (o : Option File). IsTidy (bytes_of o)) (sym stays) (tidy_in files from tree is) in
    let made_links : Links (directory_in made from) name i write = subst (λ (o : Option File). Links (bytes_of o) name i write) (sym stays) links in
    let made_room : MayHold (directory_in made from) write.place = subst (λ (o : Option File). MayHold (bytes_of o) write.place) (sym stays) room in
    ⊎_elim
    (λ (done : (reply ≡ Wrote 16) × LeadsTo made new from name (Some i)).
    inl (done.0, link_adds files made new from i name file is unnamed links.absent done.1))
    (λ (none : (reply ≡ Wrote 0) × (new ≡ made)). inr none)
    (link_leads_there form made new from i name write reply sized made_is made_tidy made_links made_room h)

pub makes_file_whole : MakesFileWhole
makes_file_whole form files made new from i kind name write reply sized tree is down plain create links room h =
    let unnamed = create_makes form files made kind i create in
    ⊎_elim
    (λ (done : (reply ≡ Wrote 16) × AddsName files new from name i (empty_file kind)).
    inl (done.0, done.1, adding_keeps files new from i name (empty_file kind) tree is down (files_are_new.0 kind i from plain) done.1))
    (λ (none : (reply ≡ Wrote 0) × (new ≡ made)). inr none)
    (linked_new form files made new from i name (empty_file kind) write reply (after_sized form files made (Create kind) (Made i) sized create) tree is unnamed links room h)

-- the two entries of a new directory were written
pub filled_by : (form : Form) (files made filled : Files) (number parent : ℕ) → IsUnnamed files made number (empty_file 1) →
    after form made (Write number 0 (new_directory number parent)) (Wrote 32) ≡ Some filled → IsUnnamed files filled number (directory_file number parent)
filled_by form files made filled i parent unnamed h =
    ⊎_elim (λ (done : (Wrote 32 ≡ Wrote 32) × IsUnnamed files filled i (directory_file i parent)). done.1)
    (λ (none : (Wrote 32 ≡ Wrote 0) × (filled ≡ made)). absurd (cc (none.0)))
    (write_fills form files made filled i parent (Wrote 32) unnamed h)

pub makes_directory_whole : MakesDirectoryWhole
makes_directory_whole form files made filled new from i name write reply sized tree is down used fits create fill links room h =
    let unnamed = filled_by form files made filled i from (create_makes form files made 1 i create) fill in
    let filled_sized = after_sized form made filled (Write i 0 (new_directory i from)) (Wrote 32) (after_sized form files made (Create 1) (Made i) sized create) fill in
    ⊎_elim
    (λ (done : (reply ≡ Wrote 16) × AddsName files new from name i (directory_file i from)).
    inl (
      done.0,
      done.1,
      adding_keeps files new from i name (directory_file i from) tree is down (files_are_new.1 i from links.used links.fits used fits) done.1,
    ))
    (λ (none : (reply ≡ Wrote 0) × (new ≡ filled)). inr none)
    (linked_new form files filled new from i name (directory_file i from) write reply filled_sized tree is unnamed links room h)

pub removes_file_whole : RemovesFileWhole
removes_file_whole form files freed new from i name write first second sized tree is down led once empty unlinks freeing removing =
    let lead = steps_lead files from i name tree down (is, led) in
    let nowhere = unlink_leads_nowhere form files freed from name write first sized is (tidy_in files from tree is) unlinks freeing in
    let drops = remove_drops form files freed new from i name second lead.0 lead.2 led nowhere.1 removing in
    (nowhere.0, drops.0, drops.1, dropping_keeps files new from i name tree is down once empty drops.1)

pub renames_file_whole : RenamesFileWhole
renames_file_whole form files freed new from i old name unlink link first second sized tree is old_down down led absent unlinks freeing links h =
    let tidy = tidy_in files from tree is in
    let nowhere = unlink_leads_nowhere form files freed from old unlink first sized is tidy unlinks freeing in
    let freed_it = subst (λ (r : Reply). after form files (operation_of from unlink) r ≡ Some freed) nowhere.0 freeing in
    let there = relink_leads form files freed new from i old name unlink link second sized is tidy unlinks freed_it links h in
    let moves = link_moves files freed new from from i old name is is led absent nowhere.1 there.1 in
    (nowhere.0, there.0, moves, moving_keeps files new from from i old name tree is is old_down down (λ directory. refl) moves)

-- a new name was linked in another directory, and then the old one unlinked
pub moved_name : (form : Form) (files both new : Files) (from to number : ℕ) (old name : List ℕ) (unlink link : EntryWrite) (reply : Reply) →
    AreSized form files → IsTree files → IsDirectory files from → IsDirectory files to → from ≢ to → number_of files from old ≡ Some number →
    Links (directory_in files to) name number link → after form files (operation_of to link) (Wrote 16) ≡ Some both →
    Unlinks (directory_in files from) old unlink → after form both (operation_of from unlink) reply ≡ Some new →
    (reply ≡ Wrote 16) × MovesName files new from old to name number
moved_name form files both new from to i old name unlink link reply sized tree is is_to apart led links linked unlinks h =
    let there = links_to form files both to i name link is_to (tidy_in files to tree is_to) links linked in
    let both_sized = after_sized form files both (operation_of to link) (Wrote 16) sized linked in
    let stays : file_in both from ≡ file_in files from = there.rest from apart in
    let both_is : IsDirectory both from = ap kind_of stays ∙ is in
    let both_tidy : IsTidy (directory_in both from) = subst (λ (o : Option File). IsTidy (bytes_of o)) (sym stays) (tidy_in files from tree is) in
    let both_unlinks : Unlinks (directory_in both from) old unlink = subst (λ (o : Option File). Unlinks (bytes_of o) old unlink) (sym stays) unlinks in
    let nowhere = unlink_leads_nowhere form both new from old unlink reply both_sized both_is both_tidy both_unlinks h in
    (nowhere.0, unlink_moves files both new from to i old name is is_to led links.absent there nowhere.1)

pub moves_file_whole : MovesFileWhole
moves_file_whole form files both new from to i old name unlink link reply sized tree is is_to apart old_down down plain led links room linked unlinks h =
    let moved = moved_name form files both new from to i old name unlink link reply sized tree is is_to apart led links linked unlinks h in
    (moved.0, moved.1, moving_keeps files new from to i old name tree is is_to old_down down (λ directory. absurd (plain directory)) moved.1)

pub moves_directory_whole : MovesDirectoryWhole
moves_directory_whole form files both mid new from to i old name unlink link up first second sized tree is is_to apart directory outside old_down down led
    links room linked unlinks h repoints h_up =
    let moved = moved_name form files both mid from to i old name unlink link first sized tree is is_to apart led links linked unlinks h in
    let mid_sized = after_sized form both mid (operation_of from unlink) first (after_sized form files both (operation_of to link) (Wrote 16) sized linked) h in
    let not_from : i ≢ from = (steps_lead files from i old tree old_down (is, led)).2 in
    let not_to : i ≢ to = λ same. outside [] same in
    let stays : file_in mid i ≡ file_in files i = moved.1.rest i not_from not_to in
    let mid_is : IsDirectory mid i = ap kind_of stays ∙ directory in
    let mid_tidy : IsTidy (directory_in mid i) = subst (λ (o : Option File). IsTidy (bytes_of o)) (sym stays) (tidy_in files i tree directory) in
    let mid_repoints : Repoints (directory_in mid i) parent_name to up =
    subst (λ (o : Option File). Repoints (bytes_of o) parent_name to up) (sym stays) repoints in
    let turned = repoint_leads_there form mid new i to parent_name up second mid_sized mid_is mid_tidy mid_repoints h_up in
    let moves : MovesDirectory files new from old to name i = record { mid = mid; moves = moved.1; up = turned.1 } in
    (moved.0, turned.0, moves, moving_directory_keeps files new from to i old name tree is is_to directory old_down down outside moves)

pub makes_root_whole : MakesRootWhole
makes_root_whole form files made new none create fill =
    let unnamed = filled_by form files made new 1 1 (create_makes form files made 1 1 create) fill in
    root_is_tree new unnamed.there (λ i ne. unnamed.rest i ne ∙ none i ne)
