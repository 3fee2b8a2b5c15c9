-- What a request is answered.
use Rattle.std.specs.Prelude.{ℕ, Bool, true, false, not, List, map, Option}
use Rattle.cmd.specs.Batches.{AreDone, StopsAmong}
use Rattle.cmd.specs.Lemmas.Disks.{file_disk}
use Rattle.cmd.specs.Opened.{OpensDisk}
use Rattle.cmd.specs.Over.{IsRefusedOn}
use Rattle.commands.specs.Words.{IsDoneOf, IsNotDone, IsRefusedOf}
use Rattle.commands_changes.specs.declared.making.Making.{Making}
use Rattle.model.specs.Files.{Files}
use Rattle.model.specs.declared.types.image.Form.{Form}
use Rattle.model.specs.declared.types.image.Form.TheVariants.{One}
use Rattle.names.specs.Linking.{IsNotLinkedAt, LinksAt}
use Rattle.names.specs.Making.{IsUnmadeDirectoryIn, MakesDirectoryAt}
use Rattle.directories.specs.Paths.{names_of}
use Rattle.names.specs.Ready.{IsUndone, AnyOf}
use Rattle.names.specs.Recounting.{StopsRecount}
use Rattle.names.specs.Removing.{IsUnremovedIn, RemovesAt}
use Rattle.names.specs.Renaming.{IsUndoneAt, IsUndoneAtBoth, RenamesAt}
use Rattle.names.specs.Undirecting.{IsUnemptiedIn, RemovesDirectoryAt}
use Rattle.directories.specs.Walks.{IsUndoneIn}
use Rattle.directories.specs.declared.refusal.Refusal.{Refusal}
use Rattle.names_words.specs.CommandLine.{xvnames_words}
use Rattle.names_words.specs.declared.words.Request.{Request}
use Rattle.names_words.specs.declared.words.Request.TheVariants.{Ls, Stat, Tree, Cat, Get, Put, PutFolder, Rm, Mv, Cp, Ln, Mkdir, Rmdir, Check, Recount, Mkfs}
use Rattle.tree_changes.specs.Changes.{HasChanged, HasNotChanged, MakesDirectory, OnTree, Plainly, StopsChange, Turn}
use Rattle.tree_changes.specs.Making.{EntersSome, IsUnmadeAll, MakesDirectories}
use Rattle.tree_changes.specs.Recounts.{HasNotRecounted, TellsRecount}
use Rattle.tree_changes.specs.Removing.{IsUnremovedAll, RemovesPart, RemovesWhole}
use Rattle.tree_changes.specs.declared.faults.ChangeRefusal.{ChangeRefusal}
use Rattle.tree_looks.specs.Gets.{HasGot, HasGotAll, IsUngot, IsUngotAll}
use Rattle.tree_looks.specs.Looks.{HasLooked, HasNoPaths, HasNotCounted, HasNotLooked, IsUnlisted, IsUnshown, Lists, NotOfTree, OfTree, Shows, ShowsPaths, ShowsStat, TellsCounts}
use Rattle.tree_looks.specs.declared.faults.LookRefusal.{LookRefusal}
use Rattle.tree_puts.specs.Copies.{CopiesFile, IsUncopiedFile}
use Rattle.tree_puts.specs.Folders.{HasPutFolder, IsUnputFolder}
use Rattle.tree_puts.specs.Puts.{HasPut}
use Rattle.tree_puts.specs.Refusals.{IsUnput}
use Rattle.xvnames.specs.Making.{IsMadeWith}
use Rattle.xvnames.specs.Unmade.{IsNotMadeWith}

-- a disk was opened from a file, and this told of its files
abbrev pub Looks : {F : Type 0} → (F → Option (List ℕ)) → (Files → List ℕ → Type 0)
    → Option (List ℕ) → Option (List ℕ) → Type 0
Looks remaining tells old new =
    OpensDisk remaining file_disk false (λ d e. HasLooked file_disk tells d e old new)

-- a disk was opened from a file, and its files changed so
abbrev pub Changes : {F : Type 0} → (F → Option (List ℕ))
    → (Form → Option ℕ → Files → Files → Type 0) → (Form → Files → Files → Type 0) → Bool → Bool
    → Option (List ℕ) → Option (List ℕ) → Type 0
Changes remaining makes midst sync no_sync old new = OpensDisk remaining file_disk sync
    (λ d e. HasChanged file_disk makes (not no_sync) d e old new
    × StopsChange file_disk midst d e)

-- a disk was opened from a file, and the counts of its files are right
abbrev pub Recounts : {F : Type 0} → (F → Option (List ℕ)) → Bool → Bool → Option (List ℕ)
    → Option (List ℕ) → Type 0
Recounts remaining sync no_sync old new = OpensDisk remaining file_disk sync (λ d e.
    TellsRecount file_disk (not no_sync) d e old new × StopsRecount file_disk d e)

-- a file was copied out, or all below a directory
abbrev pub Gets : {F : Type 0} → (F → Option (List ℕ)) → (F → Option (List ℕ)) → Bool → List ℕ
    → Option (List ℕ) → Option (List ℕ) → Type 0
Gets remaining contents true path old new = HasGotAll remaining contents path old new
Gets remaining contents false path old new = HasGot remaining contents path old new

-- a directory was made, or each of a path that was not there
abbrev pub Makes : {F : Type 0} → (F → Option (List ℕ)) → Bool → List ℕ → Bool → Bool
    → Option (List ℕ) → Option (List ℕ) → Type 0
Makes remaining true path sync no_sync old new = Changes remaining
    (λ form. MakesDirectories path) (λ form. EntersSome (names_of path)) sync no_sync old new
Makes remaining false path sync no_sync old new = Changes remaining (λ form. MakesDirectory path)
    (λ form. AnyOf (MakesDirectoryAt (names_of path))) sync no_sync old new

-- a name was removed, or a directory with all below it
abbrev pub Removes : {F : Type 0} → (F → Option (List ℕ)) → Bool → List ℕ → Bool → Bool
    → Option (List ℕ) → Option (List ℕ) → Type 0
Removes remaining true path sync no_sync old new = Changes remaining
    (λ form. RemovesWhole path) (λ form. RemovesPart (names_of path)) sync no_sync old new
Removes remaining false path sync no_sync old new = Changes remaining
    (λ form. Plainly (RemovesAt (names_of path))) (λ form. AnyOf (RemovesAt (names_of path)))
    sync no_sync old new

-- the image that is asked for
abbrev pub making_asked : ℕ → ℕ → Bool → Making
making_asked size ninodes no_sync =
    record { form = One; size = size; ninodes = ninodes; sync = not no_sync }

-- a request was done, and its answer printed
abbrev pub Answers : {F : Type 0} → (F → Option (List ℕ)) → (F → Option (List ℕ)) → Request
    → Option (List ℕ) → Option (List ℕ) → Type 0
Answers remaining contents (Ls image path json) old new =
    Looks remaining (Lists json path.now) old new
Answers remaining contents (Stat image path json) old new =
    Looks remaining (ShowsStat json path.now) old new
Answers remaining contents (Tree image path json) old new =
    Looks remaining (OfTree (ShowsPaths json path.now)) old new
Answers remaining contents (Cat image path) old new = Looks remaining (Shows path.now) old new
Answers remaining contents (Get image path file all) old new =
    Gets remaining contents all path.now old new
Answers remaining contents (Put image file path sync no_sync) old new =
    HasPut remaining path.now sync (not no_sync) old new
Answers remaining contents (PutFolder image folder path) old new =
    HasPutFolder remaining path.now old new
Answers remaining contents (Rm image path all sync no_sync) old new =
    Removes remaining all path.now sync no_sync old new
Answers remaining contents (Mv image from to sync no_sync) old new = Changes remaining
    (λ form. Plainly (RenamesAt (names_of from.now) (names_of to.now)))
    (λ form. AnyOf (RenamesAt (names_of from.now) (names_of to.now))) sync no_sync old new
Answers remaining contents (Cp image from to sync no_sync) old new =
    CopiesFile remaining from.now to.now sync (not no_sync) old new
Answers remaining contents (Ln image path into sync no_sync) old new = Changes remaining
    (λ form. Plainly (LinksAt (names_of path.now) (names_of into.now)))
    (λ form. AnyOf (LinksAt (names_of path.now) (names_of into.now))) sync no_sync old new
Answers remaining contents (Mkdir image path parents sync no_sync) old new =
    Makes remaining parents path.now sync no_sync old new
Answers remaining contents (Rmdir image path sync no_sync) old new = Changes remaining
    (λ form. Plainly (RemovesDirectoryAt (names_of path.now)))
    (λ form. AnyOf (RemovesDirectoryAt (names_of path.now))) sync no_sync old new
Answers remaining contents (Check image json) old new =
    Looks remaining (OfTree (TellsCounts json)) old new
Answers remaining contents (Recount image sync no_sync) old new =
    Recounts remaining sync no_sync old new
Answers {F} remaining contents (Mkfs image size ninodes files no_sync) old new =
    IsMadeWith {F = F} file_disk (making_asked size ninodes no_sync) (map (λ file. file.now) files.items)
    old new

-- a command was refused, for some reason of its own
abbrev pub Refuses : {R : Type 0} → (R → Type 0) → Type 0
Refuses {R} why = (r : R) × why r

-- a look was refused: no disk was opened, or nothing told of its files
abbrev pub LooksNot : {F : Type 0} → (F → Option (List ℕ)) → (Files → LookRefusal → Type 0)
    → Type 0 → Type 0
LooksNot remaining refuses none = Refuses
    (IsRefusedOn remaining false none (λ d e. HasNotLooked file_disk refuses d e none))

-- counts were not told: no disk was opened, or of its files, which are no tree, the flaws alone
abbrev pub CountsNot : {F : Type 0} → (F → Option (List ℕ)) → Bool → Option (List ℕ)
    → Option (List ℕ) → Type 0 → Type 0
CountsNot remaining json old new none = Refuses
    (IsRefusedOn remaining false none (λ d e. HasNotCounted file_disk json d e old new none))

-- a change was refused: no disk was opened, or its files were not changed so
abbrev pub ChangesNot : {F : Type 0} → (F → Option (List ℕ))
    → (Form → Option ℕ → Files → Files → Type 0) → (Form → Files → Files → Type 0)
    → (Turn → ChangeRefusal → Type 0) → Bool → Bool → Type 0 → Type 0
ChangesNot remaining makes midst undone sync no_sync none = Refuses
    (IsRefusedOn remaining sync none (λ d e r.
    HasNotChanged file_disk makes undone (not no_sync) d e none r
    × StopsChange file_disk midst d e))

-- counts were not put right: no disk was opened, or they are wrong still
abbrev pub RecountsNot : {F : Type 0} → (F → Option (List ℕ)) → Bool → Bool → Type 0 → Type 0
RecountsNot remaining sync no_sync none = Refuses (IsRefusedOn remaining sync none (λ d e r.
    HasNotRecounted file_disk (not no_sync) d e none r × StopsRecount file_disk d e))

-- a file was not copied out, nor all below a directory
abbrev pub GetsNot : {F : Type 0} → (F → Option (List ℕ)) → Bool → List ℕ → Type 0 → Type 0
GetsNot remaining true path none = Refuses (IsUngotAll remaining path none)
GetsNot remaining false path none = Refuses (IsUngot remaining path none)

-- why a call at one path was not answered, for a cause of these
abbrev pub UndoneAt : List ℕ → (Files → ℕ → List ℕ → Refusal → Type 0) → Turn → ChangeRefusal
    → Type 0
UndoneAt path why t = OnTree (IsUndone t.disk path (IsUndoneIn why (names_of path)) t.was t.now)

-- a directory was not made, or not each of a path
abbrev pub MakesNot : {F : Type 0} → (F → Option (List ℕ)) → Bool → List ℕ → Bool → Bool → Type 0
    → Type 0
MakesNot remaining true path sync no_sync none = ChangesNot remaining
    (λ form. MakesDirectories path) (λ form. EntersSome (names_of path))
    (λ t. IsUnmadeAll t.disk path t.was t.now) sync no_sync none
MakesNot remaining false path sync no_sync none = ChangesNot remaining
    (λ form. MakesDirectory path) (λ form. AnyOf (MakesDirectoryAt (names_of path)))
    (UndoneAt path IsUnmadeDirectoryIn) sync no_sync none

-- a name was not removed, or not a directory with all below it
abbrev pub RemovesNot : {F : Type 0} → (F → Option (List ℕ)) → Bool → List ℕ → Bool → Bool
    → Type 0 → Type 0
RemovesNot remaining true path sync no_sync none = ChangesNot remaining
    (λ form. RemovesWhole path) (λ form. RemovesPart (names_of path))
    (λ t. IsUnremovedAll t.disk path t.was t.now) sync no_sync none
RemovesNot remaining false path sync no_sync none = ChangesNot remaining
    (λ form. Plainly (RemovesAt (names_of path))) (λ form. AnyOf (RemovesAt (names_of path)))
    (UndoneAt path IsUnremovedIn) sync no_sync none

-- A request was refused, for a reason of its command; `none` says that nothing was printed.
abbrev pub OnRefused : {F : Type 0} → (F → Option (List ℕ)) → Request → Option (List ℕ)
    → Option (List ℕ) → Type 0 → Type 0
OnRefused remaining (Ls image path json) old new none =
    LooksNot remaining (IsUnlisted path.now) none
OnRefused remaining (Stat image path json) old new none =
    LooksNot remaining (IsUnlisted path.now) none
OnRefused remaining (Tree image path json) old new none =
    LooksNot remaining (NotOfTree (HasNoPaths path.now)) none
OnRefused remaining (Cat image path) old new none = LooksNot remaining (IsUnshown path.now) none
OnRefused remaining (Get image path file all) old new none = GetsNot remaining all path.now none
OnRefused remaining (Put image file path sync no_sync) old new none =
    Refuses (IsUnput remaining path.now sync (not no_sync) none)
OnRefused remaining (PutFolder image folder path) old new none =
    Refuses (IsUnputFolder remaining path.now none)
OnRefused remaining (Rm image path all sync no_sync) old new none =
    RemovesNot remaining all path.now sync no_sync none
OnRefused remaining (Mv image from to sync no_sync) old new none = ChangesNot remaining
    (λ form. Plainly (RenamesAt (names_of from.now) (names_of to.now)))
    (λ form. AnyOf (RenamesAt (names_of from.now) (names_of to.now)))
    (λ t. OnTree (IsUndoneAtBoth t.disk from.now to.now
    (IsUndoneAt (names_of from.now) (names_of to.now)) t.was t.now)) sync no_sync none
OnRefused remaining (Cp image from to sync no_sync) old new none =
    Refuses (IsUncopiedFile remaining from.now to.now sync (not no_sync) none)
OnRefused remaining (Ln image path into sync no_sync) old new none = ChangesNot remaining
    (λ form. Plainly (LinksAt (names_of path.now) (names_of into.now)))
    (λ form. AnyOf (LinksAt (names_of path.now) (names_of into.now)))
    (λ t. OnTree (IsUndoneAtBoth t.disk path.now into.now
    (IsNotLinkedAt (names_of path.now) (names_of into.now)) t.was t.now)) sync no_sync none
OnRefused remaining (Mkdir image path parents sync no_sync) old new none =
    MakesNot remaining parents path.now sync no_sync none
OnRefused remaining (Rmdir image path sync no_sync) old new none = ChangesNot remaining
    (λ form. Plainly (RemovesDirectoryAt (names_of path.now)))
    (λ form. AnyOf (RemovesDirectoryAt (names_of path.now)))
    (UndoneAt path.now IsUnemptiedIn) sync no_sync none
OnRefused remaining (Check image json) old new none = CountsNot remaining json old new none
OnRefused remaining (Recount image sync no_sync) old new none =
    RecountsNot remaining sync no_sync none
OnRefused {F} remaining (Mkfs image size ninodes files no_sync) old new none =
    Refuses (IsNotMadeWith {F = F} file_disk (making_asked size ninodes no_sync)
    (map (λ file. file.now) files.items) none)

-- the commands of these lines were done, one after the other
abbrev pub DoesAll : {F : Type 0} → (F → Option (List ℕ)) → (F → Option (List ℕ))
    → List (List (List ℕ)) → Option (List ℕ) → Option (List ℕ) → Type 0
DoesAll remaining contents = AreDone (IsDoneOf xvnames_words (Answers remaining contents))

-- they were done up to one that was not
abbrev pub StopsAt : {F O : Type 0} → (F → Option (List ℕ)) → (F → Option (List ℕ))
    → (O → Option (List ℕ)) → List (List (List ℕ)) → O → O → Type 0
StopsAt remaining contents = StopsAmong (IsDoneOf xvnames_words (Answers remaining contents))
    (IsNotDone xvnames_words (IsRefusedOf xvnames_words (OnRefused remaining)))
