-- What a request is answered.
use Rattle.std.specs.Prelude.{◌⊎◌, ℕ, Bool, false, not, if◌then◌else◌, List, Option, unwrap_or}
use Rattle.std.specs.Io.KnownBytes.{Appends}
use Rattle.model.specs.declared.types.image.Form.{Form}
use Rattle.model.specs.declared.types.image.Form.TheVariants.{One, Two}
use Rattle.messages.specs.declared.told.Unwritten.{Unwritten}
use Rattle.xvfs_words.specs.CommandLine.{xvfs_words}
use Rattle.cli.specs.Topics.{AsksAbout, topic_text}
use Rattle.cli.specs.declared.topics.Topic.{Topic}
use Rattle.xvfs_words.specs.declared.words.Request.{Request}
use Rattle.xvfs_words.specs.declared.words.Request.TheVariants.{Mkfs, Check, Recover, Cat, Ls, Df, Show, ShowLog, ShowPicture, Put, Copy, Convert, Rescue, Replay, ReplayJson, Run, Stops}
use Rattle.cmd.specs.Batches.{AreDone, StopsAmong}
use Rattle.cmd.specs.Lemmas.Disks.{file_disk}
use Rattle.cmd.specs.Opened.{OpensDisk}
use Rattle.cmd.specs.Over.{IsRefusedOn}
use Rattle.inspect.specs.Causes.{IsHidden, IsUncounted, IsUndrawn, IsUnlisted}
use Rattle.inspect.specs.Looks.{HasCounted, HasListed, HasLogShown, HasShown as HasBlocksShown}
use Rattle.disk_commands.specs.Causes.{IsNotRecovered, IsUncheckedBy}
use Rattle.disk_commands.specs.Looks.{HasRecovered, HasReported}
use Rattle.commands_runs.specs.Cats.{HasCat, IsNotCat}
use Rattle.commands_runs.specs.Objects.{IsReplayedInObjects, IsUnreplayedInObjects}
use Rattle.commands_runs.specs.Pages.{IsNotReplayedInto, IsReplayedInto}
use Rattle.commands_runs.specs.Runs.{IsNotRun, IsRun}
use Rattle.commands_show.specs.Shown.{IsShownInto, IsUnshown}
use Rattle.commands_changes.specs.Conversions.{HasConverted, OnConvertRefusal}
use Rattle.commands_changes.specs.Copies.{HasCopied, OnCopyRefusal}
use Rattle.commands_changes.specs.Making.{IsMade, IsNotMade}
use Rattle.commands_changes.specs.Rescues.{HasRescued, OnRescueRefusal}
use Rattle.commands_changes.specs.Puts.{HasPut, OnPutRefusal}
use Rattle.commands.specs.Words.{IsDoneOf, IsNotDone, IsRefusedOf}
use Rattle.xvfs.specs.Files.{FileGhosts}
use Rattle.commands_stops.specs.StopsDrawn.{ChecksInto, IsUncheckedInto}

-- the form of the image that is made
abbrev pub form_asked : Bool → Form
form_asked large = if large then Two else One

-- A request was done, and its answer printed, which is that of the disk that was created in a file,
-- or opened from one.
abbrev pub Answers : {F N : Type 0} → FileGhosts F N → Request → Option (List ℕ)
    → Option (List ℕ) → Type 0
Answers file (Mkfs image size ninodes large no_sync) old new =
    IsMade file.disk (form_asked large) size ninodes (not no_sync) old new
Answers file (Check image all json) old new =
    OpensDisk file.remaining file_disk false (λ d e. HasReported file_disk json all d e old new)
Answers file (Recover image sync json) old new =
    OpensDisk file.remaining file_disk sync (λ d e. HasRecovered file_disk json d e old new)
Answers file (Cat image inum read_only) old new =
    HasCat file.remaining read_only inum old new
Answers file (Ls image json) old new =
    OpensDisk file.remaining file_disk false (λ d e. HasListed file_disk json d e old new)
Answers file (Df image json) old new =
    OpensDisk file.remaining file_disk false (λ d e. HasCounted file_disk json d e old new)
Answers file (Show image inum json) old new =
    OpensDisk file.remaining file_disk false (λ d e. HasBlocksShown file_disk json inum d e old new)
Answers file (ShowLog image json) old new =
    OpensDisk file.remaining file_disk false (λ d e. HasLogShown file_disk json d e old new)
Answers file (ShowPicture image picture) old new =
    IsShownInto file.remaining file.contents old new
Answers file (Put image path inum sync no_sync) old new =
    HasPut file.remaining inum sync (not no_sync) old new
Answers file (Copy from to size no_sync) old new =
    HasCopied file.remaining file_disk size (not no_sync) old new
Answers file (Convert from to log size no_sync) old new =
    HasConverted file.remaining file_disk log size (not no_sync) old new
Answers file (Rescue from to no_sync) old new =
    HasRescued file.remaining file_disk (not no_sync) old new
Answers file (Replay image script schedule stop sync writes steps picture plain) old new =
    OpensDisk file.remaining file_disk sync (IsReplayedInto file.contents sync
    (record { steps = steps; writes = writes }) (unwrap_or stop 0) old new picture plain)
Answers file (ReplayJson image script schedule stop sync) old new =
    OpensDisk file.remaining file_disk sync
    (IsReplayedInObjects sync (unwrap_or stop 0) old new)
Answers file (Run image script workers group sync) old new =
    OpensDisk file.remaining file_disk sync (IsRun old new)
Answers file (Stops script schedule held picture plain json) old new =
    ChecksInto file.contents json held plain old new picture

-- a command was refused, for some reason of its own
abbrev pub Refuses : {R : Type 0} → (R → Type 0) → Type 0
Refuses {R} why = (r : R) × why r

-- a request was refused, for a reason of its command, and what was printed; `none` says that nothing
-- was
abbrev pub OnRefused : {F N : Type 0} → FileGhosts F N → Request → Option (List ℕ)
    → Option (List ℕ) → Type 0 → Type 0
OnRefused file (Mkfs image size ninodes large no_sync) old new none =
    Refuses (IsNotMade size ninodes none)
OnRefused file (Check image all json) old new none = Refuses
    (IsRefusedOn file.remaining false none
    (λ d e. IsUncheckedBy file_disk json all d e old new none))
OnRefused file (Recover image sync json) old new none =
    Refuses (IsRefusedOn file.remaining sync none (λ d e. IsNotRecovered file_disk d e none))
OnRefused file (Cat image inum read_only) old new none =
    Refuses (IsNotCat file.remaining read_only inum none)
OnRefused file (Ls image json) old new none =
    Refuses (IsRefusedOn file.remaining false none (λ d e. IsUnlisted file_disk d e none))
OnRefused file (Df image json) old new none =
    Refuses (IsRefusedOn file.remaining false none (λ d e. IsUncounted file_disk d e none))
OnRefused file (Show image inum json) old new none =
    Refuses (IsRefusedOn file.remaining false none (λ d e. IsHidden file_disk inum d e none))
OnRefused file (ShowLog image json) old new none =
    Refuses (IsRefusedOn file.remaining false none (λ d e. IsUndrawn file_disk d e none))
OnRefused file (ShowPicture image picture) old new none =
    Refuses (IsUnshown file.remaining old new none)
OnRefused file (Put image path inum sync no_sync) old new none =
    Refuses (OnPutRefusal file.remaining inum sync (not no_sync) none)
OnRefused file (Copy from to size no_sync) old new none =
    Refuses (OnCopyRefusal file.remaining file_disk size (not no_sync) none)
OnRefused file (Convert from to log size no_sync) old new none =
    Refuses (OnConvertRefusal file.remaining file_disk log size (not no_sync) none)
OnRefused file (Rescue from to no_sync) old new none =
    Refuses (OnRescueRefusal file.remaining file_disk (not no_sync) none)
OnRefused file (Replay image script schedule stop sync writes steps picture plain) old new none =
    Refuses (IsNotReplayedInto file.remaining sync (record { steps = steps; writes = writes })
    (unwrap_or stop 0) plain old new none)
OnRefused file (ReplayJson image script schedule stop sync) old new none =
    Refuses (IsUnreplayedInObjects file.remaining sync (unwrap_or stop 0) old new none)
OnRefused file (Run image script workers group sync) old new none =
    Refuses (IsNotRun file.remaining sync old new none)
OnRefused file (Stops script schedule held picture plain json) old new none =
    Refuses (IsUncheckedInto file.contents json held plain old new none picture)

-- the words ask help for a format, and its lines were printed
abbrev pub HasTold : List (List ℕ) → Option (List ℕ) → Option (List ℕ) → Type 0
HasTold words old new = (topic : Topic) × AsksAbout words topic × Appends old new (topic_text topic)

-- A request of the words was done and answered; or they ask for a format, and it was told, or for help
-- in whose place clap's text is printed.
abbrev pub IsDone : {F N : Type 0} → FileGhosts F N → List (List ℕ) → Option (List ℕ)
    → Option (List ℕ) → Type 0
IsDone file words old new = IsDoneOf xvfs_words (Answers file) words old new ⊎ HasTold words old new

-- a request of the words was refused; or help or a format was asked for, and the output refused its
-- text
abbrev pub IsRefused : {F N : Type 0} → FileGhosts F N → List (List ℕ) → Option (List ℕ)
    → Option (List ℕ) → Type 0 → Type 0
IsRefused file words old new none = IsRefusedOf xvfs_words (OnRefused file) words old new none
    ⊎ ((r : Unwritten) × ((topic : Topic) × AsksAbout words topic))

-- the commands of these lines were done, one after the other
abbrev pub DoesAll : {F N : Type 0} → FileGhosts F N → List (List (List ℕ)) → Option (List ℕ)
    → Option (List ℕ) → Type 0
DoesAll file = AreDone (IsDone file)

-- they were done up to one that was not
abbrev pub StopsAt : {F N O : Type 0} → FileGhosts F N → (O → Option (List ℕ))
    → List (List (List ℕ)) → O → O → Type 0
StopsAt file = StopsAmong (IsDone file) (IsNotDone xvfs_words (IsRefused file))
