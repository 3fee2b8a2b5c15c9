-- How many workers words ask for.
use Rattle.std.specs.Prelude.{ℕ, List, Option, Some, None}
use Rattle.clap.specs.Words.{Row, subcommand_of}
use Rattle.cli.specs.Asking.{AskFor, Asks}
use Rattle.xvfs_words.specs.CommandLine.{AsksBy, HasFewWorkers, xvfs_app, xvfs_words}
use Rattle.xvfs_words.specs.declared.words.Request.{Request}
use Rattle.xvfs_words.specs.declared.words.Request.TheVariants.{Mkfs, Check, Recover, Cat, Ls, Df, Show, ShowLog, ShowPicture, Put, Copy, Convert, Rescue, Replay, ReplayJson, Run, Stops}

few_by : (name : List ℕ) (rows : List Row) (request : Request) → AsksBy name rows request → HasFewWorkers request
few_by name rows (Mkfs image size ninodes large no_sync) asks = tt
few_by name rows (Check image all json) asks = tt
few_by name rows (Recover image sync json) asks = tt
few_by name rows (Cat image inum read_only) asks = tt
few_by name rows (Ls image json) asks = tt
few_by name rows (Df image json) asks = tt
few_by name rows (Show image inum json) asks = tt
few_by name rows (ShowLog image json) asks = tt
few_by name rows (ShowPicture image picture) asks = tt
few_by name rows (Put image file inum sync no_sync) asks = tt
few_by name rows (Copy old new size no_sync) asks = tt
few_by name rows (Convert old new log size no_sync) asks = tt
few_by name rows (Rescue old new no_sync) asks = tt
few_by name rows (Replay image script schedule stop sync writes steps picture plain) asks = tt
few_by name rows (ReplayJson image script schedule stop sync) asks = tt
few_by name rows (Run image script workers group sync) asks = (asks.3.0, asks.3.1)
few_by name rows (Stops script schedule held picture plain json) asks = tt

few_of : (command : Option (List ℕ × List Row)) (request : Request) → Asks xvfs_words command request → HasFewWorkers request
few_of None request asks = absurd asks
few_of (Some command) request asks = few_by command.0 command.1 request asks

-- what words ask for has few workers
pub few_workers : (words : List (List ℕ)) (request : Request) → AskFor xvfs_words words request → HasFewWorkers request
few_workers words request asks = few_of (subcommand_of xvfs_app words) request asks.asks
