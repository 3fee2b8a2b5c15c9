use Rattle.std.proofs.Common.{length}
use Rattle.xvfs.proofs.colouring.+are_silent.Given as goal

-- the words that are left
abbrev pub decreases-are_silent : goal.decreases-are_silent
decreases-are_silent g l = length l.words.now
