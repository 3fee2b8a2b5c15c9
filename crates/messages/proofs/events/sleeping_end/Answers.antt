use Rattle.std.proofs.Common.{refl}
use Rattle.std.specs.Fmt.{digits}
use Rattle.messages.proofs.events.sleeping_end.Goals as goal

pub returns-in-Committing : goal.returns-in-Committing
unfolding digits
returns-in-Committing c = rw c.in-Committing.is refl

pub returns-in-LogFull : goal.returns-in-LogFull
unfolding digits
returns-in-LogFull c = rw c.in-LogFull.is refl

pub returns-in-InodeHeld : goal.returns-in-InodeHeld
unfolding digits
returns-in-InodeHeld c = rw c.in-InodeHeld.is refl

pub returns-in-BufferHeld : goal.returns-in-BufferHeld
unfolding digits
returns-in-BufferHeld c = rw c.in-BufferHeld.is refl

pub returns-in-NoBuffer : goal.returns-in-NoBuffer
unfolding digits
returns-in-NoBuffer c = rw c.in-NoBuffer.is refl

pub returns-in-AnswersFull : goal.returns-in-AnswersFull
unfolding digits
returns-in-AnswersFull c = rw c.in-AnswersFull.is refl
