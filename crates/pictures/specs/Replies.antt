-- What a process was answered, in a few words.
use Rattle.std.specs.Prelude.{ℕ, List, ◌++◌, length, codes, decimal}
use Rattle.model.specs.declared.types.operations.Reply.{Reply}
use Rattle.model.specs.declared.types.operations.Reply.TheVariants as reply
use Rattle.pictures.specs.declared.replies.Gist.{Gist}

-- a reply without its bytes
abbrev pub gist_of : Reply → Gist
gist_of (reply.Made n) = Gist.Made n
gist_of reply.NoInode = Gist.NoInode
gist_of (reply.Wrote k) = Gist.Wrote k
gist_of (reply.Bytes bytes) = Gist.Read (length bytes)
gist_of reply.Done = Gist.Done
gist_of (reply.StatOf kind links size) = Gist.Told
gist_of reply.NoFile = Gist.Refused
gist_of reply.BadOffset = Gist.Refused
gist_of reply.TooBig = Gist.Refused
gist_of reply.TooLong = Gist.Refused
gist_of reply.BadType = Gist.Refused

abbrev pub reply_words : Gist → List ℕ
reply_words (Gist.Made n) = codes "made " ++ decimal n
reply_words Gist.NoInode = codes "no inode"
reply_words (Gist.Wrote k) = codes "wrote " ++ decimal k
reply_words (Gist.Read k) = codes "read " ++ decimal k
reply_words Gist.Done = codes "done"
reply_words Gist.Told = codes "told"
reply_words Gist.Refused = codes "refused"
