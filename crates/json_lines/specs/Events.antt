-- The object of what a turn came to.
use Rattle.std.specs.Prelude.{ℕ, List, ◌++◌, codes}
use Rattle.messages.specs.declared.events.Event.{Event}
use Rattle.messages.specs.declared.events.Event.TheVariants.{Stepped, Answered, Shut, Stopped}
use Rattle.model.specs.declared.types.operations.Answer.{Answer}
use Rattle.model.specs.declared.types.operations.Reply.{Reply}
use Rattle.model.specs.declared.types.operations.Reply.TheVariants.{Made, NoInode, Wrote, Bytes, Done, StatOf, NoFile, BadOffset, TooBig, TooLong, BadType}
use Rattle.model.specs.declared.types.operations.Step.{Step}
use Rattle.json_lines.specs.Fields.{bytes_field, number_field, word_field}
use Rattle.json_lines.specs.Steps.{came_fields}

-- ---- a reply: its kind, and its values

abbrev pub reply_field : List ℕ → List ℕ
reply_field kind = word_field (codes "reply") kind

unfoldable pub stat_fields : ℕ → ℕ → ℕ → List ℕ
stat_fields kind links size =
    reply_field (codes "stat") ++ number_field (codes "type") kind
    ++ number_field (codes "links") links ++ number_field (codes "size") size

-- why an operation was refused
abbrev pub refused_fields : List ℕ → List ℕ
refused_fields why = reply_field (codes "refused") ++ word_field (codes "why") why

abbrev pub reply_fields : Reply → List ℕ
reply_fields (Made inode) = reply_field (codes "made") ++ number_field (codes "inode") inode
reply_fields NoInode = reply_field (codes "noinode")
reply_fields (Wrote count) = reply_field (codes "wrote") ++ number_field (codes "count") count
reply_fields (Bytes bytes) = reply_field (codes "bytes") ++ bytes_field bytes
reply_fields Done = reply_field (codes "done")
reply_fields (StatOf kind links size) = stat_fields kind links size
reply_fields NoFile = refused_fields (codes "NoFile")
reply_fields BadOffset = refused_fields (codes "BadOffset")
reply_fields TooBig = refused_fields (codes "TooBig")
reply_fields TooLong = refused_fields (codes "TooLong")
reply_fields BadType = refused_fields (codes "BadType")

-- ---- what a turn came to

-- the beginning of an object, with the kind of event
unfoldable pub opening_text : List ℕ → List ℕ
opening_text kind = codes "{\"event\":\"" ++ kind ++ codes "\""

-- the last step of a process came to this
unfoldable pub stepped_text : ℕ → Step → List ℕ
stepped_text p s =
    opening_text (codes "stepped") ++ number_field (codes "process") p ++ came_fields s

-- an operation of a process was answered: its number among those of the process, its group, the reply
unfoldable pub answered_text : ℕ → Answer → List ℕ
answered_text p a =
    opening_text (codes "answered") ++ number_field (codes "process") p
    ++ number_field (codes "operation") a.seq ++ number_field (codes "group") a.group
    ++ reply_fields a.reply

unfoldable pub stopped_text : ℕ → List ℕ
stopped_text n = opening_text (codes "stopped") ++ number_field (codes "write") n

abbrev pub event_text : Event → List ℕ
event_text (Stepped p s) = stepped_text p s
event_text (Answered p a) = answered_text p a
event_text Shut = opening_text (codes "shut")
event_text (Stopped n) = stopped_text n

-- THE OBJECT OF AN EVENT, with its line feed
unfoldable pub event_object : Event → List ℕ
event_object event = event_text event ++ codes "}\n"
