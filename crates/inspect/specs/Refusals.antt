-- How the refusals of the commands are told.
use Rattle.std.specs.Prelude.{codes}
use Rattle.messages.specs.Telling.{Telling, check_telling, plain, unwritten}
use Rattle.inspect.specs.declared.refused.DfRefusal.{DfRefusal}
use Rattle.inspect.specs.declared.refused.DfRefusal.TheVariants as df
use Rattle.inspect.specs.declared.refused.LsRefusal.{LsRefusal}
use Rattle.inspect.specs.declared.refused.LsRefusal.TheVariants as ls
use Rattle.inspect.specs.declared.refused.ShowRefusal.{ShowRefusal}
use Rattle.inspect.specs.declared.refused.ShowRefusal.TheVariants as show

abbrev pub ls_telling : LsRefusal → Telling
ls_telling (ls.Check fault) = check_telling fault
ls_telling ls.NoMemory = plain (codes "ls") 1 (codes "NoMemory")
ls_telling ls.Output = unwritten

abbrev pub show_telling : ShowRefusal → Telling
show_telling (show.Check fault) = check_telling fault
show_telling show.NoFile = plain (codes "show") 1 (codes "NoFile")
show_telling show.NoMemory = plain (codes "show") 2 (codes "NoMemory")
show_telling show.Output = unwritten

abbrev pub df_telling : DfRefusal → Telling
df_telling (df.Check fault) = check_telling fault
df_telling df.NoMemory = plain (codes "df") 1 (codes "NoMemory")
df_telling df.Output = unwritten
