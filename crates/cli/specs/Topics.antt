-- What help tells of besides commands.
use Rattle.std.specs.Prelude.{◌≡◌, ℕ, List, [], ◌∷◌, ◌++◌, codes, map}
use Rattle.std.specs.List.{flat_map}
use Rattle.cli.specs.declared.topics.Topic.{Topic}
use Rattle.cli.specs.declared.topics.Topic.TheVariants.{Script, Schedule, Refusals, Status, Image}
use Rattle.cli.specs.declared.texts.TheConstants.{SCRIPT, SCHEDULE, REFUSALS, STATUS, IMAGE}

-- the word by which a topic is asked for
abbrev pub name_of : Topic → List ℕ
name_of Script = codes "script"
name_of Schedule = codes "schedule"
name_of Refusals = codes "refusals"
name_of Status = codes "status"
name_of Image = codes "image"

-- the words ask help to tell of a topic
abbrev pub AsksAbout : List (List ℕ) → Topic → Type 0
AsksAbout words topic = words ≡ codes "help" ∷ name_of topic ∷ []

-- they ask for none
abbrev pub AsksAboutNone : List (List ℕ) → Type 0
AsksAboutNone words = (topic : Topic) → ¬ (AsksAbout words topic)

-- the lines of a topic
abbrev pub lines_of : Topic → List (List ℕ)
lines_of Script = map (λ line. line.now) SCRIPT.now
lines_of Schedule = map (λ line. line.now) SCHEDULE.now
lines_of Refusals = map (λ line. line.now) REFUSALS.now
lines_of Status = map (λ line. line.now) STATUS.now
lines_of Image = map (λ line. line.now) IMAGE.now

-- what is printed of one
abbrev pub topic_text : Topic → List ℕ
topic_text topic = flat_map (λ line. line ++ codes "\n") (lines_of topic)
