-- What is known of an older image before its blocks are moved.
use Rattle.std.specs.Prelude.{◌≡◌, ◌≢◌, ℕ, ◌<◌, ◌≤◌, ◌||◌, Bool, false, true, List, length, slice_index_or, Option, None}
use Rattle.std.specs.List.{list_any}
use Rattle.blocks.specs.Disk.{Image, Rose, block_at}
use Rattle.model.specs.Layout.{magic_at, magic_of, super_of}
use Rattle.model.specs.declared.types.image.Dinode.{Dinode}
use Rattle.model.specs.declared.types.image.Form.TheVariants.{One}
use Rattle.model.specs.declared.types.image.Super.{Super}
use Rattle.conversion.specs.Converted.{chosen_size, conversion_fault}
use Rattle.conversion.specs.Moving.{goal_in, is_node, is_node_in, moved_marks}
use Rattle.conversion.specs.Older.{behind_log, bitmap_behind, fewest_log_blocks, is_older_super, meta_with, older_inode}
use Rattle.model.specs.Format.{log_blocks, most_blocks, most_inodes}
use Rattle.conversion.specs.declared.fault.ConversionFault.{ConversionFault}
use Rattle.conversion.specs.declared.fault.ConversionFault.TheVariants.{BadGeometry, BadMagic, Disk}
use Rattle.conversion.specs.declared.plan.Plan.{Plan}
use Rattle.conversion.specs.declared.prepared.Prepared.{Prepared}

-- the superblock of an image of the first form, whatever the length of its log
pub record IsOlder (x : Image) (s : Super) : Type 0 where
  pub magic : magic_at x ≡ magic_of One
  pub same : s ≡ super_of x
  pub lawful : is_older_super (super_of x) (length x) ≡ true

-- why there is none
abbrev pub IsNotOlder : Image → ℕ → ℕ → ConversionFault → Type 0
IsNotOlder x was is BadMagic = (magic_at x ≢ magic_of One) × (is ≡ was)
IsNotOlder x was is BadGeometry =
    (magic_at x ≡ magic_of One) × (is_older_super (super_of x) (length x) ≡ false) × (is ≡ was)
IsNotOlder x was is (Disk b) = (b < length x) × Rose was is
IsNotOlder x was is fault = ⊥

-- a plan of what is moved: the superblock of the old image, and the new size and log
pub record IsPlanned (x : Image) (plan : Plan) : Type 0 where
  pub sup : plan.sup ≡ super_of x
  pub size : plan.sup.size ≡ length x
  pub some : 2 ≤ plan.sup.ninodes
  pub few : plan.sup.ninodes ≤ most_inodes
  pub from_least : fewest_log_blocks ≤ plan.sup.nlog
  pub from_most : plan.sup.nlog ≤ log_blocks
  pub to_least : fewest_log_blocks ≤ plan.to
  pub to_most : plan.to ≤ log_blocks
  pub room : meta_with plan.sup.nlog plan.sup.size plan.sup.ninodes < plan.sup.size
  pub inodes : plan.sup.inodestart ≡ behind_log plan.sup.nlog
  pub bitmap : plan.sup.bmapstart ≡ bitmap_behind plan.sup.nlog plan.sup.ninodes
  pub least : goal_in plan.sup plan.to plan.sup.size ≤ plan.size
  pub most : plan.size ≤ most_blocks
  pub small : plan.sup.size ≤ most_blocks

-- the plan for a log of `to` blocks and the size that is asked for
pub record IsPlanOf (x : Image) (to : ℕ) (asked : Option ℕ) (plan : Plan) : Type 0 where
  pub none : conversion_fault x to asked ≡ None
  pub planned : IsPlanned x plan
  pub log : plan.to ≡ to
  pub chosen : plan.size ≡ chosen_size x to asked

-- of each block it is known whether it is the block of addresses of one of these numbers
pub record AreNoted (x : Image) (numbers : List ℕ) (nodes : List Bool) : Type 0 where
  pub long : length nodes ≡ length x
  pub each : (b : ℕ) → b < length x →
      slice_index_or nodes b false ≡ list_any (λ i. is_node_in (older_inode x i) b) numbers

-- the block of addresses of an inode joined the others
pub record NotesNode (d : Dinode) (old new : List Bool) : Type 0 where
  pub long : length new ≡ length old
  pub each : (b : ℕ) → b < length old →
      slice_index_or new b false ≡ (slice_index_or old b false || is_node_in d b)

-- the plan, with the new bitmap and with which blocks are blocks of addresses
pub record IsPrepared (x : Image) (prepared : Prepared) : Type 0 where
  pub planned : IsPlanned x prepared.plan
  pub marks : prepared.marks ≡ moved_marks prepared.plan.sup
      (block_at x (super_of x).bmapstart) prepared.plan.to prepared.plan.size
  pub nodes : (b : ℕ) → b < length x →
      slice_index_or prepared.nodes.items b false ≡ is_node x b
  pub long : length prepared.nodes.items ≡ length x
