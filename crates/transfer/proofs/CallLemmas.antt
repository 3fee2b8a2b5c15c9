-- What calls one after the other come to.
use Rattle.std.proofs.Common.{◌≡◌, ◌∙◌, ℕ, ◌<◌, Bool, true, false, List, [], length, take, Option, Some, refl, sym, ap, subst, inl, inr}
use Rattle.blocks.specs.Disk.{Image, Rose}
use Rattle.blocks.specs.declared.disk.Disk.{Ghosts}
use Rattle.model.specs.Files.{Files, files_of}
use Rattle.model.specs.Soundness.{IsSound}
use Rattle.calls.specs.Answered.{IsCommitted}
use Rattle.calls.specs.Files.{files_on}
use Rattle.wal.specs.declared.types.DeviceFault.{DeviceFault}
use Rattle.calls.specs.Calls.{HasFailed, IsWhole, faults_on, image_on}
use Rattle.calls.specs.Lemmas.Unshown.{unshown_none, unshown_then}
use Rattle.calls.specs.Pairing.{IsUnmade}
use Rattle.calls.specs.Stepping.{Plain}
use Rattle.calls.specs.Transactions.{Rests}
use Rattle.calls.specs.Unshown.{KeepsUnshown, LosesNone}
use Rattle.calls.specs.declared.transactions.fault.TransactionFault.{TransactionFault}
use Rattle.calls.specs.declared.transactions.fault.TransactionFault.TheVariants as fault
use Rattle.transfer.specs.Places.{IsPlace, MayPut, PutsAll, put_at}
use Rattle.transfer.specs.PutWriting.{AreAnswered, IsCutOff, MayCall, Puts, PutsPart}
use Rattle.transfer.proofs.PlaceLemmas.{put_at_again}

pub whole_then : (x y z : Image) → IsWhole x y → IsWhole y z → IsWhole x z
whole_then x y z first second = record {
  sound = second.sound;
  size = second.size ∙ first.size;
  super = second.super ∙ first.super;
}

whole_same : (x y : Image) → IsSound x → y ≡ x → IsWhole x y
whole_same x y sound same = subst (λ (z : Image). IsWhole x z) (sym same) (record { sound = sound; size = refl; super = refl })

-- image y is as long as image x, and has of it what no file shows, and its files
pub record Leads (x y : Image) : Type 0 where
  pub size : length y ≡ length x
  pub unshown : KeepsUnshown x y
  pub none_lost : LosesNone (files_of x) (files_of y)

pub leads_none : (x : Image) → Leads x x
leads_none x = record { size = refl; unshown = unshown_none x; none_lost = λ i there. there }

pub leads_on : (x y z : Image) → Leads x y → KeepsUnshown y z → KeepsUnshown x z
leads_on x y z leads second = unshown_then x y z leads.size leads.none_lost leads.unshown second

module _ {D N : Type 0} (disk : Ghosts D N) where
  pub leads_answered : (k l : Plain D) → AreAnswered disk k l → Leads (image_on disk.image k) (image_on disk.image l)
  leads_answered k l before = record { size = before.whole.size; unshown = before.unshown; none_lost = before.none_lost }

  unshown_behind : (k l : Plain D) (z : Image) → AreAnswered disk k l → KeepsUnshown (image_on disk.image l) z → KeepsUnshown (image_on disk.image k) z
  unshown_behind k l z before = leads_on (image_on disk.image k) (image_on disk.image l) z (leads_answered k l before)

  pub answered_none : {most : ℕ} (k : Plain D) → MayCall disk most k → AreAnswered disk k k
  answered_none k ready = record {
    rests = ready.rests;
    whole = record { sound = ready.sound; size = refl; super = refl };
    unshown = unshown_none (image_on disk.image k);
    none_lost = λ i there. there;
    form = refl;
    opening = refl;
  }

  -- a transaction more
  pub answered_then : {most : ℕ} (k l m : Plain D) → AreAnswered disk k l → IsCommitted disk most l m → m.opening ≡ l.opening → LosesNone (files_on disk.image k) (files_on disk.image m) → AreAnswered disk k m
  answered_then k l m before call opening none_lost = record {
    rests = call.rests;
    whole = whole_then (image_on disk.image k) (image_on disk.image l) (image_on disk.image m) before.whole call.whole;
    unshown = unshown_behind k l (image_on disk.image m) before call.unshown;
    none_lost = none_lost;
    form = call.form ∙ before.form;
    opening = opening ∙ before.opening;
  }

  pub answered_both : (k l m : Plain D) → AreAnswered disk k l → AreAnswered disk l m → AreAnswered disk k m
  answered_both k l m before calls = record {
    rests = calls.rests;
    whole = whole_then (image_on disk.image k) (image_on disk.image l) (image_on disk.image m) before.whole calls.whole;
    unshown = unshown_behind k l (image_on disk.image m) before calls.unshown;
    none_lost = λ i there. calls.none_lost i (before.none_lost i there);
    form = calls.form ∙ before.form;
    opening = calls.opening ∙ before.opening;
  }

  -- no call failed
  pub faults_same : (k l : Plain D) → Rests disk.fault_count k → AreAnswered disk k l → disk.fault_count l.store.volume.device ≡ disk.fault_count k.store.volume.device
  faults_same k l rests before =
      before.rests.pair.faultless ∙ ap disk.fault_count before.opening ∙ sym rests.pair.faultless

  -- ---- a call that is not answered

  pub failed_after : (k l e : Plain D) (cause : DeviceFault) → Rests disk.fault_count k → AreAnswered disk k l → HasFailed disk l e cause → HasFailed disk k e cause
  failed_after k l e cause rests before why = record {
    is = why.is;
    rose = subst (λ (n : ℕ). Rose n (faults_on disk.fault_count e)) (faults_same k l rests before) why.rose;
  }

  cut_memory : (inum : Option ℕ) (bytes : List ℕ) (k l e : Plain D) → Rests disk.fault_count k → AreAnswered disk k l →
      MayPut (files_on disk.image k) inum bytes (files_on disk.image l) → IsUnmade disk l e fault.NoMemory →
      IsCutOff disk inum bytes k e fault.NoMemory
  cut_memory inum bytes k l e rests before files why =
      let same : image_on disk.image e ≡ image_on disk.image l = why.0 in (
        why.1 ∙ faults_same k l rests before,
        record {
          whole = whole_then (image_on disk.image k) (image_on disk.image l) (image_on disk.image e) before.whole (whole_same (image_on disk.image l) (image_on disk.image e) before.whole.sound same);
          unshown = subst (KeepsUnshown (image_on disk.image k)) (sym same) before.unshown;
          files = subst (λ (y : Image). MayPut (files_on disk.image k) inum bytes (files_of y)) (sym same) files;
        },
      )

  pub cut_after : (inum : Option ℕ) (bytes : List ℕ) (k l e : Plain D) (cause : TransactionFault) → Rests disk.fault_count k → AreAnswered disk k l →
      MayPut (files_on disk.image k) inum bytes (files_on disk.image l) → IsUnmade disk l e cause →
      IsCutOff disk inum bytes k e cause
  cut_after inum bytes k l e (fault.Disk cause) rests before files why = failed_after k l e cause rests before why
  cut_after inum bytes k l e fault.NoMemory rests before files why = cut_memory inum bytes k l e rests before files why
  cut_after inum bytes k l e fault.NoRoom rests before files why = absurd why

  -- ---- behind the call that made the file, or emptied it

  pub record Begins (inum : Option ℕ) (k l : Plain D) (i : ℕ) : Type 0 where
    pub below : i < length (files_on disk.image k)
    pub place : IsPlace (files_on disk.image k) inum i
    pub files : files_on disk.image l ≡ put_at (files_on disk.image k) i []

  module _ {inum : Option ℕ} {k l : Plain D} {i : ℕ} (begins : Begins inum k l i) (bytes : List ℕ) where
    -- what was put behind it
    put_behind : (more : List ℕ) (new : Files) → new ≡ put_at (files_on disk.image l) i more → new ≡ put_at (files_on disk.image k) i more
    put_behind more new is =
        is ∙ ap (λ (files : Files). put_at files i more) begins.files ∙ put_at_again (files_on disk.image k) i [] more begins.below

    pub all_behind : (new : Files) → new ≡ put_at (files_on disk.image l) i bytes → PutsAll (files_on disk.image k) inum bytes new i
    all_behind new is = record { place = begins.place; files = put_behind bytes new is }

    pub part_behind : (y : Image) → PutsPart i bytes (image_on disk.image l) y → PutsPart i bytes (image_on disk.image k) y
    part_behind y part = record {
      count = part.count;
      fewer = part.fewer;
      files = put_behind (take part.count bytes) (files_of y) part.files;
      full = part.full;
    }

    pub puts_behind : (y : Image) (all : Bool) → Puts all i bytes (image_on disk.image l) y → Puts all i bytes (image_on disk.image k) y
    puts_behind y true puts = put_behind bytes (files_of y) puts
    puts_behind y false part = part_behind y part

    first_behind : (new : Files) → MayPut (files_on disk.image l) (Some i) bytes new → MayPut (files_on disk.image k) inum bytes new
    first_behind new (inl same) = inr (record { number = i; place = begins.place; count = 0; files = same ∙ begins.files })
    first_behind new (inr first) = inr (record {
      number = i;
      place = begins.place;
      count = first.count;
      files = put_behind (take first.count bytes) new
          (first.files ∙ ap (λ (n : ℕ). put_at (files_on disk.image l) n (take first.count bytes)) first.place.0);
    })

    pub part_first : (y : Image) → PutsPart i bytes (image_on disk.image k) y → MayPut (files_on disk.image k) inum bytes (files_of y)
    part_first y part = inr (record { number = i; place = begins.place; count = part.count; files = part.files })

    pub cut_behind : (e : Plain D) (cause : TransactionFault) → Rests disk.fault_count k → AreAnswered disk k l → IsCutOff disk (Some i) bytes l e cause →
        IsCutOff disk inum bytes k e cause
    cut_behind e (fault.Disk cause) rests before why = failed_after k l e cause rests before why
    cut_behind e fault.NoMemory rests before why = (
      why.0 ∙ faults_same k l rests before,
      record {
        whole = whole_then (image_on disk.image k) (image_on disk.image l) (image_on disk.image e) before.whole why.1.whole;
        unshown = unshown_behind k l (image_on disk.image e) before why.1.unshown;
        files = first_behind (files_of (image_on disk.image e)) why.1.files;
      },
    )
    cut_behind e fault.NoRoom rests before why = absurd why
