-- An image that keeps its files, or all of the bytes that are put, keeps what a put may leave.
use Rattle.std.proofs.Common.{◌∙◌, ℕ, ◌<◌, Bool, true, false, List, length, Option, Some, None, refl, sym, ap, subst, inl, inr, ⊎_elim}
use Rattle.blocks.specs.Disk.{Image}
use Rattle.model.specs.Files.{Files, file_in, files_of}
use Rattle.model.specs.Lemmas.FileNumbers.{below_there}
use Rattle.model.specs.Log.{recovered}
use Rattle.model.specs.Soundness.{IsSound}
use Rattle.model.specs.declared.types.image.File.{File}
use Rattle.calls.specs.Lemmas.Unshown.{unshown_none}
use Rattle.transfer.specs.Needs.{has_room_twice}
use Rattle.transfer.specs.Places.{MayPut, PutsAll, put_file}
use Rattle.transfer.specs.PutWriting.{KeepsSomeOf}
use Rattle.transfer.specs.Rounds.{Goes, HasBytes, IsNeverNeither}
use Rattle.transfer.specs.Stopped.{KeepsPutOf}
use Rattle.transfer.specs.Whole.{KeepsWhole}
use Rattle.transfer.proofs.PlaceLemmas.{file_put}
use Rattle.transfer.proofs.RoundLemmas.{never_same, stops_same}

-- ---- nothing was put

goes_same : (inum : Option ℕ) (twice : Bool) (x : Image) (bytes : List ℕ) → Goes inum twice (λ w place. MayPut (files_of w) place bytes (files_of x)) x bytes
goes_same None twice x bytes = inl refl
goes_same (Some inum) false x bytes = inl refl
goes_same (Some inum) true x bytes = inl (inl refl)

pub keeps_same : (x : Image) (inum : Option ℕ) (bytes : List ℕ) → IsSound x → KeepsSomeOf x inum bytes x
keeps_same x inum bytes sound = record {
  whole = record { sound = sound; size = refl; super = refl };
  unshown = unshown_none x;
  files = goes_same inum (has_room_twice x inum (length bytes)) x bytes;
}

-- ---- or all of the bytes

put_bytes : (o : Option File) (bytes : List ℕ) → HasBytes (put_file o bytes) bytes
put_bytes None bytes = refl
put_bytes (Some file) bytes = refl

-- the new bytes are there
never_all : (inum : Option ℕ) (twice : Bool) (old : Files) (bytes : List ℕ) (new : Files) (i : ℕ) → PutsAll old inum bytes new i → IsNeverNeither inum twice old bytes new
never_all None twice old bytes new i puts = tt
never_all (Some inum) false old bytes new i puts = tt
never_all (Some inum) true old bytes new i puts = λ free.
    let below : i < length old = below_there old i (λ none. puts.place.1 (ap (file_in old) (sym puts.place.0) ∙ none)) in
    inr (i, subst (λ (o : Option File). HasBytes o bytes) (sym (ap (λ (f : Files). file_in f i) puts.files ∙ file_put old i bytes below)) (put_bytes (file_in old i) bytes))

pub whole_kept : (x : Image) (inum : Option ℕ) (bytes : List ℕ) (z : Image) → KeepsWhole x inum bytes z → KeepsPutOf x inum bytes z
whole_kept x inum bytes z kept =
    let twice = has_room_twice x inum (length bytes) in
    record {
      put = record {
        log = kept.log;
        sound = kept.sound;
        files = ⊎_elim (λ same. stops_same inum twice x bytes (recovered z) same) (λ all. inr all) kept.files;
        either = ⊎_elim (λ same. never_same inum twice (files_of x) bytes (files_of (recovered z)) same)
            (λ all. never_all inum twice (files_of x) bytes (files_of (recovered z)) all.0 all.1) kept.files;
        unshown = kept.unshown;
      };
      whole = λ few. kept.files;
    }
