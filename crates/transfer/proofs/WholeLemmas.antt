-- A put in one transaction, from its beginning to its commit, or given up.
use Rattle.std.proofs.Common.{◌≡◌, ◌≢◌, ◌∙◌, ℕ, List, length, take, Option, None, refl, sym, ap, subst, inl, inr, ⊎_elim}
use Rattle.blocks.specs.Disk.{Image, LeavesOnly, block_at}
use Rattle.blocks.specs.Lemmas.Moments.{joined}
use Rattle.blocks.specs.declared.disk.Disk.{Ghosts}
use Rattle.history.specs.Lemmas.Leaving.{leaves_wider}
use Rattle.model.specs.Crash.{IsUntouched}
use Rattle.model.specs.Files.{Files, file_in, files_of}
use Rattle.model.specs.Log.{recovered}
use Rattle.calls.specs.Calls.{IsWhole, KeepsFiles, faults_on, image_on}
use Rattle.calls.specs.Files.{files_on}
use Rattle.calls.specs.Lemmas.Reaching.{reached_then}
use Rattle.calls.specs.Lemmas.Unshown.{unshown_none}
use Rattle.calls.specs.Stepping.{IsReached, Plain}
use Rattle.calls.specs.Transactions.{Begins, Commits, HasFiles, IsPair, KeepsEither, labels_made}
use Rattle.calls.specs.Unshown.{KeepsUnshown, labels_due}
use Rattle.transfer.specs.Midst.{HasTried, IsMidst, IsSame, PutsShort, StaysMidst}
use Rattle.transfer.specs.Places.{HasNoFree, IsPlace, put_at}
use Rattle.transfer.specs.Whole.{AllTo, KeepsWhole, StaysWhole, WholeTo}
use Rattle.transfer.specs.declared.writing.Outcome.{Outcome}
use Rattle.transfer.specs.declared.writing.Outcome.TheVariants as outcome
use Rattle.transfer.proofs.PlaceLemmas.{put_loses_none}

module _ {D N : Type 0} (disk : Ghosts D N) (inum : Option ℕ) (bytes : List ℕ) where
  -- before the commit nothing is kept
  none_whole : (x z : Image) → KeepsFiles x z → KeepsWhole x inum bytes z
  none_whole x z kept = record { log = kept.log; sound = kept.sound; files = inl kept.files; unshown = kept.unshown }

  module _ (k a d : Plain D) (begins : Begins disk.image k a) (begun : StaysMidst disk k a) (tried : StaysMidst disk a d) where
    abbrev x : Image
    x = image_on disk.image k

    abbrev Keeps : Image → Type 0
    Keeps = KeepsWhole (image_on disk.image k) inum bytes

    tried_leaves : LeavesOnly disk.moment disk.leaves k.store.volume.device d.store.volume.device Keeps
    tried_leaves =
        joined disk.moment disk.leaves k.store.volume.device a.store.volume.device d.store.volume.device Keeps
        (leaves_wider disk.moment disk.leaves k.store.volume.device a.store.volume.device (KeepsFiles x) Keeps (none_whole x) begun.leaves)
        (leaves_wider disk.moment disk.leaves a.store.volume.device d.store.volume.device (KeepsFiles (image_on disk.image a)) Keeps
        (λ z kept. none_whole x z (subst (λ (y : Image). KeepsFiles y z) begins.same kept)) tried.leaves)

    pub tried_stays : StaysWhole disk inum bytes k d
    tried_stays = record {
      leaves = tried_leaves;
      name = tried.over.name ∙ begun.over.name;
      reached = reached_then disk k a d begun.reached tried.reached;
    }

    -- no call failed
    same_faults : (m : Plain D) → m.opening ≡ d.opening → IsPair disk.fault_count k → IsPair disk.fault_count m → faults_on disk.fault_count m ≡ faults_on disk.fault_count k
    same_faults m opening then_on now =
        now.faultless ∙ ap disk.fault_count (opening ∙ tried.over.opening ∙ begun.over.opening) ∙ sym then_on.faultless

    module _ (same_d : IsSame disk a d) where
      same : image_on disk.image d ≡ image_on disk.image k
      same = same_d ∙ begins.same

      -- ---- it is given up

      none_free : IsPair disk.fault_count k → IsPair disk.fault_count d → HasTried disk inum bytes a d outcome.NoInode → AllTo disk inum bytes k d outcome.NoInode
      none_free then_on now why twice = record {
        whole = subst (IsWhole x) (sym same) (record { sound = begins.sound; size = refl; super = refl });
        unshown = subst (KeepsUnshown x) (sym same) (unshown_none x);
        comes = record { new = why.0; full = subst (λ (y : Image). HasNoFree (files_of y)) begins.same why.1; files = ap files_of same };
        faults = same_faults d refl then_on now;
      }

      short : PutsShort disk inum bytes a d → PutsShort disk inum bytes k d
      short part = record {
        number = part.number;
        place = subst (λ (y : Image). IsPlace (files_of y) inum part.number) begins.same part.place;
        short = record {
          count = part.short.count;
          fewer = part.short.fewer;
          files = subst (λ (y : Image). HasFiles disk.image d (put_at (files_of y) part.number (take part.short.count bytes))) begins.same part.short.files;
          full = part.short.full;
        };
      }

      pub given_up : IsPair disk.fault_count k → IsPair disk.fault_count d → (o : Outcome) → ((i : ℕ) → o ≡ outcome.Put i → ⊥) → HasTried disk inum bytes a d o → WholeTo disk inum bytes k d o
      given_up then_on now (outcome.Put i) not_put has = absurd (not_put i refl)
      given_up then_on now outcome.NoInode not_put has = none_free then_on now has
      given_up then_on now outcome.Full not_put has = record { part = short has; same = same; faults = same_faults d refl then_on now }

      -- ---- or committed

      module _ (i : ℕ) (has : HasTried disk inum bytes a d (outcome.Put i)) where
        made : Files
        made = put_at (files_on disk.image k) i bytes

        place : IsPlace (files_on disk.image k) inum i
        place = subst (λ (y : Image). IsPlace (files_of y) inum i) begins.same has.0

        midst : IsMidst disk 2 made d
        unfolding made
        midst = subst (λ (y : Image). IsMidst disk 2 (put_at (files_of y) i bytes) d) begins.same has.2

        -- a file that was there, or is made, has the labels that are due to it
        due : (j : ℕ) → file_in made j ≢ None → labels_made disk.image d j ≡ labels_due x j
        due j there = midst.labels j there ∙ ap (λ (y : Image). labels_due y j) same

        there_still : (z : Image) → KeepsEither (image_on disk.image d) made (labels_made disk.image d) z → (j : ℕ) → file_in (files_of (recovered z)) j ≢ None → file_in made j ≢ None
        unfolding made
        there_still z kept j there = ⊎_elim
            (λ none. put_loses_none (files_on disk.image k) i bytes (put_at (files_on disk.image k) i bytes) refl j
            (λ gone. there (ap (λ (f : Files). file_in f j) (none ∙ ap files_of same) ∙ gone)))
            (λ all gone. there (ap (λ (f : Files). file_in f j) all ∙ gone)) kept.files

        either_whole : (z : Image) → KeepsEither (image_on disk.image d) made (labels_made disk.image d) z → Keeps z
        unfolding made
        either_whole z kept = record {
          log = kept.log;
          sound = kept.sound;
          files = ⊎_elim (λ none. inl (none ∙ ap files_of same)) (λ all. inr (i, record { place = place; files = all })) kept.files;
          unshown = ⊎_elim (λ still. subst (λ (y : Image). KeepsUnshown y (recovered z)) same still)
              (λ told. record {
                untouched = subst (λ (y : Image). IsUntouched y (recovered z)) same kept.unshown.untouched;
                labels = λ j there. told j there ∙ due j (there_still z kept j there);
              }) kept.labels;
        }

        pub committed_stays : (m : Plain D) → ((f : Files) → HasFiles disk.image d f → LeavesOnly disk.moment disk.leaves d.store.volume.device m.store.volume.device (KeepsEither (image_on disk.image d) f (labels_made disk.image d)))
            → disk.name m.store.volume.device ≡ disk.name d.store.volume.device → IsReached disk d m → StaysWhole disk inum bytes k m
        committed_stays m leaves name reached = record {
          leaves = joined disk.moment disk.leaves k.store.volume.device d.store.volume.device m.store.volume.device Keeps tried_leaves
              (leaves_wider disk.moment disk.leaves d.store.volume.device m.store.volume.device (KeepsEither (image_on disk.image d) made (labels_made disk.image d)) Keeps either_whole
              (leaves made midst.files));
          name = name ∙ tried_stays.name;
          reached = reached_then disk k d m tried_stays.reached reached;
        }

        -- the bytes are put
        pub committed_to : (m : Plain D) → k.store.volume.device ≡ k.opening → IsPair disk.fault_count k → IsPair disk.fault_count m → m.opening ≡ d.opening → Commits disk.image d m → AllTo disk inum bytes k m (outcome.Put i)
        unfolding made
        committed_to m fresh then_on now opening commits twice =
            let files : files_on disk.image m ≡ put_at (files_on disk.image k) i bytes = commits.files made midst.files in
            let first : disk.image d.opening ≡ x = ap disk.image (tried.over.opening ∙ begun.over.opening ∙ sym fresh) in
            record {
              whole = record {
                sound = commits.sound;
                size = commits.size ∙ ap (λ (y : Image). length y) first;
                super = commits.super ∙ ap (λ (y : Image). block_at y 1) first;
              };
              unshown = record {
                untouched = subst (λ (y : Image). IsUntouched y (image_on disk.image m)) same commits.untouched;
                labels = λ j there. commits.labels j there ∙ due j (λ gone. there (ap (λ (f : Files). file_in f j) files ∙ gone));
              };
              comes = record { place = place; files = files };
              faults = same_faults m opening then_on now;
            }
