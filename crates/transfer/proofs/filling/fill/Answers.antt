use Rattle.std.proofs.Common.{◌≡◌, ◌∙◌, ℕ, ◌*◌, ◌≤◌, All, List, length, Option, None, sym, ap, subst, arith, ◌≢◌, ◌+◌, ◌<◌, get_or, refl}
use Rattle.std.proofs.lemmas.List.{length-replicate}
use Rattle.model.specs.declared.types.image.File.{File}
use Rattle.model.specs.Layout.{inode_count_of, inode_of}
use Rattle.model.specs.Log.{recovered}
use Rattle.calls.specs.Files.{files_on, appended}
use Rattle.transfer.specs.Holding.{Holds, CutsShort, IsUnwritten}
use Rattle.transfer.specs.Stages.{kept_at, listed, made_at, written_at}
use Rattle.transfer.proofs.FillingLemmas.{count_listed, count_source, few_numbers, holds_as, low_kinds, all_written, file_listed, kept_chosen, none_listed, none_written, number_listed, number_within, one_unwritten, one_written, start_chosen, still_empty}
use Rattle.std.proofs.lemmas.Result.{err_from_is_err_and}
use Rattle.blocks.specs.Calls.{OnlyReads}
use Rattle.blocks.specs.Disk.{Image}
use Rattle.blocks.specs.Lemmas.Reads.{reads_none, reads_then}
use Rattle.model.specs.Files.{bytes_in}
use Rattle.calls.specs.Calls.{call_count}
use Rattle.calls.specs.Stepping.{Plain}
use Rattle.transfer.specs.Source.{IsFileOf, chosen_files}
use Rattle.transfer.proofs.filling.fill.Goals as goal
use Rattle.transfer.proofs.filling.fill.Goals.{then-kind-ne0+in_ok-write_file, else-kind-ne0}

pub create_numbers-requires-clause-room : goal.create_numbers-requires-clause-room
create_numbers-requires-clause-room g c =
    let x = g.D.Disk.image c.args.old.now in
    let few = c.requires.source.few in
    let count = count_source x c.args.source.now c.requires.source in
    omega (arith, ap length c.requires.none.held, length-replicate {A = Option File} (inode_count_of x) None, ap length c.deref.ensures.value)

pub create_numbers-requires-clause-few : goal.create_numbers-requires-clause-few
create_numbers-requires-clause-few g c =
    let x = g.D.Disk.image c.args.old.now in
    let few = c.requires.source.few in
    let count = count_source x c.args.source.now c.requires.source in
    let most = few_numbers x c.args.source.now c.requires.source in
    omega (arith, ap length c.deref.ensures.value)

pub create_numbers-requires-clause-kinds : goal.create_numbers-requires-clause-kinds
create_numbers-requires-clause-kinds g c =
    let x = g.D.Disk.image c.args.old.now in
    subst (All (λ kind. kind ≤ 3)) (sym c.deref.ensures.value) (low_kinds x c.args.source.now c.requires.source)

pub remove_free-requires-clause-room : goal.remove_free-requires-clause-room
remove_free-requires-clause-room g c =
    let x = g.D.Disk.image c.args.old.now in
    let few = c.requires.source.few in
    let count = count_source x c.args.source.now c.requires.source in
    let same = count_listed g.E.Disk _ _ _ c.create_numbers.new.kernel c.in_ok-create_numbers.ensures.made in
    omega (arith, same, ap length c.requires.none.held, length-replicate {A = Option File} (inode_count_of x) None, ap length c.deref-2.ensures.value)

pub remove_free-requires-clause-few : goal.remove_free-requires-clause-few
remove_free-requires-clause-few g c =
    let x = g.D.Disk.image c.args.old.now in
    let few = c.requires.source.few in
    let count = count_source x c.args.source.now c.requires.source in
    let most = few_numbers x c.args.source.now c.requires.source in
    omega (arith, ap length c.deref-2.ensures.value)

pub remove_free-requires-clause-made : goal.remove_free-requires-clause-made
remove_free-requires-clause-made g c =
    let m = c.create_numbers.new.kernel in
    let made : ℕ → List ℕ → Type 0 = λ count kinds. Holds g.E.Disk (length kinds) (listed count (made_at kinds (length kinds))) m in
    let same = count_listed g.E.Disk _ _ _ m c.in_ok-create_numbers.ensures.made in
    let kinds : c.deref.result.now ≡ c.deref-2.result.now = c.deref.ensures.value ∙ sym c.deref-2.ensures.value in
    subst (λ (count : ℕ). made count c.deref-2.result.now) (sym same)
    (subst (made (length (files_on g.E.Disk.image c.args.kernel.now))) kinds c.in_ok-create_numbers.ensures.made)

pub loop-k-init : goal.loop-k-init
loop-k-init g c =
    let x = g.D.Disk.image c.args.old.now in
    let y = recovered x in
    let kinds = c.args.source.now.kinds.items in
    let m = c.create_numbers.new.kernel in
    let l = c.remove_free.new.kernel in
    let most = 2 * length kinds in
    let kept : ℕ → List ℕ → Type 0 = λ count kinds. Holds g.E.Disk (2 * length kinds) (listed count (kept_at kinds (length kinds))) l in
    let count : length (files_on g.E.Disk.image m) ≡ inode_count_of y
    = count_listed g.E.Disk _ _ _ m c.in_ok-create_numbers.ensures.made ∙ ap length c.requires.none.held ∙ length-replicate {A = Option File} (inode_count_of x) None ∙ sym (count_source x c.args.source.now c.requires.source) in
    let holds = subst (kept (length (files_on g.E.Disk.image m))) c.deref-2.ensures.value c.in_ok-remove_free.ensures.kept in
    record {
      reads = reads_none g.D.Disk c.args.old.now;
      faults = refl;
      few = omega arith;
      holds = holds_as g.E.Disk most (most + 0) l holds (omega arith)
          (ap (λ (n : ℕ). listed n (kept_at kinds (length kinds))) count ∙ kept_chosen x c.args.source.now c.requires.source ∙ start_chosen x c.args.source.now c.requires.source);
      opening = cc;
      name = cc;
    }

pub overflow_cast-k : goal.overflow_cast-k
overflow_cast-k g c =
    let x = g.D.Disk.image c.args.old.now in
    let few = few_numbers x c.args.source.now c.requires.source in
    let within = number_within x c.args.source.now c.requires.source c.loop-k.k (omega (arith, ap length c.deref-kind-items.ensures.value)) in
    omega arith

pub overflow_add-k : goal.overflow_add-k
overflow_add-k g c =
    let x = g.D.Disk.image c.args.old.now in
    let few = few_numbers x c.args.source.now c.requires.source in
    let within = number_within x c.args.source.now c.requires.source c.loop-k.k (omega (arith, ap length c.deref-kind-items.ensures.value)) in
    omega arith

pub write_file-requires-clause-file : goal.write_file-requires-clause-file
write_file-requires-clause-file g c =
    let x = g.D.Disk.image c.args.old.now in
    let source = c.args.source.now in
    let is = c.requires.source in
    let k = c.loop-k.k in
    let low : k < length source.kinds.items = omega (arith, ap length c.deref-kind-items.ensures.value) in
    let used : get_or source.kinds.items k 0 ≢ 0 = subst (λ (kinds : List ℕ). get_or kinds k 0 ≢ 0) c.deref-kind-items.ensures.value c.if-kind-ne0.true in
    let file : IsFileOf x source (k + 1) = record {
      is = is;
      some = omega arith;
      below = number_within x source is k low;
      whole = is.whole k low used;
    } in
    subst (λ (z : Image). IsFileOf z source (k + 1)) (sym c.loop-k.invariant.reads.image) file

pub write_file-requires-clause-few : goal.write_file-requires-clause-few
write_file-requires-clause-few g c =
    let x = g.D.Disk.image c.args.old.now in
    let few = few_numbers x c.args.source.now c.requires.source in
    let within = number_within x c.args.source.now c.requires.source c.loop-k.k (omega (arith, ap length c.deref-kind-items.ensures.value)) in
    let calls = c.loop-k.invariant.holds.few in
    let count = count_source x c.args.source.now c.requires.source in
    let kinds = c.requires.source.few in
    omega arith

pub write_file-requires-clause-empty : goal.write_file-requires-clause-empty
write_file-requires-clause-empty g c =
    let x = g.D.Disk.image c.args.old.now in
    let source = c.args.source.now in
    let k = c.loop-k.k in
    let low : k < length source.kinds.items = omega (arith, ap length c.deref-kind-items.ensures.value) in
    let used : get_or source.kinds.items k 0 ≢ 0 = subst (λ (kinds : List ℕ). get_or kinds k 0 ≢ 0) c.deref-kind-items.ensures.value c.if-kind-ne0.true in
    still_empty g.E.Disk (chosen_files (recovered x) c.args.source.now.kinds.items) k (number_listed x source c.requires.source k low) (2 * length source.kinds.items + 21935 * k) c.loop-k.kernel c.loop-k.invariant.holds
    _ (file_listed x source c.requires.source k low used)

pub returns-in_err-write_file-clause-refused : goal.returns-in_err-write_file-clause-refused
returns-in_err-write_file-clause-refused g c =
    let from = g.D.Disk in
    let to = g.E.Disk in
    let x = from.image c.args.old.now in
    let source = c.args.source.now in
    let is = c.requires.source in
    let files = chosen_files (recovered x) c.args.source.now.kinds.items in
    let k = c.loop-k.k in
    let l = c.loop-k.kernel in
    let e = c.write_file.new.kernel.store.volume.device in
    let fault = c.in_err-write_file.field-0.0 in
    let low : k < length source.kinds.items = omega (arith, ap length c.deref-kind-items.ensures.value) in
    let used : get_or source.kinds.items k 0 ≢ 0 = subst (λ (kinds : List ℕ). get_or kinds k 0 ≢ 0) c.deref-kind-items.ensures.value c.if-kind-ne0.true in
    let refused = subst (λ (z : Image). IsUnwritten from to (CutsShort (k + 1) (appended (files_on to.image l) (k + 1) (bytes_in (recovered z) (inode_of (recovered z) (k + 1))))) c.loop-k.old c.write_file.new.old l.opening e fault)
    c.loop-k.invariant.reads.image c.in_err-write_file.ensures.refused in
    let p = err_from_is_err_and c.from_residual-in_err-write_file.result c.from_residual-in_err-write_file.ensures.1 in
    rw (p.1, p.2)
    (one_unwritten to files k (number_listed x source is k low) (2 * length source.kinds.items + 21935 * k) l c.loop-k.invariant.holds _ (file_listed x source is k low used)
    from c.loop-k.old c.args.old.now c.write_file.new.old l.opening c.args.kernel.now.opening e fault refused c.loop-k.invariant.faults c.loop-k.invariant.opening)

pub overflow_add-copied : goal.overflow_add-copied
overflow_add-copied g c =
    let x = g.D.Disk.image c.args.old.now in
    let few = few_numbers x c.args.source.now c.requires.source in
    let within = number_within x c.args.source.now c.requires.source c.loop-k.k (omega (arith, ap length c.deref-kind-items.ensures.value)) in
    omega arith

pub loop-k-preserved : goal.loop-k-preserved
loop-k-preserved g c =
    let from = g.D.Disk in
    let to = g.E.Disk in
    let d = c.args.old.now in
    let x = from.image d in
    let source = c.args.source.now in
    let is = c.requires.source in
    let before = c.loop-k.invariant in
    let files = chosen_files (recovered x) c.args.source.now.kinds.items in
    let k = c.loop-k.k in
    let l = c.loop-k.kernel in
    let most = 2 * length source.kinds.items + 21935 * k in
    let more = 2 * length source.kinds.items + 21935 * (k + 1) in
    let le : most + 21935 ≤ more = omega arith in
    let low : k < length source.kinds.items = omega (arith, ap length c.deref-kind-items.ensures.value) in
    let room = number_listed x source is k low in
    let wrote : Plain g.row.E.Denot → Type 0 = λ m. Holds to more (listed (length files) (written_at files (k + 1))) m in
    let reads : OnlyReads from d c.if-kind-ne0.old
    = elim c.if-kind-ne0.branch [
      | then-kind-ne0+in_ok-write_file w ↦ subst (λ (e : g.row.D.Denot). OnlyReads from d e) (sym w.old-is) (reads_then from d c.loop-k.old w.write_file.new.old before.reads w.write_file.ensures.reads)
      | else-kind-ne0 w ↦ subst (λ (e : g.row.D.Denot). OnlyReads from d e) (sym w.old-is) before.reads
    ] in
    let holds : wrote c.if-kind-ne0.kernel
    = elim c.if-kind-ne0.branch [
      | then-kind-ne0+in_ok-write_file w ↦
          let used : get_or source.kinds.items k 0 ≢ 0 = subst (λ (kinds : List ℕ). get_or kinds k 0 ≢ 0) c.deref-kind-items.ensures.value w.if-kind-ne0.true in
          let written = subst (λ (z : Image). Holds to (call_count l + 21935) (appended (files_on to.image l) (k + 1) (bytes_in (recovered z) (inode_of (recovered z) (k + 1)))) w.write_file.new.kernel)
          before.reads.image w.in_ok-write_file.ensures.written in
          subst wrote (sym w.kernel-is)
          (holds_as to (most + 21935) more w.write_file.new.kernel (one_written to files k room most l before.holds _ (file_listed x source is k low used) w.write_file.new.kernel written) le refl)
      | else-kind-ne0 w ↦
          let free : get_or source.kinds.items k 0 ≡ 0 = subst (λ (kinds : List ℕ). get_or kinds k 0 ≡ 0) c.deref-kind-items.ensures.value w.if-kind-ne0.false in
          subst wrote (sym w.kernel-is) (holds_as to (most + 21935) more l (none_written to files k room most l before.holds (none_listed x source is k low free)) le refl)
    ] in
    record {
      reads = reads;
      faults = elim c.if-kind-ne0.branch [ then-kind-ne0+in_ok-write_file w ↦ ap from.fault_count w.old-is ∙ w.in_ok-write_file.ensures.faults ∙ before.faults | else-kind-ne0 w ↦ ap from.fault_count w.old-is ∙ before.faults ];
      few = let few = before.few in elim c.if-kind-ne0.branch [ then-kind-ne0+in_ok-write_file w ↦ omega arith | else-kind-ne0 w ↦ omega arith ];
      holds = holds;
      opening = elim c.if-kind-ne0.branch [ then-kind-ne0+in_ok-write_file w ↦ cc | else-kind-ne0 w ↦ cc ];
      name = elim c.if-kind-ne0.branch [ then-kind-ne0+in_ok-write_file w ↦ cc | else-kind-ne0 w ↦ cc ];
    }

pub returns-clause-filled : goal.returns-clause-filled
returns-clause-filled g c =
    let x = g.D.Disk.image c.args.old.now in
    let source = c.args.source.now in
    let files = chosen_files (recovered x) c.args.source.now.kinds.items in
    let n = length source.kinds.items in
    let end : c.loop-k.k ≡ n = omega (arith, ap length c.deref-kind-items.ensures.value) in
    holds_as g.E.Disk (2 * n + 21935 * c.loop-k.k) (21937 * n) {files = listed (length files) (written_at files c.loop-k.k)} {new = files} c.loop-k.kernel c.loop-k.invariant.holds (omega arith)
    (ap (λ (k : ℕ). listed (length files) (written_at files k)) end ∙ all_written x source c.requires.source)
