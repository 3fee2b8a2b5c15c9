use Rattle.std.proofs.Common.{◌≡◌, ◌∙◌, ◌++◌, ℕ, [], ◌∷◌, Option, map, sym, ap, arith}
use Rattle.std.proofs.lemmas.List.FromFn.{map-range_with_len_more}
use Rattle.std.specs.List.{range_with_len}
use Rattle.blocks.specs.Disk.{Image}
use Rattle.blocks.specs.Lemmas.Reads.{reads_then}
use Rattle.model.specs.Files.{Files, file_at}
use Rattle.model.specs.Log.{recovered}
use Rattle.model.specs.declared.types.image.File.{File}
use Rattle.offline.specs.Lemmas.Checked.{count_recovered}
use Rattle.tree_looks.proofs.loading.read_files.Goals as goal

pub loop-number-preserved : goal.loop-number-preserved
loop-number-preserved g c =
    let so_far = c.loop-number.invariant in
    let n = c.loop-number.number in
    let f = file_at (recovered (g.D.Disk.image c.args.disk.now)) in
    let file : c.in_ok-file.file ≡ f n = c.in_ok-file.ensures.file ∙ ap (λ (z : Image). file_at (recovered z) n) so_far.reads.image in
    record {
      reads = reads_then g.D.Disk _ _ _ so_far.reads c.file_of.ensures.reads;
      faults = c.in_ok-file.ensures.faults ∙ so_far.faults;
      files = c.in_ok-push.ensures.items
          ∙ ap (λ (files : Files). files ++ c.in_ok-file.file ∷ []) so_far.files
          ∙ ap (λ (one : Option File). map f (range_with_len 0 n) ++ one ∷ []) file
          ∙ sym (map-range_with_len_more f 0 n n (omega arith));
    }

pub returns-clause-files : goal.returns-clause-files
returns-clause-files g c =
    let x = g.D.Disk.image c.args.disk.now in
    let all : c.loop-number.number ≡ c.in_ok-image.image.sup.ninodes = omega (arith, c.loop-number-test.false, c.loop-number.auto.number-end) in
    c.loop-number.invariant.files
    ∙ ap (λ (n : ℕ). map (file_at (recovered x)) (range_with_len 0 n)) (all ∙ count_recovered x c.in_ok-image.image c.in_ok-image.ensures.ok.recovered)
