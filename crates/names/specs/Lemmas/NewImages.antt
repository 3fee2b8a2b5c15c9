-- A new image has no file, so a root may be made on it, and no inode of it has labels.
use Rattle.std.proofs.Common.{◌≡◌, ◌*◌, ◌+◌, ◌-◌, ◌%◌, ℕ, ◌<◌, ◌≤◌, true, List, replicate, take, None, refl, sym, ap, ap₂, subst, ◌∙◌, ⊎_elim, arith}
use Rattle.std.proofs.lemmas.List.{get_or-replicate, length-replicate}
use Rattle.std.proofs.lemmas.Bool.{cases_lt}
use Rattle.blocks.specs.Block.{zero_block}
use Rattle.blocks.specs.Disk.{Image, block_at}
use Rattle.model.specs.Codec.{made_image}
use Rattle.model.specs.Common.{drop-replicate, get_or_past, inode_block, inode_bytes_in, inode_count_of, is_inode_count, is_size, take-replicate}
use Rattle.model.specs.Crash.{labels_of}
use Rattle.model.specs.declared.types.image.Form.{Form}
use Rattle.model.specs.declared.types.image.Super.{Super}
use Rattle.model.specs.Fields.{u16_at}
use Rattle.model.specs.Files.{Files, file_in, files_of}
use Rattle.model.specs.Layout.{inode_in, inode_of}
use Rattle.model.specs.Lemmas.Log.{recovered_empty}
use Rattle.model.specs.Lemmas.MadeImages.{files-made_image, is_within, sound-made_image, super_of-made_image, zero-made_image}
use Rattle.model.specs.Log.{recovered}
use Rattle.names.specs.Ready.{HasNoFile}

none_at : (n i : ℕ) → file_in (replicate n None) i ≡ None
none_at n i =
    ⊎_elim (λ (below : i < n). get_or-replicate n i None None below)
    (λ (past : n ≤ i). get_or_past (replicate n None) i None (subst (λ (k : ℕ). k ≤ i) (sym (length-replicate n None)) past)) (cases_lt i n)

pub new_has_none : (form : Form) (size n : ℕ) → is_inode_count n ≡ true → is_size size n ≡ true → HasNoFile (files_of (recovered (made_image form size n)))
new_has_none form size n count fits = λ i ne.
    ap (λ (f : Files). file_in f i)
    (ap files_of (recovered_empty (made_image form size n) (sound-made_image form size n count fits).empty_log) ∙ files-made_image form size n count fits)
    ∙ none_at n i

free_bytes : (i : ℕ) → inode_bytes_in zero_block i ≡ replicate 64 0
unfolding zero_block
free_bytes i =
    let at = i % 16 * 64 in
    let width : at + 64 - at ≡ 64 = omega arith in
    ap₂ (λ (k : ℕ) (l : List ℕ). take k l) width (drop-replicate {X = ℕ} at 1024 0)
    ∙ take-replicate {X = ℕ} 64 (1024 - at) 0 (omega arith)

labels_in : List ℕ → ℕ × ℕ
labels_in bytes = ((inode_in bytes).major, (inode_in bytes).minor)

free_labels : labels_in (replicate 64 0) ≡ (0, 0)
unfolding labels_in inode_in u16_at
free_labels = refl

pub new_is_unlabelled : (form : Form) (size n : ℕ) → is_inode_count n ≡ true → is_size size n ≡ true → (i : ℕ) → i < inode_count_of (recovered (made_image form size n))
    → labels_of (recovered (made_image form size n)) i ≡ (0, 0)
unfolding inode_of labels_in
new_is_unlabelled form size n count fits i below =
    let x = made_image form size n in
    let is = is_within size n count fits in
    let room = is.room in
    let same : recovered x ≡ x = recovered_empty x (sound-made_image form size n count fits).empty_log in
    let numbers : inode_count_of (recovered x) ≡ n = ap inode_count_of same ∙ ap (λ (s : Super). s.ninodes) (super_of-made_image form size n is) in
    let inside : i < n = subst (λ (k : ℕ). i < k) numbers below in
    let free : block_at x (inode_block i) ≡ zero_block =
    zero-made_image form size n (inode_block i) (omega arith) (λ e. absurd (omega arith)) (λ e. absurd (omega arith)) in
    ap (λ (y : Image). labels_of y i) same ∙ ap (λ (b : List ℕ). labels_in (inode_bytes_in b i)) free ∙ ap labels_in (free_bytes i) ∙ free_labels
