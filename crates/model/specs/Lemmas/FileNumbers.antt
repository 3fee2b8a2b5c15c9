-- The files of an image, by their numbers.
use Rattle.std.proofs.Common.{◌≡◌, ℕ, ◌<◌, ◌≤◌, length, None, ⊎_elim, arith, ◌≢◌, Some, sym, subst, ◌∙◌}
use Rattle.model.specs.Common.{cases_lt, File, file_at, file_in, Files, files_of, get_or-map-range_with_len, get_or_past, Image, inode_count_of, length-map-range_with_len}

pub length-files_of : (x : Image) → length (files_of x) ≡ inode_count_of x
length-files_of x = length-map-range_with_len (file_at x) 0 (inode_count_of x)

pub file_in-files_of : (x : Image) (i : ℕ) → i < inode_count_of x → file_in (files_of x) i ≡ file_at x i
file_in-files_of x i h = get_or-map-range_with_len (file_at x) 0 (inode_count_of x) i i None h (omega arith)

pub file_in-files_of_past : (x : Image) (i : ℕ) → inode_count_of x ≤ i → file_in (files_of x) i ≡ None
file_in-files_of_past x i h = get_or_past (files_of x) i None (omega (arith, length-files_of x))

-- number 0 has no file
pub file_in-files_of_zero : (x : Image) → file_in (files_of x) 0 ≡ None
file_in-files_of_zero x =
    ⊎_elim (λ (h : 0 < inode_count_of x). file_in-files_of x 0 h) (λ (h : inode_count_of x ≤ 0). file_in-files_of_past x 0 h)
    (cases_lt 0 (inode_count_of x))

pub none_at_zero : (x : Image) (i : ℕ) → i ≡ 0 → file_in (files_of x) i ≡ None
none_at_zero x i zero = subst (λ (n : ℕ). file_in (files_of x) n ≡ None) (sym zero) (file_in-files_of_zero x)

-- a number that has a file is one of them
pub below_there : (files : Files) (i : ℕ) → file_in files i ≢ None → i < length files
below_there files i there =
    ⊎_elim (λ (h : i < length files). h) (λ (h : length files ≤ i). absurd (there (get_or_past files i None h))) (cases_lt i (length files))

pub below_file : (files : Files) (i : ℕ) (file : File) → file_in files i ≡ Some file → i < length files
below_file files i file is = below_there files i (λ none. let both : None ≡ Some file = sym none ∙ is in cc both)
