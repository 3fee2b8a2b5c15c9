-- The address of a file's block, step by step.
use Rattle.std.proofs.Common.{◌≡◌, ℕ, zero, suc, ◌+◌, ◌-◌, ◌<◌, ◌≤◌, List, length, get_or, drop, refl, arith}
use Rattle.std.proofs.lemmas.Bool.{le-ltb, lt-ltb}
use Rattle.std.proofs.lemmas.List.{drop_more}
use Rattle.blocks.specs.Disk.{Image}
use Rattle.model.specs.Layout.{reach}
use Rattle.model.specs.Places.{address_under, address_along}

-- an address of data
pub address_data : (x : Image) (depth k address : ℕ) → depth ≡ 0 → address_under x depth k address ≡ address
address_data x zero k address e = refl
address_data x (suc depth) k address e = absurd (omega arith)

-- no address
pub address_none : (x : Image) (depth k address : ℕ) → address ≡ 0 → address_under x depth k address ≡ address
address_none x zero k address e = refl
address_none x (suc depth) k address e = rw e refl

-- the rest of the addresses, where the block isn't under the first
pub address_later : (x : Image) (k : ℕ) (depths addresses : List ℕ) (j step : ℕ) → j < length depths → j < length addresses →
    step ≡ reach (get_or depths j 0) → step ≤ k →
    address_along x k (drop j depths) (drop j addresses) ≡ address_along x (k - step) (drop (j + 1) depths) (drop (j + 1) addresses)
address_later x k depths addresses j step hd ha es h =
    let d = drop_more depths j 0 hd in
    let a = drop_more addresses j 0 ha in
    let no = le-ltb k step h in
    rw (d, a, ← es, no) refl

-- the block under the first of the rest
pub address_here : (x : Image) (k : ℕ) (depths addresses : List ℕ) (j step : ℕ) → j < length depths → j < length addresses →
    step ≡ reach (get_or depths j 0) → k < step →
    address_along x k (drop j depths) (drop j addresses) ≡ address_under x (get_or depths j 0) k (get_or addresses j 0)
address_here x k depths addresses j step hd ha es h =
    let d = drop_more depths j 0 hd in
    let a = drop_more addresses j 0 ha in
    let yes = lt-ltb k step h in
    rw (d, a, ← es, yes) refl
