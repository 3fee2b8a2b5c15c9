-- Inodes that have the same bytes.
use Rattle.std.proofs.Common.{◌≡◌, ℕ, ◌*◌, ◌<◌, List, length, take, refl, sym, ap, ap₂, ◌∙◌, arith, Option, flat_map, slice_index, ◌^◌}
use Rattle.model.specs.Files.{bytes_in, joined}
use Rattle.model.specs.Layout.{inode_of}
use Rattle.model.specs.Places.{address_in}
use Rattle.std.specs.List.{range_with_len}
use Rattle.in_flight.specs.Common.{blocks_for, data_at, Dinode, File, flat_map_range_same, Growth, Image, IsFit, IsGrowing, labels_of, overwritten}

-- in each block that its size needs an inode has what another of that size has, be it in another image
pub bytes_alike : (x y : Image) (d e : Dinode) → e.size ≡ d.size →
    ((k : ℕ) → k * 1024 < d.size → data_at y (address_in y e k) ≡ data_at x (address_in x d k)) → bytes_in y e ≡ bytes_in x d
unfolding bytes_in joined
bytes_alike x y d e size each =
    ap₂ (λ (n : ℕ) (l : List ℕ). take n l) size
    (ap (λ n. flat_map (λ k. data_at y (address_in y e k)) (range_with_len 0 (blocks_for n))) size
    ∙ flat_map_range_same (λ k. data_at x (address_in x d k)) (λ k. data_at y (address_in y e k)) 0 (blocks_for d.size)
    (λ k low high. each k (omega (arith, high))))

-- a task whose copy is another, or of another image, or that wrote more
pub growing_as : (x y : Image) (i : ℕ) (g : Growth) (d : Dinode) (t : Option ℕ) (written : List ℕ) (file : Option File) (h : IsGrowing x i g file) → IsFit y d → (inode_of y i).kind ≡ d.kind →
    labels_of y i ≡ (d.major, d.minor) → d.kind ≡ g.copy.kind → d.nlink ≡ g.copy.nlink →
    bytes_in y d ≡ overwritten h.old.bytes g.offset written →
    IsGrowing y i (record g { copy = d; taken = t; written = written }) file
growing_as x y i g d t written file h fit same_kind labels kind links bytes = record {
  fit = fit;
  same_kind = same_kind;
  labels = labels;
  old = h.old;
  was = h.was;
  kind = kind ∙ h.kind;
  links = links ∙ h.links;
  reaches = h.reaches;
  ends = h.ends;
  bytes = bytes;
}

-- a task's copy with other addresses that lead to the same blocks, as far as its size needs them
pub growing_at : (x : Image) (i : ℕ) (g : Growth) (ws : List ℕ) (t : Option ℕ) (file : Option File) → IsGrowing x i g file → length ws ≡ 13 →
    ((k : ℕ) → slice_index ws k < 2 ^ 32) →
    ((k : ℕ) → k * 1024 < g.copy.size → address_in x (record g.copy { addrs = ws }) k ≡ address_in x g.copy k) →
    IsGrowing x i (record g { copy = record g.copy { addrs = ws }; taken = t }) file
growing_at x i g ws t file h long small same =
    growing_as x x i g (record g.copy { addrs = ws }) t g.written file h
    (record {
      fields = record {
        kind = h.fit.fields.kind;
        major = h.fit.fields.major;
        minor = h.fit.fields.minor;
        nlink = h.fit.fields.nlink;
        size = h.fit.fields.size;
        count = long;
        addrs = small;
      };
      used = h.fit.used;
      kind = h.fit.kind;
      size = h.fit.size;
      whole = λ k need z. h.fit.whole k need (sym (same k need) ∙ z);
    })
    h.same_kind h.labels refl refl (bytes_alike x x g.copy (record g.copy { addrs = ws }) refl (λ k need. ap (data_at x) (same k need)) ∙ h.bytes)
