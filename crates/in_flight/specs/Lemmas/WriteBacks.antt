-- What an inode at a number's place makes of an image in which tasks hold files.
use Rattle.std.proofs.Common.{◌≡◌, ◌≢◌, ℕ, ◌*◌, ◌%◌, ◌<◌, ◌≤◌, Bool, true, not, eqb, leb, List, [], length, replicate, Option, Some, None, refl, sym, ap, subst, ◌∙◌, ⊎_elim, arith}
use Rattle.in_flight.specs.Common.{addresses_in, after-made, Agrees-set, AgreesFor, AreFull, block_at, both_of, cases_eq, Claim, ClaimFits, Claims, count_of, depths, Dinode, dinode_bytes, File, file_agree, file_at, file_in, file_left, Files, FitsHeld, FitsThen, form_of, get_or-set_other, get_or-set_same, Held, Image, inode_block, inode_count_of, inode_of-with_inode, inode_of-with_inode_other, is_dinode-new_inode, IsAtRest, IsClaimedNow, IsDinode, IsFine, IsFit, IsHeld, IsPlaced, last_inode, leb-true, left_along, length-dinode_bytes, length-overwritten, length-set, names_along, names_claimed, names_left, ne_eqb, new_inode, owned, pointers_agree, pointers_free, pointers_in, pointers_named, super_of, with_inode, with_inode_bytes, WriteBackRests}
use Rattle.model.specs.Files.{file_of, bytes_in}
use Rattle.model.specs.Layout.{inode_of}
use Rattle.model.specs.Names.{names_of}
use Rattle.in_flight.specs.Claims.{with_new_file}
use Rattle.in_flight.specs.Lemmas.Claims.{IsApart, apart, no_names, free_file}
use Rattle.in_flight.specs.Lemmas.Frames.{AgreesAtData, SameSuperAndMap, loose_same, fit_alike}
use Rattle.in_flight.specs.Lemmas.GivenUp.{held_of}
use Rattle.in_flight.specs.Lemmas.LeftInTrees.{bare_along}
use Rattle.in_flight.specs.Lemmas.HeldFrames.{ChangesOne, loose_alike, owned_kept, fits_then, at_data, data_passes, agrees_of}
use Rattle.in_flight.specs.Lemmas.Looks.{between}

-- an inode is written at a number, which owns what the inode names, and is then at rest
pub record WritesBack (m : Files) (x : Image) (claims : Claims) (i : ℕ) (n : Files) (new : Claims) (d : Dinode) : Type 0 where
  pub fits : FitsHeld m x claims
  pub low : 1 ≤ i
  pub high : i < inode_count_of x
  pub now : IsClaimedNow claims i None new
  pub fields : IsDinode d
  pub names : (c : ℕ) → count_of c (addresses_in (pointers_in x d)) ≡ count_of c (names_claimed x i (claims i))
  pub fit : d.kind ≢ 0 → IsFit x d
  pub count : length n ≡ length m
  pub own : file_in n i ≡ file_of x d
  pub files : (j : ℕ) → j ≢ i → file_in n j ≡ file_in m j

module _ (m : Files) (x : Image) (claims : Claims) (i : ℕ) (n : Files) (new : Claims) (d : Dinode) (h : WritesBack m x claims i n new d) where
  abbrev y : Image
  y = with_inode x i d

  there : IsApart x i
  there = apart x i h.fits.geometry h.high

  placed : IsPlaced x i
  placed = record { within = there.within; full = h.fits.full (inode_block i) there.behind there.within }

  abbrev test : ℕ → Bool
  test c = not (eqb c (inode_block i))

  away : (c : ℕ) → c ≢ inode_block i → test c ≡ true
  away c ne = ap not (ne_eqb c (inode_block i) ne)

  other_block : (b : ℕ) → b ≢ inode_block i → block_at y b ≡ block_at x b
  other_block b ne = get_or-set_other x (inode_block i) b (with_inode_bytes (block_at x (inode_block i)) i d) [] ne

  data_same : AgreesAtData test x y
  data_same =
      let behind = there.behind in
      let before = there.before_data in
      record {
        agree = Agrees-set x (inode_block i) (with_inode_bytes (block_at x (inode_block i)) i d);
        one = away 1 (λ e. omega arith);
        from_data = λ c from. away c (λ e. omega arith);
      }

  base : SameSuperAndMap x y
  base =
      let behind = there.behind in
      let before = there.before_map in
      record {
        size = length-set x (inode_block i) (with_inode_bytes (block_at x (inode_block i)) i d);
        super = other_block 1 (λ e. omega arith);
        map = other_block (super_of x).bmapstart (λ e. omega arith);
      }

  own_inode : inode_of y i ≡ d
  own_inode = inode_of-with_inode x i d placed h.fields

  change : ChangesOne test m x claims i n y new
  change =
      let low = h.low in
      record {
        fits = h.fits;
        agree = at_data test x y data_same;
        passes = λ j first last ne. data_passes test m x y claims h.fits data_same j first last;
        size = base.size;
        inodes = λ j inside ne. inode_of-with_inode_other x i j d placed h.fields ne;
        claims_same = h.now.others;
        count = h.count;
        files = h.files;
        some = λ e. omega arith;
      }

  -- what the inode names lies among the data, and stays
  leads_same : AgreesFor test x y d
  leads_same =
      agrees_of test x y d change.agree
      (λ b some.
      data_passes test m x y claims h.fits data_same i h.low h.high b (omega (arith, (h.names b), some)))

  own_names : names_claimed y i (new i) ≡ addresses_in (pointers_in x d)
  own_names =
      ap (names_claimed y i) h.now.own
      ∙ ap (λ (e : Dinode). addresses_in (pointers_in y e)) own_inode ∙ ap addresses_in (pointers_agree test x y d leads_same)

  same_owned : (c : ℕ) → count_of c (owned x claims) ≡ count_of c (owned y new)
  same_owned c =
      let kept = owned_kept test m x claims i n y new change c h.low h.high in
      let names = h.names c in
      let behind = ap (count_of c) own_names in
      omega arith

  full_after : AreFull y
  full_after b low within =
      let size = base.size in
      let block = block_at x (inode_block i) in
      let full = placed.full in
      ⊎_elim
      (λ (e : b ≡ inode_block i).
      ap (λ (c : ℕ). length (block_at y c)) e
      ∙ ap length (get_or-set_same x (inode_block i) (with_inode_bytes block i d) [] there.within)
      ∙ length-overwritten block (i % 16 * 64) (dinode_bytes d) (omega (arith, (length-dinode_bytes d h.fields.count), full)) ∙ full)
      (λ (ne : b ≢ inode_block i). ap length (other_block b ne) ∙ h.fits.full b low (omega arith))
      (cases_eq b (inode_block i))

  own_file : file_at y i ≡ file_of x d
  own_file =
      let low = h.low in
      rw (ne_eqb i 0 (λ e. omega arith), own_inode) (file_agree test x y d leads_same)

  own_rest : IsAtRest y i (file_in n i)
  own_rest = record {
    same = own_file ∙ sym h.own;
    fit = subst (λ (e : Dinode). e.kind ≢ 0 → IsFit y e) (sym own_inode) (λ used. fit_alike test x y d leads_same (h.fit used));
  }

  pub writes_back : FitsThen n x claims i y new
  writes_back =
      fits_then test m x claims i n y new change full_after
      (loose_alike y (owned x claims) (owned y new) same_owned (loose_same x y (owned x claims) base h.fits.loose))
      (subst (λ (c : Option Claim). IsFine y i c (file_in n i)) (sym h.now.own) own_rest)

-- ---- an inode without blocks

bare_names : (x : Image) (d : Dinode) → d.addrs ≡ replicate 13 0 → addresses_in (pointers_in x d) ≡ []
unfolding names_of
bare_names x d bare =
    pointers_named x d
    ∙ ⊎_elim
    (λ (z : d.kind ≡ 0). rw z refl)
    (λ (used : d.kind ≢ 0).
    rw (ne_eqb d.kind 0 used)
    (ap (λ (l : List ℕ). names_along x (depths (form_of x)) l) bare ∙ no_names x (form_of x)))
    (cases_eq d.kind 0)

bare_file : (x : Image) (d : Dinode) → d.size ≡ 0 → file_of x d ≡ file_left d.kind d.nlink
unfolding file_of bytes_in
bare_file x d size = rw size refl

bare_fit : (x : Image) (d : Dinode) → IsDinode d → d.kind ≤ 3 → d.size ≡ 0 → d.kind ≢ 0 → IsFit x d
bare_fit x d fields kind size used = record {
  fields = fields;
  used = used;
  kind = kind;
  size = omega arith;
  whole = λ k low nothing. omega arith;
}

-- ---- the write-back

-- a copy without addresses names nothing
pub nothing_left : (x : Image) (d : Dinode) (cursor : List ℕ) → d.addrs ≡ replicate 13 0 → names_left x d cursor ≡ []
nothing_left x d cursor bare = ap (left_along x cursor (depths (form_of x))) bare ∙ bare_along x cursor (depths (form_of x)) 13

last_kind_small : (h : Held) (x : Image) (i : ℕ) (file : Option File) → IsHeld x i h file → h.last_kind ≤ 3
last_kind_small h x i file held =
    let kind = held.kind in
    ⊎_elim (λ (z : h.last_kind ≡ 0). omega arith) (λ (e : h.last_kind ≡ h.copy.kind). omega arith) held.last

pub last_fields : (h : Held) (x : Image) (i : ℕ) (file : Option File) → IsHeld x i h file → IsDinode (last_inode h)
last_fields h x i file held =
    let small = last_kind_small h x i file held in
    record {
      kind = omega arith;
      major = held.fields.major;
      minor = held.fields.minor;
      nlink = held.fields.nlink;
      size = omega arith;
      count = held.fields.count;
      addrs = held.fields.addrs;
    }

pub write_back_rests : WriteBackRests
write_back_rests m x claims new i h g bare now =
    let at = between x i g.number in
    let held = held_of m x claims i h g in
    let fields = last_fields h x i (file_in m i) held in
    writes_back m x claims i m new (last_inode h) (record {
      fits = g.fits;
      low = at.low;
      high = at.high;
      now = now;
      fields = fields;
      names = λ c.
          ap (count_of c) (bare_names x (last_inode h) bare)
          ∙ sym (ap (count_of c) (ap (names_claimed x i) g.holds ∙ nothing_left x h.copy h.cursor bare));
      fit = bare_fit x (last_inode h) fields (last_kind_small h x i (file_in m i) held) refl;
      count = refl;
      own = held.told ∙ sym (bare_file x (last_inode h) refl);
      files = λ j ne. refl;
    })

-- ---- a creation while others hold their numbers

pub claim_fits : ClaimFits
claim_fits m x claims i kind f number none free is =
    let at = between x i number in
    let kinds = both_of (leb 1 kind) (leb kind 3) is in
    let first = leb-true 1 kind kinds.0 in
    let last = leb-true kind 3 kinds.1 in
    let low = at.low in
    let high = at.high in
    let new : Option File = Some (record { kind = kind; links = 1; bytes = [] }) in
    let inside : i < length m = omega (arith, high, f.count) in
    let rest : IsAtRest x i (file_in m i) = subst (λ (o : Option Claim). IsFine x i o (file_in m i)) none (f.each i low high) in (
      writes_back m x claims i (with_new_file m i kind) claims (new_inode kind) (record {
        fits = f;
        low = low;
        high = high;
        now = record { own = none; others = λ j ne. refl };
        fields = is_dinode-new_inode kind last;
        names = λ c.
            ap (count_of c) (bare_names x (new_inode kind) refl)
            ∙ sym (ap (count_of c) (ap (names_claimed x i) none ∙ ap addresses_in (pointers_free x (inode_of x i) free)));
        fit = bare_fit x (new_inode kind) (is_dinode-new_inode kind last) last refl;
        count = length-set m i new;
        own = get_or-set_same m i new None inside
            ∙ sym (bare_file x (new_inode kind) refl ∙ made_left kind (λ e. omega arith));
        files = λ j ne. get_or-set_other m i j new None ne;
      }),
      after-made (form_of x) m kind i is (omega arith) inside (sym rest.same ∙ free_file x i (omega arith) free),
    )
  where
    made_left : (k : ℕ) → k ≢ 0 → file_left k 1 ≡ Some (record { kind = k; links = 1; bytes = [] })
    made_left k some = rw (ne_eqb k 0 some) refl
