-- A reply that is decided after later entries got theirs.
use Rattle.std.proofs.Common.{◌≡◌, ◌≢◌, ℕ, ◌<◌, Bool, true, false, not, cond, ◌&&◌, ◌||◌, eqb, ltb, List, [], ◌∷◌, ◌++◌, replicate, length, set, take, Option, Some, None, refl, sym, ap, ◌∙◌}
use Rattle.std.specs.Prelude.{is_none}
use Rattle.history.specs.Common.{after_answer, after_at, after_create, after_done, after_on, after_refusal, all_apart, and_then, attribute_refusal, BadType, both_of, Bytes, Create, Done, Entry, eqb-false, File, file_in, Files, Form, get_or-set_other, get_or-set_same, is_kind, is_late, is_making, is_refusal, length-set, SetAttribute, Made, no_file_refusal, NoInode, not-true, number_of, Op, or_parts, Read, Remove, replay, Reply, set-get_or, set_comm, Stat, StatOf, TooLong, touches, Trunc, where_true, where_true_some, with_attribute, with_bytes, Write, write_refusal, Wrote}
use Rattle.blocks.specs.Block.{overwritten}
use Rattle.model.specs.declared.types.operations.Attribute.TheVariants.{Links, Size}
use Rattle.model.specs.Operations.{after}

-- the files with another file at a number, where there are files
abbrev pub put : ℕ → Option File → Option Files → Option Files
put i x o = and_then o (λ files. Some (set files i x))

module _ (files : Files) (i : ℕ) (x : Option File) where
  where_put : (b : Bool) → where_true b (set files i x) ≡ put i x (where_true b files)
  where_put true = refl
  where_put false = refl

  where_set : (b : Bool) (j : ℕ) (f : Option File) → j ≢ i → where_true b (set (set files i x) j f) ≡ put i x (where_true b (set files j f))
  where_set true j f ne = λ t. Some (set_comm files i j x f (λ e. ne (sym e)) t)
  where_set false j f ne = refl

  create_put : (kind : ℕ) (reply : Reply) → is_making i (Some reply) ≡ false → after_create (set files i x) kind reply ≡ put i x (after_create files kind reply)
  create_put kind NoInode h = refl
  create_put kind (Made j) h =
      let ne : j ≢ i = λ e. eqb-false i j h (sym e) in
      rw (length-set files i x, get_or-set_other files i j x None ne)
      (where_set (ltb 0 j && ltb j (length files) && is_none (file_in files j)) j (Some (record { kind = kind; links = 1; bytes = [] })) ne)
  create_put kind other h = refl

  on_put : (j : ℕ) (file : File) (op : Op) (reply : Reply) → j ≢ i → after_on (set files i x) j file op reply ≡ put i x (after_on files j file op reply)
  on_put j file (Write k off bytes) (Wrote m) ne = where_set _ j _ ne
  on_put j file (Read k off n) (Bytes bytes) ne = where_put _
  on_put j file (Trunc k) Done ne = λ t. Some (set_comm files i j x (with_bytes file []) (λ e. ne (sym e)) t)
  on_put j file (Remove k) Done ne = λ t. Some (set_comm files i j x None (λ e. ne (sym e)) t)
  on_put j file (Stat k) (StatOf kind links size) ne = where_put _
  on_put j file (SetAttribute k attribute) Done ne = where_set _ j _ ne
  on_put j file (SetAttribute k attribute) (Wrote m) ne = where_set _ j _ ne
  on_put j file op reply ne = refl

  at_put : (j : ℕ) (o : Option File) (op : Op) (reply : Reply) → j ≢ i → after_at (set files i x) j o op reply ≡ put i x (after_at files j o op reply)
  at_put j None op reply ne = refl
  at_put j (Some file) op reply ne = on_put j file op reply ne

  refused_put : (o : Option Reply) (op : Op) (reply : Reply) → after_done (set files i x) op reply ≡ put i x (after_done files op reply) →
      after_refusal o (set files i x) op reply ≡ put i x (after_refusal o files op reply)
  refused_put None op reply done = done
  refused_put (Some refusal) op reply done = where_put (is_refusal refusal reply)

  done_put : (j : ℕ) (op : Op) (reply : Reply) → j ≢ i → after_at (set files i x) j (file_in (set files i x) j) op reply ≡ put i x (after_at files j (file_in files j) op reply)
  done_put j op reply ne = rw (get_or-set_other files i j x None ne) (at_put j (file_in files j) op reply ne)

  by_file : (j : ℕ) (op : Op) (reply : Reply) → j ≢ i → (refusal : Option File → Option Reply) → after_done (set files i x) op reply ≡ put i x (after_done files op reply) →
      after_refusal (refusal (file_in (set files i x) j)) (set files i x) op reply ≡ put i x (after_refusal (refusal (file_in files j)) files op reply)
  by_file j op reply ne refusal done = ap (λ (o : Option File). after_refusal (refusal o) (set files i x) op reply) (get_or-set_other files i j x None ne) ∙ refused_put (refusal (file_in files j)) op reply done

  by_length : (j : ℕ) (op : Op) (reply : Reply) (b : Bool) (refusal : Option File → Option Reply) → eqb (cond b 0 j) i ≡ false → (j ≢ i → after_done (set files i x) op reply ≡ put i x (after_done files op reply)) →
      after_refusal (cond b (Some TooLong) (refusal (file_in (set files i x) j))) (set files i x) op reply ≡ put i x (after_refusal (cond b (Some TooLong) (refusal (file_in files j))) files op reply)
  by_length j op reply true refusal h done = where_put (is_refusal TooLong reply)
  by_length j op reply false refusal h done = let ne = eqb-false j i h in by_file j op reply ne refusal (done ne)

  -- an operation that has nothing to do with number i
  pub after_put : (form : Form) (op : Op) (reply : Reply) → (eqb (number_of op) i || is_making i (Some reply)) ≡ false →
      after form (set files i x) op reply ≡ put i x (after form files op reply)
  unfolding after
  after_put form (Create kind) reply h = refused_put (cond (is_kind kind) None (Some BadType)) (Create kind) reply (create_put kind reply (or_parts _ _ h).1)
  after_put form (Write j off bytes) reply h =
      by_length j (Write j off bytes) reply (ltb 3072 (length bytes)) (λ o. write_refusal form o off (length bytes)) (or_parts _ _ h).0 (λ ne. done_put j (Write j off bytes) reply ne)
  after_put form (Read j off n) reply h =
      by_length j (Read j off n) reply (ltb 3072 n) (λ o. no_file_refusal o) (or_parts _ _ h).0 (λ ne. done_put j (Read j off n) reply ne)
  after_put form (Trunc j) reply h = let ne = eqb-false j i (or_parts _ _ h).0 in by_file j (Trunc j) reply ne no_file_refusal (done_put j (Trunc j) reply ne)
  after_put form (Remove j) reply h = let ne = eqb-false j i (or_parts _ _ h).0 in by_file j (Remove j) reply ne no_file_refusal (done_put j (Remove j) reply ne)
  after_put form (Stat j) reply h = let ne = eqb-false j i (or_parts _ _ h).0 in by_file j (Stat j) reply ne no_file_refusal (done_put j (Stat j) reply ne)
  after_put form (SetAttribute j attribute) reply h = let ne = eqb-false j i (or_parts _ _ h).0 in by_file j (SetAttribute j attribute) reply ne (λ o. attribute_refusal form o attribute) (done_put j (SetAttribute j attribute) reply ne)

same : (f : Files) (i : ℕ) (file : File) → file_in f i ≡ Some file → f ≡ set f i (Some file)
same f i file h = sym (ap (set f i) (sym h) ∙ set-get_or f i None)

-- what an operation on a file comes to depends on that file alone
module _ (m f : Files) where
  on_alike : (i : ℕ) (file : File) (op : Op) (reply : Reply) (new : Files) → file_in m i ≡ Some file → file_in f i ≡ Some file → after_on m i file op reply ≡ Some new → (x : Option File) × (new ≡ set m i x) × (after_on f i file op reply ≡ Some (set f i x))
  on_alike i file (Write k off bytes) (Wrote n) new hm hf h =
      let w = where_true_some _ _ new h in (with_bytes file (overwritten file.bytes off (take n bytes)), w.1, rw w.0 refl)
  on_alike i file (Read k off n) (Bytes bytes) new hm hf h =
      let w = where_true_some _ _ new h in (Some file, w.1 ∙ same m i file hm, rw w.0 (ap (λ (g : Files). Some g) (same f i file hf)))
  on_alike i file (Trunc k) Done new hm hf h = (with_bytes file [], cc h, refl)
  on_alike i file (Remove k) Done new hm hf h = (None, cc h, refl)
  on_alike i file (Stat k) (StatOf kind links size) new hm hf h =
      let w = where_true_some _ _ new h in (Some file, w.1 ∙ same m i file hm, rw w.0 (ap (λ (g : Files). Some g) (same f i file hf)))
  on_alike i file (SetAttribute k attribute) Done new hm hf h =
      let w = where_true_some _ _ new h in (Some (with_attribute file attribute), w.1, rw w.0 refl)
  on_alike i file (SetAttribute k attribute) (Wrote n) new hm hf h =
      let w = where_true_some _ _ new h in (with_bytes file (file.bytes ++ replicate n 0), w.1, rw w.0 refl)
  on_alike i file op reply new hm hf h = absurd (cc h)

  at_alike : (i : ℕ) (o : Option File) (op : Op) (reply : Reply) (new : Files) → file_in m i ≡ o → file_in f i ≡ o → after_at m i o op reply ≡ Some new → (x : Option File) × (new ≡ set m i x) × (after_at f i o op reply ≡ Some (set f i x))
  at_alike i None op reply new hm hf h = absurd (cc h)
  at_alike i (Some file) op reply new hm hf h = on_alike i file op reply new hm hf h

  -- with the same refusal, and the same file
  refused_alike : (i : ℕ) (o : Option Reply) (op : Op) (reply : Reply) (new : Files) → file_in f i ≡ file_in m i → after_done m op reply ≡ after_at m i (file_in m i) op reply → after_done f op reply ≡ after_at f i (file_in f i) op reply
      → after_refusal o m op reply ≡ Some new → (x : Option File) × (new ≡ set m i x) × (after_refusal o f op reply ≡ Some (set f i x))
  refused_alike i None op reply new e dm df h =
      let w = at_alike i (file_in m i) op reply new refl e (sym dm ∙ h) in (w.0, w.1, df ∙ ap (λ (p : Option File). after_at f i p op reply) e ∙ w.2)
  refused_alike i (Some refusal) op reply new e dm df h =
      let w = where_true_some _ _ new h in (file_in m i, w.1 ∙ sym (set-get_or m i None), rw w.0 (ap (λ (g : Files). Some g) (sym (ap (set f i) (sym e) ∙ set-get_or f i None))))

  length_alike : (b : Bool) (i : ℕ) (op : Op) (reply : Reply) (new : Files) (refusal : Option File → Option Reply) → file_in f (cond b 0 i) ≡ file_in m (cond b 0 i) → after_done m op reply ≡ after_at m i (file_in m i) op reply → after_done f op reply ≡ after_at f i (file_in f i) op reply
      → after_refusal (cond b (Some TooLong) (refusal (file_in m i))) m op reply ≡ Some new → (x : Option File) × (new ≡ set m (cond b 0 i) x) × (after_refusal (cond b (Some TooLong) (refusal (file_in f i))) f op reply ≡ Some (set f (cond b 0 i) x))
  length_alike true i op reply new refusal e dm df h =
      let w = where_true_some _ _ new h in (file_in m 0, w.1 ∙ sym (set-get_or m 0 None), rw w.0 (ap (λ (g : Files). Some g) (sym (ap (set f 0) (sym e) ∙ set-get_or f 0 None))))
  length_alike false i op reply new refusal e dm df h =
      let w = refused_alike i (refusal (file_in m i)) op reply new e dm df h in
      (w.0, w.1, ap (λ (p : Option File). after_refusal (refusal p) f op reply) e ∙ w.2)

  -- what a late operation comes to depends on its number's file alone, and changes that one alone
  pub after_alike : (form : Form) (op : Op) (reply : Reply) (new : Files) → is_late op ≡ true → file_in f (number_of op) ≡ file_in m (number_of op) → after form m op reply ≡ Some new
      → (x : Option File) × (new ≡ set m (number_of op) x) × (after form f op reply ≡ Some (set f (number_of op) x))
  unfolding after
  after_alike form (Create kind) reply new late e h = absurd (cc late)
  after_alike form (Trunc i) reply new late e h = absurd (cc late)
  after_alike form (Remove i) reply new late e h = absurd (cc late)
  after_alike form (Stat i) reply new late e h = absurd (cc late)
  after_alike form (SetAttribute i (Links n)) reply new late e h = absurd (cc late)
  after_alike form (SetAttribute i (Size n)) reply new late e h =
      let w = refused_alike i (attribute_refusal form (file_in m i) (Size n)) (SetAttribute i (Size n)) reply new e refl refl h in
      (w.0, w.1, ap (λ (o : Option File). after_refusal (attribute_refusal form o (Size n)) f (SetAttribute i (Size n)) reply) e ∙ w.2)
  after_alike form (Write i off bytes) reply new late e h = length_alike (ltb 3072 (length bytes)) i (Write i off bytes) reply new (λ o. write_refusal form o off (length bytes)) e refl refl h
  after_alike form (Read i off n) reply new late e h = length_alike (ltb 3072 n) i (Read i off n) reply new (λ o. no_file_refusal o) e refl refl h

put_then : (i : ℕ) (x : Option File) (o : Option Files) (f g : Files → Option Files) → ((files : Files) → f (set files i x) ≡ put i x (g files)) → and_then (put i x o) f ≡ put i x (and_then o g)
put_then i x None f g same = refl
put_then i x (Some files) f g same = same files

answer_put : (form : Form) (files : Files) (i : ℕ) (x : Option File) (op : Op) (reply : Option Reply) → (eqb (number_of op) i || is_making i reply) ≡ false →
    after_answer form (set files i x) op reply ≡ put i x (after_answer form files op reply)
answer_put form files i x op None h = refl
answer_put form files i x op (Some reply) h = after_put files i x form op reply h

-- a run of entries that have nothing to do with number i
pub replay_put : (form : Form) (i : ℕ) (x : Option File) (files : Files) (es : List Entry) → all_apart i es ≡ true → replay form (set files i x) es ≡ put i x (replay form files es)
replay_put form i x files [] h = refl
replay_put form i x files (e ∷ es) h =
    let parts = both_of (not (touches i e)) (all_apart i es) h in
    ap (λ o. and_then o (λ f. replay form f es)) (answer_put form files i x e.op e.reply (not-true (touches i e) parts.0))
    ∙ put_then i x (after_answer form files e.op e.reply) (λ f. replay form f es) (λ f. replay form f es) (λ f. replay_put form i x f es parts.1)

-- leave the number's file
pub frozen : (form : Form) (start files : Files) (es : List Entry) (i : ℕ) → i < length files → replay form start es ≡ Some files → all_apart i es ≡ true → file_in files i ≡ file_in start i
frozen form start files es i low m apart =
    let same : Some files ≡ Some (set files i (file_in start i)) = sym m ∙ ap (λ f. replay form f es) (sym (set-get_or start i None)) ∙ replay_put form i (file_in start i) start es apart ∙ ap (put i (file_in start i)) m in
    let whole : files ≡ set files i (file_in start i) = cc same in
    ap (λ f. file_in f i) whole ∙ get_or-set_same files i (file_in start i) None low

-- an entry at the head of them may as well stand at their end
pub decided : (form : Form) (start files new : Files) (es : List Entry) (op : Op) (r : Reply) → is_late op ≡ true → number_of op < length files → all_apart (number_of op) es ≡ true
    → replay form start es ≡ Some files → after form files op r ≡ Some new → and_then (after form start op r) (λ f. replay form f es) ≡ Some new
decided form start files new es op r late low apart m h =
    let w = after_alike files start form op r new late (sym (frozen form start files es (number_of op) low m apart)) h in
    ap (λ o. and_then o (λ f. replay form f es)) w.2 ∙ replay_put form (number_of op) w.0 start es apart ∙ ap (put (number_of op) w.0) m ∙ ap (λ (g : Files). Some g) (sym w.1)
