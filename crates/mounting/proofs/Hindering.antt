-- Why requests are not done, from why calls of a tree are not.
use Rattle.std.proofs.Common.{◌≡◌, ◌≢◌, ◌∙◌, ℕ, ◌+◌, ◌^◌, ◌<◌, ◌≤◌, Bool, true, false, cond, ltb, List, length, take, drop, replicate, Option, Some, None, ap, inl, inr, refl, sym, subst, ⊎_elim, arith}
use Rattle.std.specs.Prelude.{Result, Ok, Err, IfErr, IfOk}
use Rattle.std.proofs.lemmas.Bool.{cases_eq, le-ltb}
use Rattle.std.proofs.lemmas.List.{length-drop, length-take}
use Rattle.std.proofs.lemmas.Result.{IfErr-weaker}
use Rattle.blocks.specs.Disk.{Image}
use Rattle.blocks.specs.declared.disk.Disk.{Ghosts}
use Rattle.calls.specs.Calls.{image_on}
use Rattle.calls.specs.Stepping.{Plain}
use Rattle.calls.specs.Stopped.{StaysOver}
use Rattle.calls.specs.declared.transactions.fault.TransactionFault.TheVariants as call_fault
use Rattle.directories.specs.declared.path.PathFault.TheVariants as path_fault
use Rattle.directories.specs.declared.refusal.Refusal.{Refusal}
use Rattle.directories.specs.Trees.{bytes_of}
use Rattle.model.specs.declared.types.image.Form.{Form}
use Rattle.model.specs.declared.types.image.File.{File}
use Rattle.model.specs.declared.types.operations.Op.TheVariants.{Write}
use Rattle.model.specs.declared.types.operations.Reply.TheVariants.{BadOffset, TooBig, TooLong}
use Rattle.model.specs.Files.{Files, file_in, files_of}
use Rattle.model.specs.Layout.{greatest_size}
use Rattle.model.specs.Operations.{refusal_of, write_refusal}
use Rattle.mounting.specs.declared.errno.Errno.{Errno}
use Rattle.mounting.specs.declared.errno.Errno.TheVariants as errno
use Rattle.mounting.specs.Causes.{IsHindered, IsLost, IsNotDone, IsRefusedBy, IsUnlengthened, Leaves, WroteBehind, WrotePart, fault_errno, fault_errno_by, number_of, unwritten_errno}
use Rattle.mounting.specs.Changes.{bytes_on, EndsAt, HasLength, StandsAt, StaysIfRefused}
use Rattle.names.specs.declared.refusal.TreeFault.{TreeFault}
use Rattle.names.specs.declared.refusal.TreeFault.TheVariants.{Path, Refused, Call, NoSpace, NoCall}
use Rattle.names.specs.declared.writing.Unwritten.{Unwritten}
use Rattle.names.specs.declared.writing.Unwritten.TheVariants as unwritten
use Rattle.names.specs.Inside.{form_seen}
use Rattle.names.specs.Lemmas.Over.{form_stays}
use Rattle.names.specs.Numbered.{WritesSome, WritesSomeOf}
use Rattle.names.specs.Ready.{HasNoCall, IsReady, IsReadyBehind, IsUnansweredOr, MayGoOn}
use Rattle.names.specs.Writing.{reply_of}

-- two things that are so of a result
pub if_ok_both : {T E : Type 0} {P Q S : T → Type 0} (r : Result T E) → ((t : T) → P t → Q t → S t) → IfOk r P → IfOk r Q → IfOk r S
if_ok_both (Ok t) on p q = on t p q
if_ok_both (Err e) on p q = tt

never_long : (a b c : Bool) → a ≡ false → cond a (Some TooLong) (cond b (Some BadOffset) (cond c (Some TooBig) None)) ≡ Some TooLong → ⊥
never_long true b c not h = absurd (cc not)
never_long false true c not h = absurd (cc h)
never_long false false true not h = absurd (cc h)
never_long false false false not h = absurd (cc h)

never_far : (a b c : Bool) → b ≡ false → cond a (Some TooLong) (cond b (Some BadOffset) (cond c (Some TooBig) None)) ≡ Some BadOffset → ⊥
never_far true b c not h = absurd (cc h)
never_far false true c not h = absurd (cc not)
never_far false false true not h = absurd (cc h)
never_far false false false not h = absurd (cc h)

-- A kernel that refuses no more bytes than a call may write, behind no more than the file has, does so
-- since the file would be too large.
too_big : (form : Form) (files new : Files) (number at : ℕ) (bytes : List ℕ) (cause : Unwritten) → length bytes ≤ 3072 → at ≤ length (bytes_of (file_in files number)) → WritesSomeOf form number at bytes (Err cause) files new → cause ≡ unwritten.TooBig
too_big form files new number at bytes unwritten.TooBig few far writes = refl
too_big form files new number at bytes unwritten.TooLong few far writes =
    let file = writes.file in
    let why = ap (λ (o : Option File). cond (ltb 3072 (length bytes)) (Some TooLong) (write_refusal form o at (length bytes))) (sym writes.plain.there) ∙ writes.writes.1 in
    absurd (never_long (ltb 3072 (length bytes)) (ltb (length file.bytes) at) (ltb (greatest_size form) (at + length bytes)) (le-ltb 3072 (length bytes) few) why)
too_big form files new number at bytes unwritten.BadOffset few far writes =
    let file = writes.file in
    let low : at ≤ length file.bytes = subst (λ (l : List ℕ). at ≤ length l) (ap bytes_of writes.plain.there) far in
    let why = ap (λ (o : Option File). cond (ltb 3072 (length bytes)) (Some TooLong) (write_refusal form o at (length bytes))) (sym writes.plain.there) ∙ writes.writes.1 in
    absurd (never_far (ltb 3072 (length bytes)) (ltb (length file.bytes) at) (ltb (greatest_size form) (at + length bytes)) (le-ltb (length file.bytes) at low) why)

module _ {D N : Type 0} (disk : Ghosts D N) where
  -- a call that is not done, from what it ensures
  pub call_hindered : {S T : Type 0} (hinders : TreeFault → Type 0) (why : Files → Refusal → Type 0) (t u : S) (k m : Plain D) (left less : ℕ) (r : Result T TreeFault) → (hinders NoSpace → ⊥) → MayGoOn disk k left
      → (left ≡ 0 → HasNoCall t u r) → IsReadyBehind disk m less r → (IsReady disk k left → IfErr r (IsUnansweredOr hinders disk why k m)) → IfErr r (IsNotDone disk why m less)
  call_hindered hinders why t u k m left less (Ok made) never ready none behind refused = tt
  call_hindered hinders why t u k m left less (Err (Path cause)) never ready none behind refused =
      ⊎_elim (λ (zero : left ≡ 0). absurd (none zero)) (λ (some : left ≢ 0). absurd (refused (ready (omega (arith, some))))) (cases_eq left 0)
  call_hindered hinders why t u k m left less (Err (Refused cause)) never ready none behind refused =
      ⊎_elim (λ (zero : left ≡ 0). absurd (none zero))
      (λ (some : left ≢ 0). let is = refused (ready (omega (arith, some))) in subst (λ (files : Files). why files cause) (sym is.0) is.1) (cases_eq left 0)
  call_hindered hinders why t u k m left less (Err (Call (call_fault.Disk cause))) never ready none behind refused = inl (refl, behind)
  call_hindered hinders why t u k m left less (Err (Call call_fault.NoMemory)) never ready none behind refused = inr refl
  call_hindered hinders why t u k m left less (Err (Call call_fault.NoRoom)) never ready none behind refused = inl (refl, behind)
  call_hindered hinders why t u k m left less (Err NoSpace) never ready none behind refused =
      ⊎_elim (λ (zero : left ≡ 0). absurd (none zero)) (λ (some : left ≢ 0). absurd (never (refused (ready (omega (arith, some)))).0)) (cases_eq left 0)
  call_hindered hinders why t u k m left less (Err NoCall) never ready none behind refused = inl (refl, behind)

  -- fewer bytes, from what a write ensures
  pub wrote_part : (number offset : ℕ) (bytes : List ℕ) (k m : Plain D) (done : Result ℕ Unwritten) → StaysOver disk k m → WritesSome disk number offset bytes k m done → WrotePart disk number offset bytes m done
  wrote_part number offset bytes k m (Ok count) stays some = some.full
  wrote_part number offset bytes k m (Err cause) stays some =
      let refused = some.writes.writes in
      subst (λ (form : Form). refusal_of form (files_of (image_on disk.image m)) (Write number offset bytes) ≡ Some (reply_of cause)) (sym (form_stays disk k m stays))
      (subst (λ (files : Files). refusal_of (form_seen disk.image k) files (Write number offset bytes) ≡ Some (reply_of cause)) (sym refused.0) refused.1)

  -- as the system's number has it
  pub undone_errno : (number : Refusal → Errno) (why : Files → Refusal → Type 0) (m : Plain D) (left : ℕ) (fault : TreeFault) → IsNotDone disk why m left fault
      → IsHindered disk (IsRefusedBy number why) m left (fault_errno_by number fault)
  undone_errno number why m left (Refused cause) is = inl (cause, (refl, is))
  undone_errno number why m left (Path path_fault.NameTooLong) is = inr is
  undone_errno number why m left (Path path_fault.ZeroByte) is = inr is
  undone_errno number why m left (Path path_fault.NoMemory) is = inr is
  undone_errno number why m left (Call (call_fault.Disk cause)) is = inr is
  undone_errno number why m left (Call call_fault.NoMemory) is = inr is
  undone_errno number why m left (Call call_fault.NoRoom) is = inr is
  undone_errno number why m left NoSpace is = inr is
  undone_errno number why m left NoCall is = inr is

  -- which the files didn't refuse
  pub undone_lost : (why : Files → Refusal → Type 0) (V : Form → Image → Errno → Type 0) (m : Plain D) (left : ℕ) (fault : TreeFault) → ((cause : Refusal) → fault ≡ Refused cause → ⊥) → IsNotDone disk why m left fault
      → IsHindered disk V m left (fault_errno fault)
  undone_lost why V m left (Refused cause) not is = absurd (not cause refl)
  undone_lost why V m left (Path path_fault.NameTooLong) not is = inr is
  undone_lost why V m left (Path path_fault.ZeroByte) not is = inr is
  undone_lost why V m left (Path path_fault.NoMemory) not is = inr is
  undone_lost why V m left (Call (call_fault.Disk cause)) not is = inr is
  undone_lost why V m left (Call call_fault.NoMemory) not is = inr is
  undone_lost why V m left (Call call_fault.NoRoom) not is = inr is
  undone_lost why V m left NoSpace not is = inr is
  undone_lost why V m left NoCall not is = inr is

  module _ (W V : Form → Image → Errno → Type 0) (within : (form : Form) (x : Image) (e : Errno) → W form x e → V form x e) (m : Plain D) (left : ℕ) where
    -- what is among other causes
    pub hindered_by : (e : Errno) → IsHindered disk W m left e → IsHindered disk V m left e
    hindered_by e why = ⊎_elim (λ (w : W (form_seen disk.image m) (image_on disk.image m) e). inl (within (form_seen disk.image m) (image_on disk.image m) e w)) (λ (lost : IsLost left e). inr lost) why

    pub err_by : {T : Type 0} (r : Result T Errno) → IfErr r (IsHindered disk W m left) → IfErr r (IsHindered disk V m left)
    err_by r why = IfErr-weaker r (IsHindered disk W m left) (IsHindered disk V m left) hindered_by why

    -- what a function returns that was told such a cause
    pub left_by : {T : Type 0} (r : Result T Errno) (e f : Errno) → r ≡ Err e → e ≡ f → IsHindered disk W m left f → IfErr r (IsHindered disk V m left)
    left_by r e f is same why =
        subst (λ (q : Result _ Errno). IfErr q (IsHindered disk V m left)) (sym is) (hindered_by e (subst (λ (g : Errno). IsHindered disk W m left g) (sym same) why))

  -- or the fault of a call
  pub left_call : {T : Type 0} (number : Refusal → Errno) (why : Files → Refusal → Type 0) (V : Form → Image → Errno → Type 0) (within : (form : Form) (x : Image) (e : Errno) → IsRefusedBy number why form x e → V form x e)
      (m : Plain D) (left : ℕ) (r : Result T Errno) (e : Errno) (fault : TreeFault) → r ≡ Err e → e ≡ fault_errno_by number fault → IsNotDone disk why m left fault → IfErr r (IsHindered disk V m left)
  left_call number why V within m left r e fault is same undone =
      left_by (IsRefusedBy number why) V within m left r e (fault_errno_by number fault) is same (undone_errno number why m left fault undone)

  -- or a cause of its own
  pub left_for : {T : Type 0} (V : Form → Image → Errno → Type 0) (m : Plain D) (left : ℕ) (r : Result T Errno) (e : Errno) → r ≡ Err e → V (form_seen disk.image m) (image_on disk.image m) e → IfErr r (IsHindered disk V m left)
  left_for V m left r e is why = subst (λ (q : Result _ Errno). IfErr q (IsHindered disk V m left)) (sym is) (inl why)

  -- or that memory is refused
  pub left_memory : {T : Type 0} (V : Form → Image → Errno → Type 0) (m : Plain D) (left : ℕ) (r : Result T Errno) (e : Errno) → r ≡ Err e → e ≡ errno.NoMemory → IfErr r (IsHindered disk V m left)
  left_memory V m left r e is same = subst (λ (q : Result _ Errno). IfErr q (IsHindered disk V m left)) (sym is) (inr (inr same))

  -- what holds of files where the files refused a call holds of those that are there behind it
  pub undone_there : (T : Type 0) (number : Refusal → Errno) (why : Files → Refusal → Type 0) (P : Files → Type 0) (k m : Plain D) (left : ℕ) (fault : TreeFault) → P (files_of (image_on disk.image k)) → StaysIfRefused {T = T} disk k m (Err fault)
      → IsNotDone disk why m left fault → IsHindered disk (λ form x e. P (files_of x) × IsRefusedBy number why form x e) m left (fault_errno_by number fault)
  undone_there T number why P k m left (Refused cause) holds same is = inl (subst P (sym same) holds, (cause, (refl, is)))
  undone_there T number why P k m left (Path path_fault.NameTooLong) holds same is = inr is
  undone_there T number why P k m left (Path path_fault.ZeroByte) holds same is = inr is
  undone_there T number why P k m left (Path path_fault.NoMemory) holds same is = inr is
  undone_there T number why P k m left (Call (call_fault.Disk cause)) holds same is = inr is
  undone_there T number why P k m left (Call call_fault.NoMemory) holds same is = inr is
  undone_there T number why P k m left (Call call_fault.NoRoom) holds same is = inr is
  undone_there T number why P k m left NoSpace holds same is = inr is
  undone_there T number why P k m left NoCall holds same is = inr is

  -- zeroes that a kernel refuses behind a file's end
  pub unlengthened : (number at to count : ℕ) (bytes : List ℕ) (k m : Plain D) (done : Result ℕ Unwritten) (cause : Unwritten) (e : Errno) → done ≡ Err cause → bytes ≡ replicate count 0 → length bytes ≤ 3072 → at + count ≤ to → EndsAt disk number k at
      → WritesSomeOf (form_seen disk.image k) number at bytes done (files_of (image_on disk.image k)) (files_of (image_on disk.image m)) → WrotePart disk number at bytes m done → e ≡ unwritten_errno cause
      → IsUnlengthened number to (form_seen disk.image m) (image_on disk.image m) e
  unlengthened number at to count bytes k m done cause e is zeroes few fits end writes part told =
      let refused = subst (λ (d : Result ℕ Unwritten). WritesSomeOf (form_seen disk.image k) number at bytes d (files_of (image_on disk.image k)) (files_of (image_on disk.image m))) is writes in
      let same : files_of (image_on disk.image m) ≡ files_of (image_on disk.image k) = refused.writes.0 in
      let big : cause ≡ unwritten.TooBig = too_big (form_seen disk.image k) (files_of (image_on disk.image k)) (files_of (image_on disk.image m)) number at bytes cause few (omega (arith, end)) refused in
      let why = subst (λ (d : Result ℕ Unwritten). WrotePart disk number at bytes m d) (is ∙ ap (λ (c : Unwritten). Err c) big) part in (
        told ∙ ap unwritten_errno big,
        (
          at,
          (
            count,
            fits,
            subst (λ (files : Files). HasLength files number at) (sym same) end,
            subst (λ (b : List ℕ). refusal_of (form_seen disk.image m) (files_of (image_on disk.image m)) (Write number at b) ≡ Some TooBig) zeroes why,
          ),
        ),
      )

  -- fewer bytes behind so many of these
  pub wrote_behind : (number offset at done n : ℕ) (bytes : List ℕ) (k m : Plain D) (r : Result ℕ Unwritten) → at ≡ offset + done → (done < length bytes → 0 < n) → n ≤ 3072 → StandsAt (bytes_on disk number k) offset bytes done
      → WritesSomeOf (form_seen disk.image k) number at (take n (drop done bytes)) r (files_of (image_on disk.image k)) (files_of (image_on disk.image m)) → WrotePart disk number at (take n (drop done bytes)) m r → WroteBehind disk number offset bytes done m r
  wrote_behind number offset at done n bytes k m (Ok count) same some most stands writes part = λ few none.
      let cut = length-take n (drop done bytes) in
      let left = length-drop done bytes in
      let more = some few in
      part (omega (arith, cut, left, more, few, none))
  wrote_behind number offset at done n bytes k m (Err cause) same some most stands writes part =
      let cut = length-take n (drop done bytes) in
      let far = stands.far in
      let big : cause ≡ unwritten.TooBig = too_big (form_seen disk.image k) (files_of (image_on disk.image k)) (files_of (image_on disk.image m)) number at (take n (drop done bytes)) cause (omega (arith, cut, most)) (omega (arith, far, same)) writes in
      let why = subst (λ (c : Unwritten). WrotePart disk number at (take n (drop done bytes)) m (Err c)) big part in
      (big, inl (done, (n, subst (λ (i : ℕ). refusal_of (form_seen disk.image m) (files_of (image_on disk.image m)) (Write number i (take n (drop done bytes))) ≡ Some TooBig) same why)))

  -- what an exit leaves of the files
  pub left_same : {T : Type 0} (part : Files → Files → Type 0) (k m : Plain D) (left : ℕ) (r : Result T Errno) (e : Errno) → r ≡ Err e → (0 < left → part (files_of (image_on disk.image k)) (files_of (image_on disk.image m)))
      → IfErr r (Leaves disk part k m left)
  left_same part k m left r e is kept = subst (λ (q : Result _ Errno). IfErr q (Leaves disk part k m left)) (sym is) (λ some not. kept some)

  pub left_full : {T : Type 0} (part : Files → Files → Type 0) (k m : Plain D) (left : ℕ) (r : Result T Errno) (e : Errno) → r ≡ Err e → e ≡ errno.NoMemory → IfErr r (Leaves disk part k m left)
  left_full part k m left r e is memory = subst (λ (q : Result _ Errno). IfErr q (Leaves disk part k m left)) (sym is) (λ some not. absurd (not memory))

  pub left_any : {T : Type 0} (part : Files → Files → Type 0) (k m : Plain D) (left : ℕ) (r : Result T Errno) → (0 < left → part (files_of (image_on disk.image k)) (files_of (image_on disk.image m))) → IfErr r (Leaves disk part k m left)
  left_any part k m left (Ok t) kept = tt
  left_any part k m left (Err e) kept = λ some not. kept some

  -- what a function returns that was told of it
  pub left_told : {T : Type 0} (part more : Files → Files → Type 0) (k m : Plain D) (left : ℕ) (r : Result T Errno) (e f : Errno) → r ≡ Err e → e ≡ f → (part (files_of (image_on disk.image k)) (files_of (image_on disk.image m)) → more (files_of (image_on disk.image k)) (files_of (image_on disk.image m)))
      → Leaves disk part k m left f → IfErr r (Leaves disk more k m left)
  left_told part more k m left r e f is same on kept =
      subst (λ (q : Result _ Errno). IfErr q (Leaves disk more k m left)) (sym is) (λ some not. on (kept some (λ memory. not (same ∙ memory))))

  -- behind what left them the same, or among more that may be left
  pub left_after : {T : Type 0} (part more : Files → Files → Type 0) (k m e : Plain D) (left : ℕ) (r : Result T Errno) → ((new : Files) → part (files_of (image_on disk.image m)) new → more (files_of (image_on disk.image k)) new)
      → IfErr r (Leaves disk part m e left) → IfErr r (Leaves disk more k e left)
  left_after part more k m e left r on kept = IfErr-weaker r (Leaves disk part m e left) (Leaves disk more k e left) (λ cause leaves some not. on (files_of (image_on disk.image e)) (leaves some not)) kept

-- the system's numbers
pub number_few : (e : Errno) → number_of e < 2 ^ 32
number_few errno.NotPermitted = omega arith
number_few errno.NoEntry = omega arith
number_few errno.InputOutput = omega arith
number_few errno.NoMemory = omega arith
number_few errno.Busy = omega arith
number_few errno.Exists = omega arith
number_few errno.NotADirectory = omega arith
number_few errno.IsADirectory = omega arith
number_few errno.Invalid = omega arith
number_few errno.TooBig = omega arith
number_few errno.NoSpace = omega arith
number_few errno.TooManyLinks = omega arith
number_few errno.NameTooLong = omega arith
number_few errno.NotSupported = omega arith
number_few errno.NotEmpty = omega arith

pub number_some : (e : Errno) → number_of e ≡ 0 → ⊥
number_some errno.NotPermitted is = omega (arith, is)
number_some errno.NoEntry is = omega (arith, is)
number_some errno.InputOutput is = omega (arith, is)
number_some errno.NoMemory is = omega (arith, is)
number_some errno.Busy is = omega (arith, is)
number_some errno.Exists is = omega (arith, is)
number_some errno.NotADirectory is = omega (arith, is)
number_some errno.IsADirectory is = omega (arith, is)
number_some errno.Invalid is = omega (arith, is)
number_some errno.TooBig is = omega (arith, is)
number_some errno.NoSpace is = omega (arith, is)
number_some errno.TooManyLinks is = omega (arith, is)
number_some errno.NameTooLong is = omega (arith, is)
number_some errno.NotSupported is = omega (arith, is)
number_some errno.NotEmpty is = omega (arith, is)
