-- What a disk may leave, call by call, while a database is made.
use Rattle.std.specs.Prelude.{ℕ, ◌≡◌, ◌≢◌, ◌⊎◌, IsTrue, List, Result, length, replicate, refl}
use Rattle.std.proofs.Common.{inl, inr, sym, ◌∙◌, ap, subst, ⊎_elim, arith}
use Rattle.rdb_outside.specs.rdb_types.declared.file.FileId.{FileId}
use Rattle.rdb_outside.specs.rdb_types.declared.file.FileKind.TheVariants.{Root, Aij}
use Rattle.rdb_outside.specs.Disk.{Image, View, LeftNow, Pending, Counts, Keeps, Puts, Adds, IsStable, LeavesOnly, zeros}
use Rattle.rdb_outside.specs.Moments.{each_slot, started, goes_on, weaker}
use Rattle.new_database.specs.Maker.{root_file, aij_file, IsNone, IsUnmade, HasRoot, IsNew, IsNewOrNone, MakesNone}

apart : root_file ≡ aij_file → ⊥
apart same = let kinds : Root ≡ Aij = ap (λ f. f.kind) same in cc

-- what a slot may have after a crash, where there is no database
pending_none : (v : View) → IsUnmade v → (f : FileId) (i : ℕ) (x : List ℕ) → (f ≡ aij_file → i ≢ 0) → Pending v f i x → x ≡ zeros f
pending_none v unmade f i x other p = sym p.same ∙ unmade p.image p.left f i other

-- before the first call
pub no_calls : (v : View) → MakesNone v v
no_calls v = record {
  told = refl;
  later = omega arith;
  no_fewer = omega arith;
  unmade = λ tells unmade. unmade;
  leaves = λ tells unmade. started v IsNone unmade;
}

-- a call more, behind which there is no database still
one_call : {T E : Type 0} (old mid new : View) (r : Result T E) → MakesNone old mid → Counts mid new r → (IsTrue mid.tells → IsUnmade mid → IsUnmade new) → MakesNone old new
one_call old mid new r was counts still = record {
  told = counts.told ∙ was.told;
  later = omega (arith, was.later, counts.later);
  no_fewer = omega (arith, was.no_fewer, counts.no_fewer);
  unmade = λ tells unmade. still (told tells) (was.unmade tells unmade);
  leaves = λ tells unmade. goes_on old mid new IsNone r tells (was.leaves tells unmade) counts (still (told tells) (was.unmade tells unmade));
}
  where
    told : IsTrue old.tells → IsTrue mid.tells
    told tells = subst (λ b. IsTrue b) (sym was.told) tells

pub no_write : {T E : Type 0} (old mid new : View) (r : Result T E) → MakesNone old mid → Counts mid new r → (IsTrue mid.tells → Keeps mid new) → MakesNone old new
no_write old mid new r was counts keeps = one_call old mid new r was counts
    (λ tells unmade image left f i other. pending_none mid unmade f i (image f i) other ((keeps tells).pending f i (image f i) (each_slot new image left f i)))

pub zeros_written : {T E : Type 0} (file : FileId) (slot : ℕ) (bytes : List ℕ) (old mid new : View) (r : Result T E) → bytes ≡ zeros file → MakesNone old mid → Counts mid new r → (IsTrue mid.tells → Adds file slot bytes mid new) → MakesNone old new
zeros_written file slot bytes old mid new r zero was counts adds = one_call old mid new r was counts here
  where
    here : IsTrue mid.tells → IsUnmade mid → IsUnmade new
    here tells unmade image left f i other = ⊎_elim (pending_none mid unmade f i (image f i) other) (λ there. there.2 ∙ zero ∙ ap zeros (sym there.0)) (adds tells f i (image f i) (each_slot new image left f i))

pub header_written : {T E : Type 0} (header : List ℕ) (old mid new : View) (r : Result T E) → MakesNone old mid → Counts mid new r → (IsTrue mid.tells → Adds aij_file 0 header mid new) → MakesNone old new
header_written header old mid new r was counts adds = one_call old mid new r was counts here
  where
    here : IsTrue mid.tells → IsUnmade mid → IsUnmade new
    here tells unmade image left f i other = ⊎_elim (pending_none mid unmade f i (image f i) other) (λ there. absurd (other there.0 there.1)) (adds tells f i (image f i) (each_slot new image left f i))

-- a run behind another
pub then_none : (old mid new : View) → MakesNone old mid → MakesNone mid new → MakesNone old new
then_none old mid new was now = record {
  told = now.told ∙ was.told;
  later = omega (arith, was.later, now.later);
  no_fewer = omega (arith, was.no_fewer, now.no_fewer);
  unmade = λ tells unmade. now.unmade (told tells) (was.unmade tells unmade);
  leaves = λ tells unmade.
      let so_far = was.leaves tells unmade in
      let next = now.leaves (told tells) (was.unmade tells unmade) in
      record {
        told = now.told ∙ was.told;
        later = omega (arith, was.later, now.later);
        each = λ image left. ⊎_elim (so_far.each image) (λ none. none) (next.before old.moment image was.later left);
        before = λ t image le left. ⊎_elim (so_far.before t image le) (λ none. inr none) (next.before t image (omega (arith, le, was.later)) left);
      };
}
  where
    told : IsTrue old.tells → IsTrue mid.tells
    told tells = subst (λ b. IsTrue b) (sym was.told) tells

-- no database, so none or a new one
pub none_so_far : (header root : List ℕ) (old new : View) → MakesNone old new → IsTrue old.tells → IsUnmade old → LeavesOnly old new (IsNewOrNone header root)
none_so_far header root old new none tells unmade = weaker old new IsNone (IsNewOrNone header root) (λ image is. inl is) (none.leaves tells unmade)

-- the disk tells, and every crash up to now leaves no database or the new one
pub record Goes (header root : List ℕ) (old new : View) : Type 0 where
  pub tells : IsTrue new.tells
  pub leaves : LeavesOnly old new (IsNewOrNone header root)

call : {T E : Type 0} (header root : List ℕ) (old mid new : View) (r : Result T E) → IsTrue old.tells → Goes header root old mid → Counts mid new r → ((image : Image) → LeftNow new image → IsNewOrNone header root image) → Goes header root old new
call header root old mid new r tells so_far counts here = record {
  tells = subst (λ b. IsTrue b) (sym counts.told) so_far.tells;
  leaves = goes_on old mid new (IsNewOrNone header root) r tells so_far.leaves counts here;
}

-- only the header may stand there
pub record HasHeader (header : List ℕ) (image : Image) : Type 0 where
  pub here : image aij_file 0 ≡ header
  pub rest : IsNone image

-- the header is there
pub record Headed (header root : List ℕ) (old new : View) : Type 0 where
  pub goes : Goes header root old new
  pub stable : IsStable new
  pub content : HasHeader header new.content

pub header_there : (header root : List ℕ) (old first second new : View) → IsTrue old.tells → IsUnmade old → MakesNone old first → MakesNone old second → MakesNone old new → (IsTrue first.tells → Puts aij_file 0 header first.content second.content)
    → (IsTrue second.tells → Keeps second new) → (IsTrue second.tells → IsStable new) → (IsTrue new.tells → LeftNow new new.content) → Headed header root old new
header_there header root old first second new tells unmade at_first at_second now puts keeps stable told = record {
  goes = record { tells = new_tells; leaves = none_so_far header root old new now tells unmade };
  stable = stable second_tells;
  content = record {
    here = (keeps second_tells).content aij_file 0 ∙ (puts first_tells).here;
    rest = now.unmade tells unmade new.content (told new_tells);
  };
}
  where
    first_tells : IsTrue first.tells
    first_tells = subst (λ b. IsTrue b) (sym at_first.told) tells

    second_tells : IsTrue second.tells
    second_tells = subst (λ b. IsTrue b) (sym at_second.told) tells

    new_tells : IsTrue new.tells
    new_tells = subst (λ b. IsTrue b) (sym now.told) tells

-- the root is on its way
pub record Rooting (header root : List ℕ) (old new : View) (base : Image) : Type 0 where
  pub goes : Goes header root old new
  pub pending : (f : FileId) (i : ℕ) (x : List ℕ) → Pending new f i x → (x ≡ base f i) ⊎ ((f ≡ root_file) × (i ≡ 0) × (x ≡ root))
  pub headed : HasHeader header base

new_or_none : (header root : List ℕ) (new : View) (base : Image) → HasHeader header base → ((f : FileId) (i : ℕ) (x : List ℕ) → Pending new f i x → (x ≡ base f i) ⊎ ((f ≡ root_file) × (i ≡ 0) × (x ≡ root)))
    → (image : Image) → LeftNow new image → IsNewOrNone header root image
new_or_none header root new base headed pending image left = ⊎_elim (λ same. inl (is_none (same ∙ headed.rest root_file 0 (λ as_aij. absurd (apart as_aij))))) (λ there. inr (is_new there.2)) (slot root_file 0)
  where
    slot : (f : FileId) (i : ℕ) → (image f i ≡ base f i) ⊎ ((f ≡ root_file) × (i ≡ 0) × (image f i ≡ root))
    slot f i = pending f i (image f i) (each_slot new image left f i)

    at_root : (f : FileId) (i : ℕ) → f ≡ root_file → i ≡ 0 → image root_file 0 ≡ zeros root_file → image f i ≡ zeros f
    at_root f i file first zero = ap (λ g. image g i) file ∙ ap (λ n. image root_file n) first ∙ zero ∙ ap zeros (sym file)

    is_none : image root_file 0 ≡ zeros root_file → IsNone image
    is_none zero f i other = ⊎_elim (λ same. same ∙ headed.rest f i other) (λ there. at_root f i there.0 there.1 zero) (slot f i)

    is_new : image root_file 0 ≡ root → IsNew header root image
    is_new is = record {
      root_slot = is;
      header_slot = ⊎_elim (λ same. same ∙ headed.here) (λ there. absurd (apart (sym there.0))) (slot aij_file 0);
      rest = λ f i not_root not_aij. ⊎_elim (λ same. same ∙ headed.rest f i not_aij) (λ there. absurd (not_root there.0 there.1)) (slot f i);
    }

pub after_root : {T E : Type 0} (header root : List ℕ) (old mid new : View) (r : Result T E) → IsTrue old.tells → Headed header root old mid → Counts mid new r → (IsTrue mid.tells → Adds root_file 0 root mid new) → Rooting header root old new mid.content
after_root header root old mid new r tells was counts adds = record { goes = call header root old mid new r tells was.goes counts (new_or_none header root new mid.content was.content here); pending = here; headed = was.content }
  where
    here : (f : FileId) (i : ℕ) (x : List ℕ) → Pending new f i x → (x ≡ mid.content f i) ⊎ ((f ≡ root_file) × (i ≡ 0) × (x ≡ root))
    here f i x p = ⊎_elim (λ p. inl (was.stable f i x p)) (λ there. inr there) (adds was.goes.tells f i x p)

pub after_last : {T E : Type 0} (header root : List ℕ) (old mid new : View) (base : Image) (r : Result T E) → IsTrue old.tells → Rooting header root old mid base → Counts mid new r → (IsTrue mid.tells → Keeps mid new) → Rooting header root old new base
after_last header root old mid new base r tells was counts keeps = record { goes = call header root old mid new r tells was.goes counts (new_or_none header root new base was.headed here); pending = here; headed = was.headed }
  where
    here : (f : FileId) (i : ℕ) (x : List ℕ) → Pending new f i x → (x ≡ base f i) ⊎ ((f ≡ root_file) × (i ≡ 0) × (x ≡ root))
    here f i x p = was.pending f i x ((keeps was.goes.tells).pending f i x p)

pub made : (header root : List ℕ) (old third fourth new : View) → Headed header root old third → Rooting header root old fourth third.content → (IsTrue third.tells → Puts root_file 0 root third.content fourth.content)
    → (IsTrue fourth.tells → Keeps fourth new) → (IsTrue fourth.tells → IsStable new) → (image : Image) → LeftNow new image → IsNew header root image
made header root old third fourth new headed rooting puts keeps stable image left = record {
  root_slot = is root_file 0 ∙ (puts headed.goes.tells).here;
  header_slot = is aij_file 0 ∙ (puts headed.goes.tells).others aij_file 0 (λ same. absurd (apart (sym same))) ∙ headed.content.here;
  rest = λ f i not_root not_aij. is f i ∙ (puts headed.goes.tells).others f i not_root ∙ headed.content.rest f i not_aij;
}
  where
    is : (f : FileId) (i : ℕ) → image f i ≡ fourth.content f i
    is f i = stable rooting.goes.tells f i (image f i) (each_slot new image left f i) ∙ (keeps rooting.goes.tells).content f i

-- a root slot that was read as zeros
pub no_root_there : (old : View) (slot : List ℕ) → length slot ≡ 1024 → slot ≡ old.content root_file 0 → slot ≡ replicate (length slot) 0 → HasRoot old.content → ⊥
no_root_there old slot size is none stands = stands (sym is ∙ none ∙ ap (λ (n : ℕ). replicate n 0) size)
