-- Call by call: before the root that guards, behind it, and while it is replaced.
use Rattle.std.specs.Prelude.{ℕ, ◌≡◌, ◌≢◌, ◌⊎◌, IsTrue, List, Result}
use Rattle.std.proofs.Common.{inl, inr, sym, ◌∙◌, subst, ⊎_elim, refl}
use Rattle.rdb_types.specs.declared.file.FileId.{FileId}
use Rattle.rdb_outside.specs.Disk.{Image, View, LeftNow, Pending, Counts, Keeps, Puts, Adds, IsStable, LeavesOnly, IsPending}
use Rattle.rdb_outside.specs.Moments.{each_slot, started, goes_on}
use Rattle.root_file.specs.declared.Root.{Root}
use Rattle.root_file.specs.Root.{IsRoot}
use Rattle.new_database.specs.Maker.{root_file}
use Rattle.guarded_root.specs.Guarded.{IsRootIn, IsInState, IsGuarded, BeforeOrIn, IsEndOf, InOrEnd, PendingOrEnd}

-- a run of calls: the disk tells, and every crash so far leaves what has P
pub record Goes (P : Image → Type 0) (old new : View) : Type 0 where
  pub tells : IsTrue new.tells
  pub leaves : LeavesOnly old new P

pub begins : (P : Image → Type 0) (v : View) → IsTrue v.tells → ((image : Image) → LeftNow v image → P image) → Goes P v v
begins P v tells here = record { tells = tells; leaves = started v P here }

pub call : {T E : Type 0} (P : Image → Type 0) (old mid new : View) (r : Result T E) → IsTrue old.tells → Goes P old mid → Counts mid new r → ((image : Image) → LeftNow new image → P image) → Goes P old new
call P old mid new r tells so_far counts here = record {
  tells = subst (λ b. IsTrue b) (sym counts.told) so_far.tells;
  leaves = goes_on old mid new P r tells so_far.leaves counts here;
}

-- ---- the root that guards is on its way

abbrev pub IsGuarding : View → ℕ → View → Type 0
IsGuarding old state new = (f : FileId) (i : ℕ) (x : List ℕ) → Pending new f i x → Pending old f i x ⊎ ((f ≡ root_file) × (i ≡ 0) × IsRootIn state x)

-- the slot of the root, or another
root_or_other : (P : FileId → ℕ → List ℕ → Type 0) (image : Image) (Q : Type 0) → ((f : FileId) (i : ℕ) → P f i (image f i) ⊎ ((f ≡ root_file) × (i ≡ 0) × Q)) → P root_file 0 (image root_file 0) ⊎ Q
root_or_other P image Q each = ⊎_elim (λ was. inl was) (λ there. inr there.2) (each root_file 0)

pub before_or_in : (old : View) (state : ℕ) (new : View) → IsGuarding old state new → (image : Image) → LeftNow new image → BeforeOrIn old state image
before_or_in old state new guarding image left = ⊎_elim (λ was. inl (before was)) (λ there. inr there.2) (slot root_file 0)
  where
    slot : (f : FileId) (i : ℕ) → Pending old f i (image f i) ⊎ ((f ≡ root_file) × (i ≡ 0) × IsRootIn state (image f i))
    slot f i = guarding f i (image f i) (each_slot new image left f i)

    before : Pending old root_file 0 (image root_file 0) → IsPending old image
    before root f i = ⊎_elim (λ was. was) (λ there. subst (λ (n : ℕ). Pending old f n (image f n)) (sym there.1) (subst (λ (g : FileId). Pending old g 0 (image g 0)) (sym there.0) root)) (slot f i)

pub guards : (old : View) (bytes : List ℕ) (root : Root) (new : View) → IsRoot bytes root → Adds root_file 0 bytes old new → IsGuarding old root.state new
guards old bytes root new is adds f i x p = ⊎_elim (λ was. inl was) (λ there. inr (there.0, there.1, record { root = root; is = subst (λ s. IsRoot s root) (sym there.2) is; same = refl })) (adds f i x p)

pub still_guards : (old : View) (state : ℕ) (mid new : View) → IsGuarding old state mid → Keeps mid new → IsGuarding old state new
still_guards old state mid new guarding keeps f i x p = guarding f i x (keeps.pending f i x p)

pub guarded_now : (bytes : List ℕ) (root : Root) (old mid new : View) → IsRoot bytes root → Puts root_file 0 bytes old.content mid.content → Keeps mid new → IsStable new → IsGuarded root.state new
guarded_now bytes root old mid new is puts keeps stable x p = record {
  root = root;
  is = subst (λ s. IsRoot s root) (sym (stable root_file 0 x p ∙ keeps.content root_file 0 ∙ puts.here)) is;
  same = refl;
}

-- ---- behind it

pub stays_guarded : (state : ℕ) (file : FileId) (slot : ℕ) (bytes : List ℕ) (old new : View) → file ≢ root_file → Adds file slot bytes old new → IsGuarded state old → IsGuarded state new
stays_guarded state file slot bytes old new other adds was x p = ⊎_elim (λ before. was x before) (λ there. absurd (other (sym there.0))) (adds root_file 0 x p)

pub keeps_guarded : (state : ℕ) (old new : View) → Keeps old new → IsGuarded state old → IsGuarded state new
keeps_guarded state old new keeps was x p = was x (keeps.pending root_file 0 x p)

pub in_state : (state : ℕ) (v : View) → IsGuarded state v → (image : Image) → LeftNow v image → IsInState state image
in_state state v guarded image left = guarded (image root_file 0) (each_slot v image left root_file 0)

-- ---- the root of the end is on its way

abbrev pub IsEnding : Image → List ℕ → View → Type 0
IsEnding content bytes new = (f : FileId) (i : ℕ) (x : List ℕ) → Pending new f i x → (x ≡ content f i) ⊎ ((f ≡ root_file) × (i ≡ 0) × (x ≡ bytes))

pub ending : (content : Image) (bytes : List ℕ) (mid new : View) → ((f : FileId) (i : ℕ) → mid.content f i ≡ content f i) → IsStable mid → Adds root_file 0 bytes mid new → IsEnding content bytes new
ending content bytes mid new same stable adds f i x p = ⊎_elim (λ was. inl (stable f i x was ∙ same f i)) (λ there. inr there) (adds f i x p)

pub in_or_end : (state : ℕ) (content : Image) (bytes : List ℕ) (root : Root) (new : View) → IsRoot bytes root → IsRootIn state (content root_file 0) → IsEnding content bytes new → (image : Image) → LeftNow new image → InOrEnd state content root image
in_or_end state content bytes root new is was ending image left = ⊎_elim (λ same. inl (subst (λ s. IsRootIn state s) (sym same) was)) (λ there. inr (ends there.2)) (slot root_file 0)
  where
    slot : (f : FileId) (i : ℕ) → (image f i ≡ content f i) ⊎ ((f ≡ root_file) × (i ≡ 0) × (image f i ≡ bytes))
    slot f i = ending f i (image f i) (each_slot new image left f i)

    ends : image root_file 0 ≡ bytes → IsEndOf content root image
    ends here = record {
      is = subst (λ s. IsRoot s root) (sym here) is;
      others = λ f i other. ⊎_elim (λ same. same) (λ there. absurd (other there.0 there.1)) (slot f i);
    }

-- the same of what a crash might have left before
pub pending_or_end : (old : View) (bytes : List ℕ) (root : Root) (new : View) → IsRoot bytes root → LeftNow old old.content → IsEnding old.content bytes new → (image : Image) → LeftNow new image → PendingOrEnd old root image
pending_or_end old bytes root new is left_now ending image left = ⊎_elim (λ same. inl (before same)) (λ there. inr (ends there.2)) (slot root_file 0)
  where
    slot : (f : FileId) (i : ℕ) → (image f i ≡ old.content f i) ⊎ ((f ≡ root_file) × (i ≡ 0) × (image f i ≡ bytes))
    slot f i = ending f i (image f i) (each_slot new image left f i)

    here : (f : FileId) (i : ℕ) → image f i ≡ old.content f i → Pending old f i (image f i)
    here f i same = subst (λ (x : List ℕ). Pending old f i x) (sym same) (each_slot old old.content left_now f i)

    before : image root_file 0 ≡ old.content root_file 0 → IsPending old image
    before same f i = ⊎_elim (λ is_same. here f i is_same) (λ there. subst (λ (n : ℕ). Pending old f n (image f n)) (sym there.1) (subst (λ (g : FileId). Pending old g 0 (image g 0)) (sym there.0) (here root_file 0 same))) (slot f i)

    ends : image root_file 0 ≡ bytes → IsEndOf old.content root image
    ends at = record {
      is = subst (λ s. IsRoot s root) (sym at) is;
      others = λ f i other. ⊎_elim (λ same. same) (λ there. absurd (other there.0 there.1)) (slot f i);
    }

pub ended : (content : Image) (bytes : List ℕ) (root : Root) (first second third new : View) → IsRoot bytes root → Keeps first second → ((f : FileId) (i : ℕ) → first.content f i ≡ content f i) → Puts root_file 0 bytes second.content third.content → Keeps third new → IsStable new → (image : Image) → LeftNow new image → IsEndOf content root image
ended content bytes root first second third new is keeps same puts last stable image left = record {
  is = subst (λ s. IsRoot s root) (sym (at root_file 0 ∙ puts.here)) is;
  others = λ f i other. at f i ∙ puts.others f i other ∙ keeps.content f i ∙ same f i;
}
  where
    at : (f : FileId) (i : ℕ) → image f i ≡ third.content f i
    at f i = stable f i (image f i) (each_slot new image left f i) ∙ last.content f i
