-- One member stands otherwise, and the others as before.
use Rattle.std.specs.Prelude.{if◌then◌else◌}
use Rattle.std.proofs.Common.{◌≡◌, ◌≢◌, ℕ, zero, suc, ◌<◌, ◌==◌, Bool, true, false, List, [], ◌∷◌, length, Some, slice_get, ◌⊎◌, inl, inr, ⊎_elim, ap, sym, subst, ◌∙◌, refl, arith}
use Rattle.std.proofs.lemmas.Bool.{eqb-true, eqb-false}
use Rattle.line_opening.specs.stable_lines.Slots.{Undo}
use Rattle.rdb_outside.specs.Disk.{View}
use Rattle.disk_seats.specs.Ledgers.{Standing, resting, changing, broken, committing, undoing, entries_of, gained, Commit, Ledger, set_standing}
use Rattle.disk_seats.specs.Members.{AreApart, LedgerFacts, MayEnd}

pub within : {A : Type 0} (xs : List A) (i : ℕ) (x : A) → slice_get xs i ≡ Some x → i < length xs
within [] i x got = let bad : ⊥ = cc in absurd bad
within (y ∷ ys) zero x got = omega arith
within (y ∷ ys) (suc i) x got = let rest = within ys i x got in omega (arith, rest)

pub standing_is : (member : ℕ) (st : Standing) (was : ℕ → Standing) (m : ℕ) → ((m ≡ member) × (set_standing member st was m ≡ st)) ⊎ ((m ≢ member) × (set_standing member st was m ≡ was m))
standing_is member st was m = by (m == member) refl
  where
    by : (b : Bool) → (m == member) ≡ b → ((m ≡ member) × ((if m == member then st else was m) ≡ st)) ⊎ ((m ≢ member) × ((if m == member then st else was m) ≡ was m))
    by true is = inl (eqb-true m member is, ap (λ b. if b then st else was m) is)
    by false is = inr (eqb-false m member is, ap (λ b. if b then st else was m) is)

pub standing_here : (member : ℕ) (st : Standing) (was : ℕ → Standing) → set_standing member st was member ≡ st
standing_here member st was = ⊎_elim (λ here. here.1) (λ away. absurd (away.0 refl)) (standing_is member st was member)

pub standing_there : (member : ℕ) (st : Standing) (was : ℕ → Standing) (m : ℕ) → m ≢ member → set_standing member st was m ≡ was m
standing_there member st was m apart = ⊎_elim (λ here. absurd (apart here.0)) (λ away. away.1) (standing_is member st was m)

-- a member whose commit is under way stands otherwise than one whose isn't
pub commits_not : (standing : ℕ → Standing) (member other : ℕ) (all : List Undo) (st : Standing) → standing other ≡ committing all → standing member ≡ st → (committing all ≡ st → ⊥) → other ≢ member
commits_not standing member other all st its is off same = off (sym its ∙ (ap standing same ∙ is))

-- ---- no two members have a before-image of one line

moved : (a b : Standing) → a ≡ b → (i : ℕ) (undo : Undo) → slice_get (entries_of a) i ≡ Some undo → slice_get (entries_of b) i ≡ Some undo
moved a b same i undo got = ap (λ (s : Standing). slice_get (entries_of s) i) (sym same) ∙ got

pub apart_set : (was : ℕ → Standing) (member : ℕ) (st : Standing) → AreApart was → ((n i k : ℕ) (a b : Undo) → n ≢ member → slice_get (entries_of st) i ≡ Some a → slice_get (entries_of (was n)) k ≡ Some b → a.key ≢ b.key) → AreApart (set_standing member st was)
apart_set was member st before fresh m n i k a b ne p q = ⊎_elim
    (λ m_here. ⊎_elim
    (λ n_here. absurd (ne (m_here.0 ∙ sym n_here.0)))
    (λ n_there. fresh n i k a b n_there.0 (moved (set_standing member st was m) st m_here.1 i a p) (moved (set_standing member st was n) (was n) n_there.1 k b q))
    (standing_is member st was n))
    (λ m_there. ⊎_elim
    (λ n_here. λ same. fresh m k i b a m_there.0 (moved (set_standing member st was n) st n_here.1 k b q) (moved (set_standing member st was m) (was m) m_there.1 i a p) (sym same))
    (λ n_there. before m n i k a b ne (moved (set_standing member st was m) (was m) m_there.1 i a p) (moved (set_standing member st was n) (was n) n_there.1 k b q))
    (standing_is member st was n))
    (standing_is member st was m)

-- those that it has, or fewer
pub apart_fewer : (was : ℕ → Standing) (member : ℕ) (st : Standing) → AreApart was → ((i : ℕ) (a : Undo) → slice_get (entries_of st) i ≡ Some a → slice_get (entries_of (was member)) i ≡ Some a) → AreApart (set_standing member st was)
apart_fewer was member st before fewer = apart_set was member st before (λ n i k a b ne p q. before member n i k a b (λ same. ne (sym same)) (fewer i a p) q)

pub entries_gained : (st : Standing) → entries_of (gained st) ≡ entries_of st
entries_gained resting = refl
entries_gained (changing all n) = refl
entries_gained broken = refl
entries_gained (committing all) = refl
entries_gained (undoing all left) = refl

pub apart_gained : (was : ℕ → Standing) → AreApart was → AreApart (λ m. gained (was m))
apart_gained was before m n i k a b ne p q = before m n i k a b ne
    (ap (λ (l : List Undo). slice_get l i) (sym (entries_gained (was m))) ∙ p)
    (ap (λ (l : List Undo). slice_get l k) (sym (entries_gained (was n))) ∙ q)

pub no_entry : (st : Standing) → st ≡ resting → (i : ℕ) (undo : Undo) → slice_get (entries_of st) i ≡ Some undo → ⊥
no_entry st is i undo got = nothing (moved st resting is i undo got)
  where
    nothing : slice_get [] i ≡ Some undo → ⊥
    nothing bad = cc

-- whose commit is under way is another
module _ (v : View) (g : Ledger) (member : ℕ) (was : LedgerFacts v g) where
  pub not_changing : (all : List Undo) (n : ℕ) → g.standing member ≡ changing all n → (c : Commit) → g.commit ≡ Some c → c.member ≢ member
  not_changing all n is c there = commits_not g.standing member c.member c.transaction.entries (changing all n) (was.commit c there).its is (λ same. let bad : committing c.transaction.entries ≡ changing all n = same in cc)

  pub not_resting : g.standing member ≡ resting → (c : Commit) → g.commit ≡ Some c → c.member ≢ member
  not_resting is c there = commits_not g.standing member c.member c.transaction.entries resting (was.commit c there).its is (λ same. let bad : committing c.transaction.entries ≡ resting = same in cc)

  pub not_undoing : (all : List Undo) (n : ℕ) → g.standing member ≡ undoing all n → (c : Commit) → g.commit ≡ Some c → c.member ≢ member
  not_undoing all n is c there = commits_not g.standing member c.member c.transaction.entries (undoing all n) (was.commit c there).its is (λ same. let bad : committing c.transaction.entries ≡ undoing all n = same in cc)

  pub not_ending : MayEnd (g.standing member) → (c : Commit) → g.commit ≡ Some c → c.member ≢ member
  not_ending may c there same = subst (λ (s : Standing). MayEnd s) (ap g.standing (sym same) ∙ (was.commit c there).its) may
