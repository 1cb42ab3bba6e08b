-- Writes of snapshot slots, and slots that are given back.
use Rattle.std.proofs.Common.{ap, ◌⊎◌, inl, inr, ◌≡◌, ◌≤◌, ◌-◌, ℕ, ◌==◌, ◌&&◌, Bool, true, false, cond, List, refl, sym, ◌∙◌, subst, arith}
use Rattle.std.proofs.lemmas.Bool.{false≢true}
use Rattle.rdb_outside.specs.rdb_types.declared.file.FileId.{FileId}
use Rattle.rdb_outside.specs.rdb_types.declared.keys.Dbkey.{Dbkey}
use Rattle.rdb_outside.specs.rdb_types.declared.keys.Line.{Line}
use Rattle.rdb_outside.specs.Disk.{Image, Puts}
use Rattle.snapshot_file.specs.declared.entry.SnapEntry.{SnapEntry}
use Rattle.snapshot_file.specs.Entry.{IsEntry}
use Rattle.snapshot_file.proofs.Readings as readings
use Rattle.line_versions.specs.Versions.{snap_of, Entries, IsOneEach}
use Rattle.line_versions.specs.Files.{snap_file, StandsIn, entries_in}
use Rattle.line_versions.specs.Course.{pushed, IsChanged, Course, with_followed, with_entry, without_entry, IsNeeded, MayBeGiven, AreRight}
use Rattle.line_versions.proofs.Steps.{entries_other, lines_other, changed_first}

-- a slot is one entry at most
pub one_each : (image : Image) → IsOneEach (entries_in image)
one_each image file chain a b s t = readings.one_entry (image (snap_file file) (chain - 1)) a b s.is t.is

-- ---- writes

same_entries : (old new : Image) (file chain : ℕ) (e : SnapEntry) → new (snap_file file) (chain - 1) ≡ old (snap_file file) (chain - 1) → StandsIn old file chain e → StandsIn new file chain e
same_entries old new file chain e same s = record { number = s.number; is = subst (λ (b : List ℕ). IsEntry b e) (sym same) s.is }

-- Whatever is written to a slot that is not followed, and to any other file, the versions stand.
pub slot_written : (old new : Image) (file : FileId) (slot : ℕ) (bytes : List ℕ) (now : Dbkey → Line) (v : Course) → Puts file slot bytes old new →
    ((f chain : ℕ) → 1 ≤ chain → v.followed f chain ≡ true → file ≡ snap_file f → slot ≡ chain - 1 → ⊥) → AreRight (entries_in old) now v → AreRight (entries_in new) now v
slot_written old new file slot bytes now v puts free was =
    entries_other (entries_in old) (entries_in new) v.followed now v
    (λ f chain e stands followed needed. (same_entries old new f chain e (puts.others (snap_file f) (chain - 1) (λ same at. free f chain stands.number followed (sym same) (sym at))) stands, followed)) was

-- what was written there stands
pub entry_stands : (old new : Image) (file chain : ℕ) (bytes : List ℕ) (e : SnapEntry) → 1 ≤ chain → Puts (snap_file file) (chain - 1) bytes old new → IsEntry bytes e → entries_in new file chain e
entry_stands old new file chain bytes e number puts is = record { number = number; is = subst (λ (b : List ℕ). IsEntry b e) (sym puts.here) is }

-- ---- which slots may be followed

either : (b : Bool) (x : Bool) → x ≡ true → cond b true x ≡ true
either true x h = refl
either false x h = h

-- one slot more is followed
pub entry_held : (E : Entries) (file chain : ℕ) (now : Dbkey → Line) (v : Course) → AreRight E now v → AreRight E now (with_followed (with_entry file chain v.followed) v)
entry_held E file chain now v was =
    entries_other E E (with_entry file chain v.followed) now v (λ f c e stands followed needed. (stands, either ((f == file) && (c == chain)) (v.followed f c) followed)) was

-- A slot is given back. Whatever entry stands there, the transaction that pushed it has ended, and every reader sees that transaction.
pub given_back : (E : Entries) (file chain : ℕ) (now : Dbkey → Line) (v : Course) → ((e : SnapEntry) → E file chain e → MayBeGiven v e) → AreRight E now v → AreRight E now (with_followed (without_entry file chain v.followed) v)
given_back E file chain now v may was =
    entries_other E E (without_entry file chain v.followed) now v (λ f c e stands followed needed. (stands, by f c e stands needed ((f == file) && (c == chain)) refl (v.followed f c) followed)) was
  where
    first : (a b : Bool) → (a && b) ≡ true → a ≡ true
    first a b h = grind arith

    second : (a b : Bool) → (a && b) ≡ true → b ≡ true
    second a b h = grind arith

    number : (m n : ℕ) → (m == n) ≡ true → m ≡ n
    number m n h = grind arith

    never : (e : SnapEntry) → E file chain e → IsNeeded v e → ⊥
    never e stands (inl goes) = false≢true (sym ((may e stands).ended) ∙ goes)
    never e stands (inr n) = false≢true (sym n.3 ∙ (may e stands).seen n.0 n.1 n.2)

    by : (f c : ℕ) (e : SnapEntry) → E f c e → IsNeeded v e → (b : Bool) → ((f == file) && (c == chain)) ≡ b → (x : Bool) → x ≡ true → cond b false x ≡ true
    by f c e stands needed true is x h =
        let at : f ≡ file = number f file (first (f == file) (c == chain) is) in
        let on : c ≡ chain = number c chain (second (f == file) (c == chain) is) in
        absurd (never e (subst (λ (n : ℕ). E file n e) on (subst (λ (m : ℕ). E m c e) at stands)) needed)
    by f c e stands needed false is x h = h

-- ---- a first change

-- The line as it stands was written to a slot that isn't followed, and the line is changed.
pub first_change : (old new : Image) (bytes : List ℕ) (now then : Dbkey → Line) (v : Course) (key : Dbkey) (line : Line) → 1 ≤ line.chain → v.followed (snap_of key) line.chain ≡ false →
    Puts (snap_file (snap_of key)) (line.chain - 1) bytes old new → entries_in new (snap_of key) line.chain (pushed key line.tsn (now key)) → v.going (now key).tsn.number ≡ false → v.going line.tsn.number ≡ true →
    ((k : Dbkey) → (then k ≡ now k) ⊎ ((k ≡ key) × (then k ≡ line))) → AreRight (entries_in old) now v → AreRight (entries_in new) then (with_followed (with_entry (snap_of key) line.chain v.followed) v)
first_change old new bytes now then v key line number free puts stands ended going each right = lines_other (entries_in new) now then (with_followed (with_entry (snap_of key) line.chain v.followed) v) (λ k. by k (each k)) there
  where
    apart : (f chain : ℕ) → 1 ≤ chain → v.followed f chain ≡ true → snap_file (snap_of key) ≡ snap_file f → line.chain - 1 ≡ chain - 1 → ⊥
    apart f chain low followed same at =
        let file : snap_of key ≡ f = ap (λ (i : FileId). i.number) same in
        let on : line.chain ≡ chain = omega (arith, low, number, at) in
        false≢true (sym free ∙ (ap (λ (n : ℕ). v.followed (snap_of key) n) on ∙ (ap (λ (m : ℕ). v.followed m chain) file ∙ followed)))

    there : AreRight (entries_in new) now (with_followed (with_entry (snap_of key) line.chain v.followed) v)
    there = entry_held (entries_in new) (snap_of key) line.chain now v (slot_written old new (snap_file (snap_of key)) (line.chain - 1) bytes now v puts apart right)

    both : (a b : Bool) (x : Bool) → a ≡ true → b ≡ true → cond (a && b) true x ≡ true
    both a b x h k = grind arith

    same_number : (n : ℕ) → (n == n) ≡ true
    same_number n = grind arith

    changed : IsChanged (entries_in new) (with_followed (with_entry (snap_of key) line.chain v.followed) v) key line
    changed = changed_first (entries_in new) now (with_followed (with_entry (snap_of key) line.chain v.followed) v) key line there ended going number stands (both (snap_of key == snap_of key) (line.chain == line.chain) (v.followed (snap_of key) line.chain) (same_number (snap_of key)) (same_number line.chain))

    by : (k : Dbkey) → (then k ≡ now k) ⊎ ((k ≡ key) × (then k ≡ line)) → (then k ≡ now k) ⊎ ((then k ≡ v.base k) ⊎ IsChanged (entries_in new) (with_followed (with_entry (snap_of key) line.chain v.followed) v) k (then k))
    by k (inl same) = inl same
    by k (inr is) = inr (inr (subst (λ (l : Line). IsChanged (entries_in new) (with_followed (with_entry (snap_of key) line.chain v.followed) v) k l) (sym is.1) (subst (λ (j : Dbkey). IsChanged (entries_in new) (with_followed (with_entry (snap_of key) line.chain v.followed) v) j line) (sym is.0) changed)))
