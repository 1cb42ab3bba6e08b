-- A walk turn by turn.
use Rattle.std.proofs.Common.{◌≡◌, ◌≤◌, ◌<◌, ◌+◌, ◌-◌, ℕ, IsTrue, ◌==◌, ◌&&◌, ◌||◌, not, Bool, true, false, List, [], ◌∷◌, map, length, Option, Some, None, refl, sym, ◌∙◌, ap, subst, arith, inl, inr}
use Rattle.std.specs.Prelude.{nat_lt}
use Rattle.std.specs.List.{list_any}
use Rattle.std.proofs.lemmas.Bool.{false≢true}
use Rattle.rdb_types.specs.declared.keys.Dbkey.{Dbkey}
use Rattle.rdb_types.specs.declared.keys.Tsn.{Tsn}
use Rattle.rdb_types.specs.declared.keys.Line.{Line}
use Rattle.snapshot_file.specs.declared.entry.SnapEntry.{SnapEntry}
use Rattle.line_versions.specs.Lines.{shown}
use Rattle.line_versions.specs.Versions.{Entries, Followed, snap_of, version_of, Start, sees, Walk}
use Rattle.rdb_outside.specs.Disk.{View}
use Rattle.snapshot_file.specs.Entry.{IsEntry}
use Rattle.rdb_outside.specs.Disk.{OnlyReads}
use Rattle.line_versions.specs.Files.{entries_in, snap_file, IsWithin}

-- ---- what a reader sees

any_of : (t : ℕ) (ts : List Tsn) → list_any (λ a. a == t) (map (λ (n : Tsn). n.number) ts) ≡ list_any (λ (n : Tsn). n.number == t) ts
any_of t [] = refl
any_of t (n ∷ ts) = ap (λ b. (n.number == t) || b) (any_of t ts)

abbrev pub started : ℕ → List Tsn → Start
started next ts = record { next = next; active = map (λ (n : Tsn). n.number) ts }

pub sees_below : (x : Start) (next : ℕ) (ts : List Tsn) (t : ℕ) (b : Bool) → x ≡ started next ts → t < next → b ≡ list_any (λ (n : Tsn). n.number == t) ts → not b ≡ sees x t
unfolding sees
sees_below x next ts t b is below found = sym (ap (λ y. sees y t) is ∙ (ap (λ a. nat_lt t next && not a) (any_of t ts ∙ sym found) ∙ by (nat_lt t next) (not b) (lt t next below)))
  where
    lt : (m n : ℕ) → m < n → nat_lt m n ≡ true
    lt m n h = grind arith

    by : (a c : Bool) → a ≡ true → (a && c) ≡ c
    by a c h = grind arith

pub sees_not : (x : Start) (next : ℕ) (ts : List Tsn) (t : ℕ) → x ≡ started next ts → next ≤ t → nat_lt t next ≡ sees x t
unfolding sees
sees_not x next ts t is above = sym (ap (λ y. sees y t) is ∙ by (nat_lt t next) (not (list_any (λ a. a == t) (map (λ (n : Tsn). n.number) ts))) (lt t next above))
  where
    lt : (m n : ℕ) → n ≤ m → nat_lt m n ≡ false
    lt m n h = grind arith

    by : (a c : Bool) → a ≡ false → (a && c) ≡ a
    by a c h = grind arith

-- ---- the walk

-- after so many turns of the whole walk it goes on from this line, to that answer
pub record GoesOn (E : Entries) (followed : Followed) (r : Start) (key : Dbkey) (turn whole : ℕ) (line : Line) (answer : Option (List ℕ)) : Type 0 where
  pub rest : List ℕ
  pub long : length rest + turn ≡ whole
  pub walk : Walk E followed r key rest line answer

module _ (E : Entries) (followed : Followed) (r : Start) (key : Dbkey) (whole : ℕ) (answer : Option (List ℕ)) where
  pub starts : (over : List ℕ) (line : Line) → length over ≡ whole → Walk E followed r key over line answer → GoesOn E followed r key 0 whole line answer
  starts over line long w = record { rest = over; long = omega (arith, long); walk = w }

  pub ends_seen : (turn : ℕ) (line : Line) → sees r line.tsn.number ≡ true → GoesOn E followed r key turn whole line answer → shown line ≡ answer
  ends_seen turn line seen g = by g.rest g.walk
    where
      by : (rest : List ℕ) → Walk E followed r key rest line answer → shown line ≡ answer
      by [] (inl here) = sym here.1
      by [] (inr end) = absurd (false≢true (sym end.0 ∙ seen))
      by (at ∷ rest) w = absurd (false≢true (sym w.0.unseen ∙ seen))

  pub ends_bare : (turn : ℕ) (line : Line) → sees r line.tsn.number ≡ false → line.chain ≡ 0 → GoesOn E followed r key turn whole line answer → None ≡ answer
  ends_bare turn line unseen none g = by g.rest g.walk
    where
      by : (rest : List ℕ) → Walk E followed r key rest line answer → None ≡ answer
      by [] (inl here) = absurd (false≢true (sym unseen ∙ here.0))
      by [] (inr end) = sym end.2
      by (at ∷ rest) w = let low : 1 ≤ at = w.0.number in let is : line.chain ≡ at = w.0.chain in absurd (omega (arith, low, is, none))

  -- the entry before
  pub record Before (line : Line) : Type 0 where
    pub at : ℕ
    pub chain : line.chain ≡ at
    pub entry : SnapEntry
    pub stands : E (snap_of key) line.chain entry
    pub held : followed (snap_of key) line.chain ≡ true
    pub key_is : entry.key ≡ key
    pub rest : List ℕ
    pub goes : Walk E followed r key rest (version_of entry) answer

  pub step_is : (turn : ℕ) (line : Line) → sees r line.tsn.number ≡ false → 1 ≤ line.chain → (g : GoesOn E followed r key turn whole line answer) → (s : Before line) × (length s.rest + (turn + 1) ≡ whole)
  step_is turn line unseen some g = by g.rest g.long g.walk
    where
      by : (rest : List ℕ) → length rest + turn ≡ whole → Walk E followed r key rest line answer → (s : Before line) × (length s.rest + (turn + 1) ≡ whole)
      by [] long (inl here) = absurd (false≢true (sym unseen ∙ here.0))
      by [] long (inr end) = let none : line.chain ≡ 0 = end.1 in absurd (omega (arith, some, none))
      by (at ∷ rest) long w = (
        record {
          at = at;
          chain = w.0.chain;
          entry = w.0.entry;
          stands = subst (λ (n : ℕ). E (snap_of key) n w.0.entry) (sym w.0.chain) w.0.stands;
          held = ap (λ (n : ℕ). followed (snap_of key) n) w.0.chain ∙ w.0.held;
          key_is = w.0.key_is;
          rest = rest;
          goes = w.1;
        },
        omega (arith, long),
      )

  abbrev pub IsFound : Line → Option Line → Type 0
  IsFound line found = (entry : SnapEntry) → E (snap_of key) line.chain entry → entry.key ≡ key → found ≡ Some (version_of entry)

  pub steps : (turn : ℕ) (line version : Line) → sees r line.tsn.number ≡ false → 1 ≤ line.chain → IsFound line (Some version) → GoesOn E followed r key turn whole line answer → GoesOn E followed r key (turn + 1) whole version answer
  steps turn line version unseen some found g =
      let s = step_is turn line unseen some g in
      let is : Some version ≡ Some (version_of s.0.entry) = found s.0.entry s.0.stands s.0.key_is in
      let same : version ≡ version_of s.0.entry = cc in
      record { rest = s.0.rest; long = s.1; walk = subst (λ (l : Line). Walk E followed r key s.0.rest l answer) (sym same) s.0.goes }

  pub ends_lost : (turn : ℕ) (line : Line) → sees r line.tsn.number ≡ false → 1 ≤ line.chain → IsFound line None → GoesOn E followed r key turn whole line answer → None ≡ answer
  ends_lost turn line unseen some found g =
      let s = step_is turn line unseen some g in
      let is : None ≡ Some (version_of s.0.entry) = found s.0.entry s.0.stands s.0.key_is in
      absurd cc

  pub ends_past : (turn limit : ℕ) (line : Line) → IsWithin limit followed → sees r line.tsn.number ≡ false → limit < line.chain → GoesOn E followed r key turn whole line answer → None ≡ answer
  ends_past turn limit line most unseen past g =
      let some : 1 ≤ line.chain = omega (arith, past) in
      let s = step_is turn line unseen some g in
      let low : line.chain ≤ limit = most (snap_of key) line.chain s.0.held in
      absurd (omega (arith, low, past))

  pub ends_tired : (turn limit : ℕ) (line : Line) → whole ≤ limit → limit ≤ turn → sees r line.tsn.number ≡ false → GoesOn E followed r key turn whole line answer → None ≡ answer
  ends_tired turn limit line most all unseen g = by g.rest g.long g.walk
    where
      by : (rest : List ℕ) → length rest + turn ≡ whole → Walk E followed r key rest line answer → None ≡ answer
      by [] long (inl here) = absurd (false≢true (sym unseen ∙ here.0))
      by [] long (inr end) = sym end.2
      by (at ∷ rest) long w = absurd (omega (arith, long, most, all))

-- what stood before a run of reads stands behind it
pub still : (old mid : View) → OnlyReads old mid → IsTrue old.tells → (file chain : ℕ) (entry : SnapEntry) → entries_in old.content file chain entry → entries_in mid.content file chain entry
still old mid reads tells file chain entry s = record { number = s.number; is = subst (λ (b : List ℕ). IsEntry b entry) (sym ((reads.keeps tells).content (snap_file file) (chain - 1))) s.is }
