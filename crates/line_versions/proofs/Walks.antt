-- Walks of readers over versions.
use Rattle.std.proofs.Common.{◌≡◌, ◌≤◌, ◌<◌, ℕ, ◌==◌, ◌&&◌, Bool, true, false, not, List, [], ◌∷◌, Option, None, refl, sym, ◌∙◌, ap, subst, arith, inl, inr}
use Rattle.std.specs.Prelude.{nat_lt}
use Rattle.std.specs.List.{list_any}
use Rattle.rdb_outside.specs.rdb_types.declared.keys.Dbkey.{Dbkey}
use Rattle.rdb_outside.specs.rdb_types.declared.keys.Tsn.{Tsn}
use Rattle.rdb_outside.specs.rdb_types.declared.keys.Line.{Line}
use Rattle.rdb_outside.specs.rdb_types.declared.keys.LineState.{LineState}
use Rattle.rdb_outside.specs.rdb_types.declared.keys.LineState.TheVariants.{Never}
use Rattle.snapshot_file.specs.declared.entry.SnapEntry.{SnapEntry}
use Rattle.line_versions.specs.Lines.{shown, shown_as}
use Rattle.line_versions.specs.Versions.{Entries, Followed, snap_of, version_of, Start, sees, LeadsOn, Walk, Sees}
use Rattle.line_versions.specs.Course.{IsAbove}

-- ---- what a reader sees

lt_no : (a b : ℕ) → b ≤ a → nat_lt a b ≡ false
lt_no a b h = grind arith

lt_yes : (a b : ℕ) → a < b → nat_lt a b ≡ true
lt_yes a b h = grind arith

and_no : (a b : Bool) → a ≡ false → (a && b) ≡ false
and_no a b h = grind arith

and_not : (a b : Bool) → b ≡ true → (a && not b) ≡ false
and_not a b h = grind arith

and_yes : (a b : Bool) → a ≡ true → b ≡ false → (a && not b) ≡ true
and_yes a b h k = grind arith

-- no number from its next one on
pub sees_future : (r : Start) (t : ℕ) → r.next ≤ t → sees r t ≡ false
unfolding sees
sees_future r t h = and_no (nat_lt t r.next) (not (list_any (λ a. a == t) r.active)) (lt_no t r.next h)

pub sees_active : (r : Start) (t : ℕ) → list_any (λ a. a == t) r.active ≡ true → sees r t ≡ false
unfolding sees
sees_active r t h = and_not (nat_lt t r.next) (list_any (λ a. a == t) r.active) h

pub sees_past : (r : Start) (t : ℕ) → t < r.next → list_any (λ a. a == t) r.active ≡ false → sees r t ≡ true
unfolding sees
sees_past r t h k = and_yes (nat_lt t r.next) (list_any (λ a. a == t) r.active) (lt_yes t r.next h) k

-- ---- other entries

-- what the reader may need stays
abbrev pub StaysFor : Entries → Followed → Entries → Followed → Start → Type 0
StaysFor E followed F held r = (file chain : ℕ) (e : SnapEntry) → E file chain e → followed file chain ≡ true → sees r e.pusher.number ≡ false → (F file chain e) × (held file chain ≡ true)

module _ (E F : Entries) (followed held : Followed) (r : Start) (key : Dbkey) (stay : StaysFor E followed F held r) where
  unseen_pusher : (line : Line) (at : ℕ) (s : LeadsOn E followed r key line at) → sees r s.entry.pusher.number ≡ false
  unseen_pusher line at s = ap (λ (t : Tsn). sees r t.number) s.pusher ∙ s.unseen

  abbrev leads_carried : (line : Line) (at : ℕ) (s : LeadsOn E followed r key line at) → LeadsOn F held r key line at
  leads_carried line at s =
      let there = stay (snap_of key) at s.entry s.stands s.held (unseen_pusher line at s) in
      record { unseen = s.unseen; chain = s.chain; number = s.number; entry = s.entry; stands = there.0; held = there.1; key_is = s.key_is; pusher = s.pusher }

  pub walk_carried : (over : List ℕ) (line : Line) (answer : Option (List ℕ)) → Walk E followed r key over line answer → Walk F held r key over line answer
  walk_carried [] line answer w = w
  walk_carried (at ∷ rest) line answer w = (leads_carried line at w.0, walk_carried rest (version_of w.0.entry) answer w.1)

  pub sees_carried : (line : Line) (answer : Option (List ℕ)) → Sees E followed r key line answer → Sees F held r key line answer
  sees_carried line answer s = record { over = s.over; walk = walk_carried s.over line answer s.walk }

-- ---- one version more

module _ (E : Entries) (followed : Followed) (r : Start) (key : Dbkey) where
  pub nothing_shown : (line : Line) (answer : Option (List ℕ)) → line.state ≡ Never → line.chain ≡ 0 → (over : List ℕ) → Walk E followed r key over line answer → answer ≡ None
  nothing_shown line answer never none [] (inl here) = here.1 ∙ ap (λ (s : LineState). shown_as s line.image) never
  nothing_shown line answer never none [] (inr end) = end.2
  nothing_shown line answer never none (at ∷ rest) w = absurd (no at w.0.number (sym w.0.chain ∙ none))
    where
      no : (n : ℕ) → 1 ≤ n → n ≡ 0 → ⊥
      no n h e = omega arith

  -- A version that the reader doesn't see was put above another: it still comes to the same.
  pub sees_above : (line before : Line) (answer : Option (List ℕ)) → IsAbove E followed key line before → sees r line.tsn.number ≡ false → Sees E followed r key before answer → Sees E followed r key line answer
  sees_above line before answer (inl first) unseen s = record { over = []; walk = inr (unseen, first.chain, nothing_shown before answer first.never first.none s.over s.walk) }
  sees_above line before answer (inr pushed) unseen s = record {
    over = line.chain ∷ s.over;
    walk = (
      record { unseen = unseen; chain = refl; number = pushed.number; entry = pushed.entry; stands = pushed.stands; held = pushed.held; key_is = pushed.key_is; pusher = pushed.pusher },
      subst (λ (l : Line). Walk E followed r key s.over l answer) (sym pushed.version) s.walk,
    );
  }

  -- a version that it sees is its own
  pub sees_own : (line : Line) (answer : Option (List ℕ)) → sees r line.tsn.number ≡ true → answer ≡ shown line → Sees E followed r key line answer
  sees_own line answer seen is = record { over = []; walk = inl (seen, is) }
