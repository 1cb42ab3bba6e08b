-- Keys of writes that are added one after another.
use Rattle.std.proofs.Common.{◌≡◌, ℕ, zero, suc, ◌+◌, ◌≤◌, ◌<◌, ◌||◌, ◌⊎◌, inl, inr, Bool, true, false, cond, List, [], ◌∷◌, take, get_or, length, Option, Some, None, refl, sym, ap, ◌∙◌, arith}
use Rattle.std.specs.Prelude.{is_some, if◌then◌else◌}
use Rattle.std.specs.Ordering.{is_eq}
use Rattle.std.specs.Cmp.{tied_itself}
use Rattle.std.specs.FinMap.Entries.{find, find-put}
use Rattle.rdb_types.specs.declared.keys.Dbkey.{Dbkey}
use Rattle.rdb_types.specs.declared.keys.Line.{Line}
use Rattle.rdb_types.specs.declared.keys.Tsn.{Tsn}
use Rattle.rdb_types.specs.Order.{dbkey_order}
use Rattle.rdb_types.specs.OrderLaws.{dbkey_total, same_dbkey}
use Rattle.line_view.specs.declared.writes.Write.{Write}
use Rattle.line_store.specs.Seats.{is_written, lines_added}
use Rattle.member_memory.specs.Memory.{Memory, writes_in}
use Rattle.member_memory.specs.Changes.{blank, with_key, behind, Grows, same, AreAdded}
use Rattle.member_memory.proofs.Counting.{written-in, one-behind, one-added, first-added}
use Rattle.member_memory.proofs.Growing.{tied, length-more, grown-more}

-- the keys of so many writes were added
pub record AddsSome (tsn : Tsn) (limit : ℕ) (writes : List Write) (n : ℕ) (old new : Memory) : Type 0 where
  pub grows : Grows tsn writes old new
  pub added : AreAdded (take n writes) old new
  pub fits : (length new.keys ≤ limit) ⊎ (length new.keys ≡ length old.keys)

pub adds-none : (tsn : Tsn) (limit : ℕ) (writes : List Write) (m : Memory) → AddsSome tsn limit writes 0 m m
adds-none tsn limit writes m = record {
  grows = same m refl;
  added = record { seen = λ key. sym (written-in key m.lines); count = omega arith };
  fits = inr refl;
}

abbrev one-unless : Bool → ℕ
one-unless b = if b then 0 else 1

-- a write is one of them
is-one : (writes : List Write) (n : ℕ) (w : Write) → n < length writes → w ≡ get_or writes n w → is_written w.key writes ≡ true
is-one [] n w within is = absurd (omega arith)
is-one (x ∷ xs) zero w within is = ap (λ (v : Write). is_eq (dbkey_order w.key v.key) || is_written w.key xs) (sym is) ∙ ap (λ r. is_eq r || is_written w.key xs) (tied_itself dbkey_total w.key)
is-one (x ∷ xs) (suc n) w within is = ap (λ b. is_eq (dbkey_order w.key x.key) || b) (is-one xs n w (omega (arith, within)) is) ∙ always (is_eq (dbkey_order w.key x.key))
  where
    always : (b : Bool) → (b || true) ≡ true
    always true = refl
    always false = refl

module _ (tsn : Tsn) (limit : ℕ) (writes : List Write) (n : ℕ) (w : Write) (old new : Memory) (within : n < length writes) (is : w ≡ get_or writes n w) (so-far : AddsSome tsn limit writes n old new) where
  seen-here : is_written w.key (behind (writes_in old.lines) (take n writes)) ≡ is_some (find dbkey_order w.key new.lines)
  seen-here = sym (so-far.added.seen w.key)

  absorbed : (b c : Bool) → (b ≡ true → c ≡ true) → c ≡ (b || c)
  absorbed true c h = h refl
  absorbed false c h = refl

  -- it has a line already
  pub adds-again : is_some (find dbkey_order w.key new.lines) ≡ true → AddsSome tsn limit writes (n + 1) old new
  adds-again has = record {
    grows = so-far.grows;
    added = record {
      seen = λ key.
          so-far.added.seen key
          ∙ absorbed (is_eq (dbkey_order key w.key)) _ (λ tie. sym (so-far.added.seen key) ∙ ap (λ (k : Dbkey). is_some (find dbkey_order k new.lines)) (same_dbkey key w.key (tied _ tie)) ∙ has)
          ∙ ap (is_written key) (sym (one-behind (writes_in old.lines) writes n w within is));
      count =
          let one = one-added (writes_in old.lines) writes n w within is in
          let more : one-unless (is_written w.key (behind (writes_in old.lines) (take n writes))) ≡ 0 = ap one-unless (seen-here ∙ has) in
          omega (arith, one, more, so-far.added.count);
    };
    fits = so-far.fits;
  }

  is-some-put : (b : Bool) (line : Line) (found : Option Line) → is_some (cond b (Some line) found) ≡ (b || is_some found)
  is-some-put true line found = refl
  is-some-put false line found = refl

  -- it has none, and there is room for one
  pub adds-more : find dbkey_order w.key new.lines ≡ None → length new.keys < limit → AddsSome tsn limit writes (n + 1) old (with_key tsn w.key new)
  adds-more none room = record {
    grows = grown-more tsn writes old new (with_key tsn w.key new) w.key so-far.grows (is-one writes n w within is) none refl;
    added = record {
      seen = λ key.
          ap is_some (find-put dbkey_order dbkey_total key w.key (blank tsn) new.lines)
          ∙ is-some-put (is_eq (dbkey_order key w.key)) (blank tsn) (find dbkey_order key new.lines)
          ∙ ap (λ b. is_eq (dbkey_order key w.key) || b) (so-far.added.seen key)
          ∙ ap (is_written key) (sym (one-behind (writes_in old.lines) writes n w within is));
      count =
          let one = one-added (writes_in old.lines) writes n w within is in
          let more : one-unless (is_written w.key (behind (writes_in old.lines) (take n writes))) ≡ 1 = ap one-unless (seen-here ∙ ap is_some none) in
          omega (arith, one, more, so-far.added.count, length-more new.keys w.key);
    };
    fits = inl (omega (arith, length-more new.keys w.key, room));
  }

  -- it has none, and there are as many as there may be
  pub too-many : find dbkey_order w.key new.lines ≡ None → limit ≤ length new.keys → limit < length old.keys + lines_added (writes_in old.lines) writes
  too-many none full =
      let one = one-added (writes_in old.lines) writes n w within is in
      let more : one-unless (is_written w.key (behind (writes_in old.lines) (take n writes))) ≡ 1 = ap one-unless (seen-here ∙ ap is_some none) in
      omega (arith, one, more, so-far.added.count, first-added (writes_in old.lines) writes (n + 1), full)
