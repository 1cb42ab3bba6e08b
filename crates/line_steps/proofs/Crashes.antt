-- What a crash may leave goes on standing for what was committed.
use Rattle.std.proofs.Common.{◌≡◌, ◌≤◌, ℕ, zero, suc, ◌++◌, ◌∷◌, [], ◌==◌, Bool, true, false, List, length, refl, ◌∙◌, sym, ap, subst, arith, Option, Some, slice_get, ◌⊎◌, inl, inr, append_assoc, append-nil}
use Rattle.std.proofs.lemmas.Option.{none-some}
use Rattle.line_view.specs.Knowledge.{Lines}
use Rattle.line_view.specs.Writes.{laid_all}
use Rattle.rdb_account.specs.Events.{Event}
use Rattle.rdb_account.specs.Places.{Opening, Place, Transaction, Commit, place, retold}
use Rattle.rdb_account.specs.Lawful.{got_of}
use Rattle.lock_ties.specs.Ties.{needs_at}
use Rattle.lock_ties.proofs.Places.{number}
use Rattle.line_history.specs.kept_apart.Guards.{may_write}
use Rattle.line_history.proofs.of_kept_apart.Apart.{guarded-apart, write-guards}
use Rattle.line_history.specs.session_jobs.Records.{Model, IsOrderly}
use Rattle.line_history.proofs.Transactions.{commit-stands}
use Rattle.line_store.specs.Shelves.{Shelf}
use Rattle.line_store.specs.Calls.{MayStand, Lasts}
use Rattle.line_steps.specs.Right.{Ground, IsFit}
use Rattle.line_steps.specs.Images.{journal_node, IsNow, IsLeft, AreLeft, IsStored}

within : (cs : List Commit) (k : ℕ) (c : Commit) → slice_get cs k ≡ Some c → suc k ≤ length cs
within [] k c found = absurd (none-some c found)
within (x ∷ xs) zero c found = omega arith
within (x ∷ xs) (suc k) c found = let h = within xs k c found in omega (arith, h)

module _ (M : Model) (orderly : IsOrderly M) where
  left-grown : (o : Opening) (events es : List Event) (k : ℕ) (lines : Lines) → IsLeft M o events k lines → IsLeft M o (events ++ es) k lines
  left-grown o events es k lines h = record {
    before = h.before;
    behind = h.behind ++ es;
    is = ap (λ l. l ++ es) h.is ∙ append_assoc h.before h.behind es;
    enough = h.enough;
    stood = h.stood;
  }

  now-left : (o : Opening) (events : List Event) (k : ℕ) (lines : Lines) → k ≤ length (place o events).commits → IsNow M o (place o events) lines → IsLeft M o events k lines
  now-left o events k lines enough h = record { before = events; behind = []; is = sym (append-nil events); enough = enough; stood = h }

  -- What may stand now, the account has at its place: the committed lines, or those with the writes of who has the journal.
  pub stands-now : (o : Opening) (p : Place) (g : Ground) (h : Shelf) (lines : Lines) → IsFit M p g → IsStored M o p g h → MayStand h lines → IsNow M o p lines
  stands-now o p g h lines fit stored (inl is) = record { tables = p.tables; stands = subst (λ (x : Lines). M x p.tables) (sym (is ∙ stored.now)) fit.stands; among = inl refl }
  stands-now o p g h lines fit stored (inr (s, ws, flies, is)) =
      let c = stored.flies s ws flies in
      let x = c.writes.transaction in
      record {
        tables = (retold o.word p.tables x.lines).tables;
        stands = subst (λ (y : Lines). M y (retold o.word p.tables x.lines).tables) (sym (is ∙ (ap (laid_all ws) stored.now ∙ ap (λ vs. laid_all vs g.now) (sym c.are))))
            (commit-stands M orderly o.word x.got g.now x.lines (g.desk s).writes c.standing p.tables fit.stands c.writes.is.holds);
        among = inr (
          s,
          record {
            transaction = x;
            is_open = c.writes.is_open;
            writes = c.writes.writes;
            has_journal = subst (λ (y : Option Transaction). may_write (got_of y) journal_node ≡ true) c.writes.is_open c.has_journal;
            tables = refl;
          },
        );
      }

  -- events alone, with no commit
  pub left-more : (o : Opening) (events es : List Event) (left : ℕ → Lines → Type 0) (opens : ℕ → Type 0) (time : ℕ) → (place o (events ++ es)).commits ≡ (place o events).commits → AreLeft M o events left opens time → AreLeft M o (events ++ es) left opens time
  left-more o events es left opens time same h = record {
    began = h.began;
    openable = h.openable;
    opened = h.opened;
    going = h.going;
    later = λ k c found. h.later k c (ap (λ cs. slice_get cs k) (sym same) ∙ found);
    opening = λ lines l. left-grown o events es 0 lines (h.opening lines l);
    past = λ k c found. h.past k c (ap (λ cs. slice_get cs k) (sym same) ∙ found);
    each = λ k c found lines l. left-grown o events es (suc k) lines (h.each k c (ap (λ cs. slice_get cs k) (sym same) ∙ found) lines l);
  }

  -- A call of a store, and events behind it: what may stand before it and behind it stands at the places before and behind the events, and a commit among them bears this moment.
  pub left-goes-on : (o : Opening) (events es : List Event) (before behind : ℕ → Lines → Type 0) (opened-before opened-behind : ℕ → Type 0) (old new : Shelf) → ((lines : Lines) → behind new.clock.time lines → MayStand new lines) → Lasts before behind old new →
      ((t : ℕ) → t ≤ old.clock.time → opened-before t → opened-behind t) → old.clock.time ≤ new.clock.time →
      ((lines : Lines) → MayStand old lines → IsNow M o (place o events) lines) → ((lines : Lines) → MayStand new lines → IsNow M o (place o (events ++ es)) lines) →
      ((k : ℕ) (c : Commit) → slice_get (place o (events ++ es)).commits k ≡ Some c → (slice_get (place o events).commits k ≡ Some c) ⊎ (c.moment ≡ new.clock.time)) →
      length (place o events).commits ≤ length (place o (events ++ es)).commits →
      AreLeft M o events before opened-before old.clock.time → AreLeft M o (events ++ es) behind opened-behind new.clock.time
  left-goes-on o events es before behind opened-before opened-behind old new stands lasts opens later was now grown more h = record {
    began = h.began;
    openable = opens h.began h.going h.openable;
    opened = h.opened;
    going = omega (arith, h.going, later);
    opening = λ lines l. since 0 h.began h.going (omega arith) lines (h.opening lines) (lasts.since h.began lines h.going l);
    later = λ k c found. elim (grown k c found) [
      | inl e ↦ h.later k c e
      | inr e ↦ rw e (omega (arith, h.going, later))
    ];
    past = λ k c found. elim (grown k c found) [
      | inl e ↦ let p = h.past k c e in omega (arith, p, later)
      | inr e ↦ rw e (omega arith)
    ];
    each = λ k c found lines l. elim (grown k c found) [
      | inl e ↦ since (suc k) c.moment (h.past k c e) (within (place o events).commits k c e) lines (h.each k c e lines) (lasts.since c.moment lines (h.past k c e) l)
      | inr e ↦ now-left o (events ++ es) (suc k) lines (within (place o (events ++ es)).commits k c found) (now lines (stands lines (subst (λ t. behind t lines) e l)))
    ];
  }
    where
      since : (k t : ℕ) → t ≤ old.clock.time → k ≤ length (place o events).commits → (lines : Lines) → (before t lines → IsLeft M o events k lines) →
          before t lines ⊎ (MayStand old lines ⊎ MayStand new lines) → IsLeft M o (events ++ es) k lines
      since k t le enough lines left (inl b) = left-grown o events es k lines (left b)
      since k t le enough lines left (inr (inl a)) = left-grown o events es k lines (now-left o events k lines enough (was lines a))
      since k t le enough lines left (inr (inr a)) = now-left o (events ++ es) k lines (omega (arith, enough, more)) (now lines a)

-- at most one has the journal
pub one-in-flight : (M : Model) (p : Place) (g : Ground) → IsFit M p g → (a b : ℕ) → may_write (needs_at p a) journal_node ≡ true → may_write (needs_at p b) journal_node ≡ true → a ≡ b
one-in-flight M p g fit a b mine theirs = by (a == b) refl
  where
    by : (t : Bool) → (a == b) ≡ t → a ≡ b
    by true e = number a b e
    by false e = absurd (guarded-apart (needs_at p a) (needs_at p b) journal_node (fit.apart a b e) (write-guards (needs_at p a) journal_node mine) theirs)
