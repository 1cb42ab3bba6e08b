-- A ledger at its beginning, and one with a state reached once more.
use Rattle.std.proofs.Common.{◌≡◌, ◌≢◌, ℕ, ◌+◌, Bool, true, false, List, [], ◌∷◌, ◌++◌, Option, Some, None, slice_get, length, length-append, ⊎_elim, ap, sym, subst, ◌∙◌, refl, arith}
use Rattle.rdb_outside.specs.Disk.{View, Pending}
use Rattle.rdb_outside.specs.Moments.{Since}
use Rattle.root_file.specs.declared.Root.{Root}
use Rattle.root_file.specs.Root.{IsRoot}
use Rattle.new_database.specs.Maker.{root_file}
use Rattle.line_opening.specs.stable_lines.Slots.{Undo}
use Rattle.line_opening.specs.stable_lines.Progress.{Progress, flying}
use Rattle.line_opening.specs.stable_lines.Facts.{Facts}
use Rattle.line_opening.specs.stable_lines.History.{State, IsAt, StandsFrom, GoesOn, state_of, state_with, with_try, with_commit}
use Rattle.line_opening.proofs.of_stable_lines.Histories.{try_goes_on, commit_goes_on, at_empty, at_empty_beside, since_stays, since_commit}
use Rattle.line_opening.proofs.of_stable_lines.Lists.{got_either, got_one}
use Rattle.line_seat.specs.declared.commit.CommitStage.TheVariants.{Committed}
use Rattle.disk_seats.specs.Ledgers.{Commit, Ledger, progress_with, progress_of, flies, new_ledger, reached_beside, reached_more, marked_at}
use Rattle.disk_seats.specs.Members.{LedgerFacts}
use Rattle.disk_seats.proofs.Progresses.{stands_still, is_flying, under_way}

-- ---- the beginning

begins_at : (base : Progress) → base.flight ≡ None → IsAt (record { reached = state_of base ∷ []; tried = [] }) base
begins_at base quiet = record { commits = 0; last = refl; is = refl; flight = λ f flies_now. let bad : None ≡ Some f = sym quiet ∙ flies_now in absurd (cc) }

pub new_facts : (v : View) (base : Progress) → Facts (Pending v) base → ((member : ℕ) → base.going member ≡ None) → base.flight ≡ None → base.former ≡ None
    → ((content : List ℕ) (root : Root) → Pending v root_file 0 content → IsRoot content root → root.state ≢ 3) → LedgerFacts v (new_ledger base v.moment)
unfolding begins_at
new_facts v base facts rests quiet settled used = record {
  facts = facts;
  quiet = quiet;
  settled = settled;
  used = used;
  member = rests;
  commit = λ c same. let bad : None ≡ Some c = same in absurd (cc);
  apart = λ m n i k a b ne p q. absurd (nothing i a p);
  at = begins_at base quiet;
  marked = refl;
  stands = λ k t got. let one = got_one v.moment t k got in
      subst (λ (x : ℕ). Since v x (StandsFrom (new_ledger base v.moment).history k)) one.1
      (subst (λ (n : ℕ). Since v v.moment (StandsFrom (new_ledger base v.moment).history n)) (sym one.0) (since_commit v (new_ledger base v.moment).history base (begins_at base quiet) facts));
}
  where
    nothing : (i : ℕ) (a : Undo) → slice_get [] i ≡ Some a → ⊥
    nothing i a bad = cc

-- ---- a state reached once more

at_beside : (b : Bool) (c : Commit) (g : Ledger) → c.stage ≢ Committed → g.base.flight ≡ None → flies c.stage ≡ b → IsAt g.history (progress_with (Some c) g.base) → IsAt (reached_beside b c g) (progress_with (Some c) g.base)
at_beside false c g under quiet is at =
    let still = stands_still c.stage g.base c.flight is under in
    subst (λ (p : Progress). IsAt (with_commit (state_of g.base) g.history) p) (sym still) (at_empty g.history g.base quiet (subst (λ (p : Progress). IsAt g.history p) still at))
at_beside true c g under quiet is at =
    let up = is_flying c.stage g.base c.flight is in
    let there = subst (λ (p : Progress). IsAt g.history p) up at in
    let last : there.commits + 1 ≡ length g.history.reached = sym there.last in
    subst (λ (p : Progress). IsAt (with_try (length g.history.reached) (state_with g.base c.flight) (with_commit (state_of g.base) g.history)) p) (sym up)
    (subst (λ (n : ℕ). IsAt (with_try n (state_with g.base c.flight) (with_commit (state_of g.base) g.history)) (flying c.flight g.base)) last (at_empty_beside g.history (flying c.flight g.base) c.flight refl there))

at_more : (commit : Option Commit) (g : Ledger) → ((c : Commit) → commit ≡ Some c → c.stage ≢ Committed) → g.base.flight ≡ None → IsAt g.history (progress_with commit g.base) → IsAt (reached_more commit g) (progress_with commit g.base)
at_more None g under quiet at = at_empty g.history g.base quiet at
at_more (Some c) g under quiet at = at_beside (flies c.stage) c g (under c refl) quiet refl at

beside_on : (b : Bool) (c : Commit) (g : Ledger) → GoesOn g.history (reached_beside b c g)
beside_on false c g = commit_goes_on g.history (state_of g.base)
beside_on true c g =
    let first = commit_goes_on g.history (state_of g.base) in
    let then_tried = try_goes_on (with_commit (state_of g.base) g.history) (length g.history.reached) (state_with g.base c.flight) in
    record { reached = λ j s got. then_tried.reached j s (first.reached j s got); tried = λ i e got. then_tried.tried i e (first.tried i e got) }

more_on : (commit : Option Commit) (g : Ledger) → GoesOn g.history (reached_more commit g)
more_on None g = commit_goes_on g.history (state_of g.base)
more_on (Some c) g = beside_on (flies c.stage) c g

beside_reached : (b : Bool) (c : Commit) (g : Ledger) → (reached_beside b c g).reached ≡ g.history.reached ++ state_of g.base ∷ []
beside_reached false c g = refl
beside_reached true c g = refl

more_reached : (commit : Option Commit) (g : Ledger) → (reached_more commit g).reached ≡ g.history.reached ++ state_of g.base ∷ []
more_reached None g = refl
more_reached (Some c) g = beside_reached (flies c.stage) c g

pub marked_facts : (v : View) (g : Ledger) → LedgerFacts v g → LedgerFacts v (marked_at v.moment g)
marked_facts v g was = record {
  facts = was.facts;
  quiet = was.quiet;
  settled = was.settled;
  used = was.used;
  member = was.member;
  commit = was.commit;
  apart = was.apart;
  at = at_now;
  marked = length-append g.moments (v.moment ∷ []) ∙ (let same = was.marked in let both : length g.moments + 1 ≡ length g.history.reached + 1 = omega (arith, same) in both) ∙ sym long;
  stands = λ k m got. ⊎_elim
      (λ earlier. since_stays v m k g.history (reached_more g.commit g) (was.stands k m earlier) (more_on g.commit g))
      (λ last. new_mark k m last.0 last.1 (got_one v.moment m last.0 last.2))
      (got_either g.moments (v.moment ∷ []) k m got);
}
  where
    at_now : IsAt (reached_more g.commit g) (progress_of g)
    at_now = at_more g.commit g (under_way v g was) was.quiet was.at

    long : length (reached_more g.commit g).reached ≡ length g.history.reached + 1
    long = ap (λ (l : List State). length l) (more_reached g.commit g) ∙ length-append g.history.reached (state_of g.base ∷ [])

    new_mark : (k m j : ℕ) → k ≡ length g.moments + j → (j ≡ 0) × (v.moment ≡ m) → Since v m (StandsFrom (reached_more g.commit g) k)
    new_mark k m j place is =
        let marked = was.marked in let last = at_now.last in let zero_is = is.0 in let longer = long in
        let here : at_now.commits ≡ k = omega (arith, place, marked, last, longer, zero_is) in
        subst (λ (x : ℕ). Since v x (StandsFrom (reached_more g.commit g) k)) is.1
        (subst (λ (x : ℕ). Since v v.moment (StandsFrom (reached_more g.commit g) x)) here (since_commit v (reached_more g.commit g) (progress_of g) at_now was.facts))
