-- A commit behind a step that answered Ok.
use Rattle.std.proofs.Common.{◌≡◌, ◌≢◌, ℕ, ◌+◌, ◌-◌, IsTrue, Bool, true, false, List, [], ◌∷◌, ◌++◌, Some, None, slice_get, length, length-append, ⊎_elim, ap, sym, subst, ◌∙◌, refl, arith}
use Rattle.rdb_types.specs.declared.file.FileId.{FileId}
use Rattle.rdb_outside.specs.Disk.{View, Pending}
use Rattle.rdb_outside.specs.Moments.{Since}
use Rattle.line_opening.specs.stable_lines.Slots.{Undo}
use Rattle.line_opening.specs.stable_lines.Progress.{Open, Flight, Progress, flying, landed}
use Rattle.line_opening.specs.stable_lines.Facts.{Facts}
use Rattle.line_opening.specs.stable_lines.History.{History, IsAt, StandsFrom, GoesOn, state_with, with_try, with_commit}
use Rattle.line_opening.proofs.of_stable_lines.Histories.{stays, try_goes_on, commit_goes_on, at_takes_off, at_lands, since_stays, since_commit}
use Rattle.line_opening.proofs.of_stable_lines.Lists.{got_either, got_one}
use Rattle.line_opening.proofs.of_stable_lines.Turns.{some_same, going_here, going_there}
use Rattle.line_opening.specs.line_moves.Calls.{OnlyWrites}
use Rattle.line_opening.specs.line_moves.Lines.{PutsOnly}
use Rattle.line_seat.specs.declared.commit.CommitStage.{CommitStage}
use Rattle.line_seat.specs.declared.commit.CommitStage.TheVariants.{Changing, Imaging, Gathering, Sealing, Landing, Committed}
use Rattle.line_seat.specs.Seats.{SeatFacts}
use Rattle.line_seat.specs.Stages.{CommitFacts, progress_at}
use Rattle.line_seat.proofs.SeatGoesOn.{behind_takeoff, behind_landing}
use Rattle.disk_seats.specs.Ledgers.{Standing, resting, changing, entries_of, Commit, Ledger, flies, history_at, commit_at, gone_on, landed_at, behind_step}
use Rattle.disk_seats.specs.Members.{CommitStands, LedgerFacts}
use Rattle.disk_seats.proofs.Standings.{apart_fewer}
use Rattle.disk_seats.proofs.Progresses.{stands_still, is_flying, either_bool, flight_keys}
use Rattle.disk_seats.proofs.OthersStay.{used_stays}
use Rattle.disk_seats.proofs.Assembled.{since_call}
use Rattle.disk_seats.proofs.MembersGoOn.{members_go_on}
use Rattle.disk_seats.proofs.HeldUp.{IsOfCommit, not_root, members_stay, other_lines, now_is, facts_now}

-- ---- the history

-- without its flight a progress is where the history ends, too
pub at_base : (h : History) (stage : CommitStage) (base : Progress) (f : Flight) → stage ≢ Committed → base.flight ≡ None → IsAt h (progress_at stage base f) → IsAt h base
at_base h stage base f under quiet at = ⊎_elim
    (λ off. subst (λ (p : Progress). IsAt h p) (stands_still stage base f off under) at)
    (λ up. let there = subst (λ (p : Progress). IsAt h p) (is_flying stage base f up) at in
    record { commits = there.commits; last = there.last; is = there.is; flight = λ e flies_now. let bad : None ≡ Some e = sym quiet ∙ flies_now in absurd (cc) })
    (either_bool (flies stage))

module _ (g : Ledger) (c : Commit) (next : CommitStage) (under : c.stage ≢ Committed) (next_under : next ≢ Committed) (quiet : g.base.flight ≡ None) (at : IsAt g.history (progress_at c.stage g.base c.flight)) where
  at_next : (a b : Bool) → flies c.stage ≡ a → flies next ≡ b → IsAt (history_at a b c g) (progress_at next g.base c.flight)
  at_next false false was is = subst (λ (p : Progress). IsAt g.history p) (sym (stands_still next g.base c.flight is next_under)) (at_base g.history c.stage g.base c.flight under quiet at)
  at_next false true was is =
      let here = at_base g.history c.stage g.base c.flight under quiet at in
      let last : here.commits ≡ length g.history.reached - 1 = (let n : length g.history.reached ≡ here.commits + 1 = here.last in omega (arith, n)) in
      subst (λ (p : Progress). IsAt (with_try (length g.history.reached - 1) (state_with g.base c.flight) g.history) p) (sym (is_flying next g.base c.flight is))
      (subst (λ (n : ℕ). IsAt (with_try n (state_with g.base c.flight) g.history) (flying c.flight g.base)) last (at_takes_off g.history g.base c.flight here))
  at_next true false was is = subst (λ (p : Progress). IsAt g.history p) (sym (stands_still next g.base c.flight is next_under)) (at_base g.history c.stage g.base c.flight under quiet at)
  at_next true true was is = subst (λ (p : Progress). IsAt g.history p) (is_flying c.stage g.base c.flight was ∙ sym (is_flying next g.base c.flight is)) at

goes_at : (a b : Bool) (c : Commit) (g : Ledger) → GoesOn g.history (history_at a b c g)
goes_at false false c g = stays g.history
goes_at false true c g = try_goes_on g.history (length g.history.reached - 1) (state_with g.base c.flight)
goes_at true b c g = stays g.history

reached_at : (a b : Bool) (c : Commit) (g : Ledger) → (history_at a b c g).reached ≡ g.history.reached
reached_at false false c g = refl
reached_at false true c g = refl
reached_at true b c g = refl

-- ---- the ledger

module _ (v w : View) (file : FileId) (slot : ℕ) (t : IsTrue v.tells) (rest : OnlyWrites file slot v w) (of : IsOfCommit file slot) (g : Ledger) (c : Commit) (was : LedgerFacts v g) (commits : g.commit ≡ Some c) (facts : Facts (Pending w) (progress_at c.stage g.base c.flight)) (puts : PutsOnly c.lines v.content w.content) where
  old : CommitStands v g.base g.standing c
  old = was.commit c commits

  at_stage : IsAt g.history (progress_at c.stage g.base c.flight)
  at_stage = subst (λ (p : Progress). IsAt g.history p) (now_is v w file slot t rest of g c was commits facts) was.at

  since : (k m : ℕ) → slice_get g.moments k ≡ Some m → Since w m (StandsFrom g.history k)
  since = since_call v w file slot g t rest was (facts_now v w file slot t rest of g c was commits facts)

  gone_facts : (next : CommitStage) → next ≢ Committed → CommitFacts next w g.base c.place c.lines c.flight → LedgerFacts w (gone_on next c g)
  gone_facts next under there = record {
    facts = there.facts;
    quiet = was.quiet;
    settled = was.settled;
    used = used_stays v w file slot t (not_root file slot of) rest was.used;
    member = members_stay v w file slot t rest of g.base g.standing c.member c.transaction.entries old.its (other_lines v w file slot t rest of g c was commits facts puts) was.member;
    commit = λ d same. subst (λ (k : Commit). CommitStands w g.base g.standing k) (some_same (commit_at next c) d same) (record { its = old.its; under_way = under; is = old.is; of_entries = old.of_entries; facts = there });
    apart = was.apart;
    at = at_next g c next old.under_way under was.quiet at_stage (flies c.stage) (flies next) refl refl;
    marked = was.marked ∙ sym (ap (λ l. length l) (reached_at (flies c.stage) (flies next) c g));
    stands = λ k m got. since_stays w m k g.history (history_at (flies c.stage) (flies next) c g) (since k m got) (goes_at (flies c.stage) (flies next) c g);
  }

  abbrev after : History
  after = with_commit (state_with g.base c.flight) g.history

  at_after : IsAt (with_commit (state_with g.base c.flight) g.history) (landed c.flight g.base)
  at_after = at_lands g.history g.base c.flight (at_base g.history c.stage g.base c.flight old.under_way was.quiet at_stage)

  -- what another seat holds behind the landing
  seat_lands : (s : ℕ) (o : Open) (all : List Undo) (n : ℕ) → s ≢ c.member → g.standing s ≡ changing all n → SeatFacts w g.base s o all n → SeatFacts w (landed c.flight g.base) s o all n
  seat_lands s o all n apart is seat = behind_landing w (flying c.flight g.base) s o all n c.flight
      (behind_takeoff w g.base s o all n c.flight seat (λ same. apart (sym same ∙ old.is.its))
      (λ i undo got k line there equal. let of_it = flight_keys v g.base g.standing c old k line there in
      was.apart c.member s of_it.0 i of_it.1 undo (λ same. apart (sym same)) of_it.2 (ap (λ (x : Standing). slice_get (entries_of x) i) is ∙ got) (of_it.3 ∙ equal)))
      refl

  pub landed_facts : Facts (Pending w) (landed c.flight g.base) → LedgerFacts w (landed_at w.moment c g)
  landed_facts there = record {
    facts = there;
    quiet = refl;
    settled = was.settled;
    used = used_stays v w file slot t (not_root file slot of) rest was.used;
    member = members_go_on w g.base (landed c.flight g.base) c.member resting g.standing
        (λ s apart. going_there g.base c.flight.member None s (λ same. apart (same ∙ old.is.its)))
        seat_lands (members_stay v w file slot t rest of g.base g.standing c.member c.transaction.entries old.its (other_lines v w file slot t rest of g c was commits facts puts) was.member)
        (ap (landed c.flight g.base).going (sym old.is.its) ∙ going_here g.base c.flight.member None);
    commit = λ d same. let bad : None ≡ Some d = same in absurd (cc);
    apart = apart_fewer g.standing c.member resting was.apart (λ i a got. absurd (nothing i a got));
    at = at_after;
    marked = length-append g.moments (w.moment ∷ []) ∙ (let same = was.marked in let both : length g.moments + 1 ≡ length g.history.reached + 1 = omega (arith, same) in both) ∙ sym (length-append g.history.reached (state_with g.base c.flight ∷ []));
    stands = λ k m got. ⊎_elim
        (λ earlier. since_stays w m k g.history after (since k m earlier) (commit_goes_on g.history (state_with g.base c.flight)))
        (λ last. new_mark k m last.0 last.1 (got_one w.moment m last.0 last.2))
        (got_either g.moments (w.moment ∷ []) k m got);
  }
    where
      nothing : (i : ℕ) (a : Undo) → slice_get [] i ≡ Some a → ⊥
      nothing i a bad = cc

      new_mark : (k m j : ℕ) → k ≡ length g.moments + j → (j ≡ 0) × (w.moment ≡ m) → Since w m (StandsFrom after k)
      new_mark k m j place is =
          let marked = was.marked in let commits_are : length (g.history.reached ++ state_with g.base c.flight ∷ []) ≡ at_after.commits + 1 = at_after.last in
          let long = length-append g.history.reached (state_with g.base c.flight ∷ []) in
          let one : length (state_with g.base c.flight ∷ []) ≡ 1 = refl in
          let zero_is = is.0 in
          let here : at_after.commits ≡ k = omega (arith, place, marked, commits_are, long, zero_is, one) in
          subst (λ (x : ℕ). Since w x (StandsFrom after k)) is.1 (subst (λ (x : ℕ). Since w w.moment (StandsFrom after x)) here (since_commit w after (landed c.flight g.base) at_after there))

  pub step_facts : (next : CommitStage) → CommitFacts next w g.base c.place c.lines c.flight → LedgerFacts w (behind_step next w.moment c g)
  step_facts (Changing at) there = gone_facts (Changing at) (λ same. let bad : Changing at ≡ Committed = same in cc) there
  step_facts (Imaging at) there = gone_facts (Imaging at) (λ same. let bad : Imaging at ≡ Committed = same in cc) there
  step_facts Gathering there = gone_facts Gathering (λ same. let bad : Gathering ≡ Committed = same in cc) there
  step_facts Sealing there = gone_facts Sealing (λ same. let bad : Sealing ≡ Committed = same in cc) there
  step_facts Landing there = gone_facts Landing (λ same. let bad : Landing ≡ Committed = same in cc) there
  step_facts Committed there = landed_facts there.facts
