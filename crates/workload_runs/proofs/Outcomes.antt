-- What a run, and those behind it, come to.
use Rattle.std.proofs.Common.{◌≡◌, ◌≤◌, ◌+◌, ℕ, true, false, List, [], ◌∷◌, length, map, ◌⊎◌, inl, inr, refl, sym, subst, arith}
use Rattle.rdb_meaning.specs.declared.tables.Tables.{Tables}
use Rattle.rdb_account.specs.declared.event.Event.{Event as Declared}
use Rattle.rdb_account.specs.Events.{event_of}
use Rattle.rdb_account.specs.Legal.{IsLegal}
use Rattle.rdb_account.specs.Places.{Opening, place}
use Rattle.session_states.specs.declared.item_queue.WholeScript.{WholeScript}
use Rattle.line_runs.specs.line_cluster.Deaths.{RoseBy}
use Rattle.line_runs.specs.line_cluster.Sound.{FollowsScripts}
use Rattle.line_runs.specs.line_cluster.Turned.{HaveAllEnded}
use Rattle.line_runs.specs.Openings.{stop_of}
use Rattle.workload_replies.specs.Replies.{has_death}
use Rattle.workload_runs.specs.Runs.{Frame, IsRun, AreRuns, EndIf}
use Rattle.workload_runs.specs.Statuses.{IsWhole, deaths_of_last, have_death, is_run_status, last_of}
use Rattle.workload_runs.proofs.Chain.{InFront, before-more, no-run}
use Rattle.workload_runs.proofs.Tallies.{counted-more, died-more, harmed-more, lived-more, rose-none, rose-past, stopped-more}

-- what all runs of an origin have
abbrev pub frame_of : Opening → Frame
frame_of o = record { word = o.word; may_die = o.may_die }

-- The accounts of runs that say these scripts, of which there are n, and the status with which they end; and the faults of the disk before and behind them.
pub record Outcome (told : Type 0) (f : Frame) (t : Tables) (ss : List (List WholeScript)) (n before behind : ℕ) (accounts : List (List Declared)) (ended : ℕ) : Type 0 where
  pub runs : told → AreRuns (EndIf (IsWhole ended)) f t ss accounts
  pub status : is_run_status ended ≡ true
  pub count : ended ≡ 0 → length accounts ≡ n
  pub lived : ended ≡ 0 → have_death accounts ≡ false
  pub died : ended ≡ 8 → has_death (last_of accounts) ≡ true
  pub harmed : told → RoseBy (deaths_of_last accounts) before behind
  pub stopped : told → ended ≡ 3 → RoseBy (deaths_of_last accounts + 1) before behind

-- a run whose sessions all came to their ends, and none of which died
pub record HasEnded (told : Type 0) (o : Opening) (sessions : ℕ) (s : List WholeScript) (e : List Declared) (before behind : ℕ) : Type 0 where
  pub count : length s ≡ sessions
  pub follows : FollowsScripts o s
  pub stops : o.stops ≡ stop_of s
  pub legal : told → IsLegal o (map event_of e)
  pub whole : told → HaveAllEnded o sessions (map event_of e)
  pub lived : has_death e ≡ false
  pub no_fewer : told → RoseBy 0 before behind

-- ---- statuses

-- where the workload ends with a run, or before it
abbrev pub Ends : ℕ → Type 0
Ends status = (status ≡ 3) ⊎ (status ≡ 4) ⊎ (status ≡ 5) ⊎ (status ≡ 8)

of-end : (status : ℕ) → Ends status → is_run_status status ≡ true
of-end status (inl is) = subst (λ (n : ℕ). is_run_status n ≡ true) (sym is) refl
of-end status (inr (inl is)) = subst (λ (n : ℕ). is_run_status n ≡ true) (sym is) refl
of-end status (inr (inr (inl is))) = subst (λ (n : ℕ). is_run_status n ≡ true) (sym is) refl
of-end status (inr (inr (inr is))) = subst (λ (n : ℕ). is_run_status n ≡ true) (sym is) refl

no-zero : (status : ℕ) → Ends status → status ≡ 0 → ⊥
no-zero status ends zero_is = grind arith

-- one that wasn't begun
abbrev pub Unbegun : ℕ → Type 0
Unbegun status = (status ≡ 3) ⊎ (status ≡ 4) ⊎ (status ≡ 5)

an-end : (status : ℕ) → Unbegun status → Ends status
an-end status (inl is) = inl is
an-end status (inr (inl is)) = inr (inl is)
an-end status (inr (inr is)) = inr (inr (inl is))

no-eight : (status : ℕ) → Unbegun status → status ≡ 8 → ⊥
no-eight status ends eight = grind arith

in-front-status : (e : List Declared) (es accounts : List (List Declared)) (status ended : ℕ) → InFront e es status accounts ended → is_run_status status ≡ true → is_run_status ended ≡ true
in-front-status e es accounts status ended (inl (is, same)) before = subst (λ (n : ℕ). is_run_status n ≡ true) (sym same) before
in-front-status e es accounts status ended (inr (is, same)) before = subst (λ (n : ℕ). is_run_status n ≡ true) (sym same) refl

-- ---- the runs that were begun

-- no further one
pub no-more : (told : Type 0) (f : Frame) (t : Tables) (b : ℕ) → Outcome told f t [] 0 b b [] 0
no-more told f t b = record {
  runs = λ it. no-run (EndIf (IsWhole 0)) f t [];
  status = refl;
  count = λ is. refl;
  lived = λ is. refl;
  died = λ eight. absurd (let no : ⊥ = omega (arith, eight) in no);
  harmed = λ it. rose-none b b (omega arith);
  stopped = λ it three. absurd (let no : ⊥ = omega (arith, three) in no);
}

-- none, since this status came before
pub none-begun : (told : Type 0) (f : Frame) (t : Tables) (ss : List (List WholeScript)) (n b c status : ℕ)
    → Unbegun status → b ≤ c → (status ≡ 3 → RoseBy 1 b c) → Outcome told f t ss n b c [] status
none-begun told f t ss n b c status unbegun later rose = record {
  runs = λ it. no-run (EndIf (IsWhole status)) f t ss;
  status = of-end status (an-end status unbegun);
  count = λ zero_is. absurd (no-zero status (an-end status unbegun) zero_is);
  lived = λ is. refl;
  died = λ eight. absurd (no-eight status unbegun eight);
  harmed = λ it. rose-none b c later;
  stopped = λ it. rose;
}

-- the first of them ended the workload
pub ends-here : (told : Type 0) (f : Frame) (t : Tables) (ss : List (List WholeScript)) (n a c : ℕ) (accounts : List (List Declared)) (status : ℕ)
    → (told → AreRuns (EndIf (IsWhole status)) f t ss accounts) → Ends status → (status ≡ 8 → has_death (last_of accounts) ≡ true)
    → (told → RoseBy (deaths_of_last accounts) a c) → (told → status ≡ 3 → RoseBy (deaths_of_last accounts + 1) a c)
    → Outcome told f t ss n a c accounts status
ends-here told f t ss n a c accounts status runs ends died harmed stopped = record {
  runs = runs;
  status = of-end status ends;
  count = λ zero_is. absurd (no-zero status ends zero_is);
  lived = λ zero_is. absurd (no-zero status ends zero_is);
  died = died;
  harmed = harmed;
  stopped = stopped;
}

-- a run in front of what came behind it
pub goes-on : (told : Type 0) (o : Opening) (sessions : ℕ) (s : List WholeScript) (ss : List (List WholeScript)) (e : List Declared) (es accounts : List (List Declared)) (n status ended a b c d : ℕ)
    → HasEnded told o sessions s e a b → Outcome told (frame_of o) (place o (map event_of e)).tables ss n b c es status → InFront e es status accounts ended → d ≡ c
    → Outcome told (frame_of o) o.tables (s ∷ ss) (n + 1) a d accounts ended
goes-on told o sessions s ss e es accounts n status ended a b c d run more front same = record {
  runs = λ it.
      let is : IsRun (frame_of o) o.tables s (map event_of e) = record { opening = o; named = refl; lets = refl; begins = refl; follows = run.follows; stops = run.stops; legal = run.legal it } in
      before-more (frame_of o) o.tables s ss e es accounts status ended front is (subst (λ (k : ℕ). HaveAllEnded o k (map event_of e)) (sym run.count) (run.whole it)) (more.runs it);
  status = in-front-status e es accounts status ended front more.status;
  count = counted-more e es accounts status ended n front more.count;
  lived = lived-more e es accounts status ended front run.lived more.lived;
  died = died-more e es accounts status ended front more.died;
  harmed = λ it. subst (λ (x : ℕ). RoseBy (deaths_of_last accounts) a x) (sym same) (harmed-more e es accounts status ended a b c front run.lived (run.no_fewer it) (more.harmed it));
  stopped = λ it three. subst (λ (x : ℕ). RoseBy (deaths_of_last accounts + 1) a x) (sym same) (stopped-more e es accounts status ended a b c front run.lived (run.no_fewer it) (more.stopped it) three);
}

-- the scripts, by what they are
pub as-said : (told : Type 0) (f : Frame) (t : Tables) (s known : List WholeScript) (ss : List (List WholeScript)) (n a d : ℕ) (accounts : List (List Declared)) (status : ℕ)
    → s ≡ known → Outcome told f t (s ∷ ss) n a d accounts status → Outcome told f t (known ∷ ss) n a d accounts status
as-said told f t s known ss n a d accounts status same it = subst (λ (x : List WholeScript). Outcome told f t (x ∷ ss) n a d accounts status) same it

-- ---- what comes behind a run, by what the next one was given

-- the word of the database, and what this run committed; and what was read in between
pub as-given : (told : Type 0) (o : Opening) (ss : List (List WholeScript)) (word : List ℕ) (seen e : List Declared) (n b mid c : ℕ) (accounts : List (List Declared)) (status : ℕ)
    → word ≡ o.word → seen ≡ e → b ≤ mid → Outcome told (record { word = word; may_die = o.may_die }) (place o (map event_of seen)).tables ss n mid c accounts status
    → Outcome told (frame_of o) (place o (map event_of e)).tables ss n b c accounts status
as-given told o ss word seen e n b mid c accounts status named same later it = record {
  runs = λ is. subst (λ (w : List ℕ). AreRuns (EndIf (IsWhole status)) (record { word = w; may_die = o.may_die }) (place o (map event_of e)).tables ss accounts) named
      (subst (λ (es : List Declared). AreRuns (EndIf (IsWhole status)) (record { word = word; may_die = o.may_die }) (place o (map event_of es)).tables ss accounts) same (it.runs is));
  status = it.status;
  count = it.count;
  lived = it.lived;
  died = it.died;
  harmed = λ is. rose-past (deaths_of_last accounts) b mid c later (it.harmed is);
  stopped = λ is three. rose-past (deaths_of_last accounts + 1) b mid c later (it.stopped is three);
}
